-- What belongs to no one function: a line's answer as the chain of its fields' answers.
pub mod Chains
