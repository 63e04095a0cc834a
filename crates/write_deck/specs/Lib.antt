pub mod Lines
pub mod Deck
pub mod Verdict
