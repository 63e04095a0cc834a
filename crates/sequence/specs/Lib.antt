pub mod Matches
pub mod Placings
pub mod RuleByRule
pub mod SameGroups
pub mod NextKey
