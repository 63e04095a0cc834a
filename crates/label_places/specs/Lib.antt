pub mod Classes
pub mod Stands
pub mod Codes
pub mod MentionsStandElsewhere
