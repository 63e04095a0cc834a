pub mod Sharing
pub mod Shared
pub mod Live
pub mod Rows
pub mod Members
pub mod Leads
pub mod MwhsListed
