pub mod Linked
pub mod Told
