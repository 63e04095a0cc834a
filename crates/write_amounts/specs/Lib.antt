pub mod Amounts
pub mod Held
