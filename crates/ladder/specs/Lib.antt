pub mod Ready
pub mod Ways
pub mod LastStep
