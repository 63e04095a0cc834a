pub mod Choices
pub mod Lists
pub mod Sums
pub mod Signed
pub mod Parts
pub mod Internal
pub mod Keys
pub mod Answers
