pub mod Inked
pub mod Texts
pub mod Lengths
