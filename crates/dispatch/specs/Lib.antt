pub mod Taken
pub mod Rivals
pub mod LinesOfPrices
pub mod TakenIsPlain
