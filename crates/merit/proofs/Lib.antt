pub mod LevelNeverBelowB
pub mod PricesRise
pub mod PlainIsSettled
