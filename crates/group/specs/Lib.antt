pub mod Settling
pub mod Directs
pub mod FirstWay
