-- What belongs to no one function: the steps of the rules' readers at a place.
pub mod Texts
pub mod Lists
pub mod Labels
pub mod Amounts
