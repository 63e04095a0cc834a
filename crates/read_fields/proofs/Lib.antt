-- What belongs to no one function: the steps of the rules' readers at a place.
pub mod Bytes
pub mod Numbers
pub mod Labels
pub mod Characters
