-- What belongs to no one function: what a `?` tells, the reader's type in a walk, and what its functions promise.
pub mod Asked
pub mod Held
pub mod Promises
