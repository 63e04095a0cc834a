-- Lemmas on plain values for the proofs of this crate.
mod Products
mod Costs
mod Asked
mod Rooms
