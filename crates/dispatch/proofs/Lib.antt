-- Lemmas on plain values for the proofs of this crate.
mod Lead
mod Levels
mod Places
mod RivalsSuffice
mod Scaling
mod Taking
