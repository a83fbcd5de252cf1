-- Laws of commands as numbers, and the proofs of the functions.
pub mod Fitting
pub mod Writing
pub mod Running
