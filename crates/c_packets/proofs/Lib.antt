-- Laws of calls and of a fresh record, and the proofs of the functions.
pub mod Arriving
pub mod Opened
