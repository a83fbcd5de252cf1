-- Laws of slots on lent arrays, and the proofs of the functions.
pub mod Told
pub mod Opened
pub mod Lent
pub mod ArbiterTold
