-- Laws of words, and the proofs of the functions.
pub mod Bits
pub mod Calling
pub mod Nearest
pub mod RoundTrip
pub mod SlotsLeft
