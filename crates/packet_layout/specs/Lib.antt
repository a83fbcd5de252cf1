-- The packet layer's record in registers and arrays, and the values of a call and an answer.
pub mod Lengths
pub mod Views
pub mod Lent
