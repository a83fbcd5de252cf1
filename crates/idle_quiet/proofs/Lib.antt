-- Laws of idle slots as the arrays hold them, and what a shift and a count of leading cells do.
pub mod Leading
pub mod Shifting
pub mod Counting
pub mod Passing
