-- One turn of each loop over the lookahead.
pub mod Turns
pub mod Spending
