-- Laws of the runner.
-- What is left of a script that was judged good.
pub mod Left
-- What a script that was judged good prints, from its parts.
pub mod Prints
-- And any bytes.
pub mod Whole
