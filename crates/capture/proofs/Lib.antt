-- The program's proofs: a number's digits, and the script that is written.
pub mod Digits
pub mod Written
