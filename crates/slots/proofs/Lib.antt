-- The program's proofs.
pub mod Texts
pub mod Within
