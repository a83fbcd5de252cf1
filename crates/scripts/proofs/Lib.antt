-- Proofs of scripts: the reader's answer, the judge's turns, and that what is written reads back.
pub mod Parts
pub mod Answers
pub mod Turns
pub mod Back
