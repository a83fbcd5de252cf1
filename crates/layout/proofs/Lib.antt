-- Laws of the state in registers and arrays.
-- Entries as bytes, cells and counts.
pub mod Entries
pub mod Cells
pub mod Counts
-- What accepted sizes keep small.
pub mod Ranges
-- The caches in their arrays.
pub mod Fits
-- The rings in theirs.
pub mod Rings
-- A state from its parts, and a fresh one.
pub mod States
pub mod Fresh
-- Refusals and their numbers.
pub mod Refusals
-- A small state and its call, read.
pub mod Example
