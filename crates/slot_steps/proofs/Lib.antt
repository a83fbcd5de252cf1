-- Laws of the steps of a slot, one file for each step: what the leaf did to its array is what the model's step does.

-- A cell by its number, and the number that a new cell takes.
pub mod Cells
-- The queue's bytes among the first n are at most n.
pub mod Fills
-- 1 and 3: delivery, request.
pub mod Delivering
pub mod Asking
-- 4: the write and the read.
pub mod Places
pub mod Writing
pub mod Reading
-- Arrays and the model's state.
pub mod Moving
