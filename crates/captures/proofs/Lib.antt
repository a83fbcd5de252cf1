-- The proofs of captures.

-- A header's tests.
pub mod Compared
-- The bytes of all frames counted.
pub mod Counted
-- Bytes put over the start of an output.
pub mod Over
-- The loop over a frame's bytes.
pub mod Arrived
-- The loop over the records.
pub mod Written
-- The whole script in its three parts.
pub mod Whole
-- The answers in the order of judging.
pub mod Judged
-- An answer by its number and its length.
pub mod Told
