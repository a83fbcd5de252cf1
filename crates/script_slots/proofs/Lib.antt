-- Laws of slots that are run and printed.
-- Runs one after the other are one run, and what is left of a run leads to its end.
pub mod Going
-- What one slot prints, and a stretch of idle slots.
pub mod Answers
