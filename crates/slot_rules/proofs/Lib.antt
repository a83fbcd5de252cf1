-- Laws of the rules of a state, as the code judges them.

-- The numbers alone.
pub mod Numbers
-- The queues one after another.
pub mod Queues
-- The whole state.
pub mod Judging
