-- Laws of the views, by topic: what each loop keeps from turn to turn, and what its end says.

-- The oldest byte of a queue: where it is, and the cache without it.
pub mod Places
pub mod Closing
-- A block out to the store, and one in from it.
pub mod Writing
pub mod Reading
-- Queues in range, and counts by queue.
pub mod Below
pub mod Tallies
pub mod Fullest
