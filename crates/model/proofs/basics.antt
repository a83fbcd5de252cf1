-- What the definitions share: tests and lists as facts, the limits, sums over queues, how many values are there, and
-- caches, lookahead and rings as each queue sees them; queues counted up and wrapping.
pub mod Tests
pub mod AllOf
pub mod FirstRefusal
pub mod Limits
pub mod Sums
pub mod Present
pub mod Bytes
pub mod Cells
pub mod Rings
pub mod States
pub mod Rounds
