-- The margin of a queue: counting one place at a time, and a difference of two counts.
pub mod Counting
pub mod Differences
