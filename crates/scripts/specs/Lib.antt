-- What reading, judging and writing promise, and that what is written reads back.
pub mod Says
pub mod Back
