-- What the pieces of reading and writing promise.
pub mod Says
