-- What the operations on a record promise.
pub mod Says
