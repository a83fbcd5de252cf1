-- What the operations of idle slots promise.
pub mod Says
