-- What the operations on a cache and on counts by queue promise.
pub mod Says
