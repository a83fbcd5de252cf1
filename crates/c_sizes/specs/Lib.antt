-- What the sizing functions for C promise.
pub mod Says
