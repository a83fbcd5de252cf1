-- What the script functions for C promise.
pub mod Says
