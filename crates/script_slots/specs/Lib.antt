-- What slots that print promise.
pub mod Says
