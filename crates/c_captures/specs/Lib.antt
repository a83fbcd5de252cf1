-- What the conversion for C promises.
pub mod Says
