-- What the conversion of captures promises.
pub mod Says
