-- What a run of many slots promises.
pub mod Says
