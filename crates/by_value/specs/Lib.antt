-- What a list of slots by value promises.
pub mod Says
