-- What the runner promises.
pub mod Says
