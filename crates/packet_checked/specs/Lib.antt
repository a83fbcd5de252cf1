-- What a slot of the packet layer on any arrays promises.
pub mod Says
