-- What a slot of the packet layer promises of lent arrays.
pub mod Says
