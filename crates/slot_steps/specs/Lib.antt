-- The steps of a slot on lent arrays.
pub mod Says
