-- What a slot in which the arbiter chooses promises of lent arrays.
pub mod Says
