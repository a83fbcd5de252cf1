-- One slot on lent arrays.
pub mod Says
