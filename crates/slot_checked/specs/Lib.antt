-- One slot on lent arrays, whatever they hold.
pub mod Says
