-- Many slots on lent arrays, whatever they hold.
pub mod Says
