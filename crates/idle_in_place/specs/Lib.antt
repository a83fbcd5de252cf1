-- Idle slots on lent arrays.
pub mod Says
