-- Counts by queue along a slot.
pub mod Says
