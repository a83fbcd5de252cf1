-- Laws of counts by queue along a slot.

-- The counts of a state, taken.
pub mod Taking
-- One count changed, as each step of a slot changes one or none.
pub mod Changes
-- The tail bytes after the first two steps.
pub mod Steps
-- The counts of the model's state.
pub mod Kept
