-- What the buffer promises: making a state, the slot, and the steps of a slot one at a time.
pub mod Says
pub mod OneStep
