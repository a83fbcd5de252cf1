-- What the choices of a slot promise, and that the steps in turn, told by them, are the slot.
pub mod Says
pub mod InTurn
