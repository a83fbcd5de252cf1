-- Laws of the state by value.

-- Making and the slot.
pub mod Fresh
pub mod Promises
-- The steps of a slot one at a time, and that in turn they are the slot.
pub mod OneStep
pub mod InTurn
-- The margin of a queue: what its sign says.
pub mod Signs
