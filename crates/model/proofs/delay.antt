-- The delay is fixed and the bytes are right: an accepted slot is a slot of the ideal buffer, whose line is a delay
-- line. So what a read foretells comes too.
pub mod Store
pub mod Line
pub mod Delivery
pub mod Request
pub mod Moves
pub mod IdealSlot
pub mod Delay
pub mod Sentences
pub mod Foretold
