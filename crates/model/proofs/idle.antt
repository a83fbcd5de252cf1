-- Many idle slots are one shift of the cells and one turn of the phase, as long as they are quiet.
pub mod QuietSlot
pub mod QuietSlots
pub mod EmptySlots
pub mod QuietCount
pub mod Stretch
