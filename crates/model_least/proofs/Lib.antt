-- Why the two cache sizes are the least. Each file opens with what it shows and why.

-- One slot: that it is accepted, and what it does to what a list knows of each queue.
pub mod Slots
pub mod Figures
pub mod Moves
pub mod Stages
pub mod Calls
pub mod Young
-- Rounds of b slots, and a round or more for each queue in turn.
pub mod Rounds
pub mod Turns
-- The two lists, and the sizes at which no list fills the tail.
pub mod Head
pub mod Tail
pub mod NeverFull
pub mod Smallest
-- The lists run at small sizes.
pub mod Examples
