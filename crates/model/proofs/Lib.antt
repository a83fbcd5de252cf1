-- The theory of the model, in chapters in the order of the argument: laws of its definitions, and demand 3. Each file
-- opens with what holds and why, and names its main statement.

-- What the definitions share: tests, lists, limits, sums, and caches, lookahead and rings as each queue sees them.
pub mod basics
-- The definitions say what the paper says.
pub mod meaning
-- One slot: refused or accepted, and what an accepted one keeps; lists of slots.
pub mod one_slot
-- Many idle slots as one shift of the cells and one turn of the phase.
pub mod idle
-- Why 8, 9 and 10 never come: the walk of orders and the invariant of a list.
pub mod no_miss
-- Why the delay is fixed and the bytes are right: an accepted slot is a slot of the ideal buffer.
pub mod delay
-- Why one cell fewer is too few: the list that misses.
pub mod missing
-- Demand 3.
pub mod Demand
-- Request 2.2: what the round robin arbiter asks, and how long a queue waits for it.
pub mod arbiter
-- Request 2.1: what a slot that swaps does, and that all others are as before.
pub mod Swaps
-- Request 2.5: what a slot does of which a half is dropped.
pub mod Halves
-- Request 2.6: how many slots are left at a read, and that the byte leaves then.
pub mod SlotsLeft
-- The high marks are the greatest fills.
pub mod HighMarks
-- The paper's examples and its numbers at their ends, computed.
pub mod Examples
pub mod Numbers
