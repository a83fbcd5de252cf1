-- The laws of whole packets. Each file opens with what it shows and why.

-- One slot of the layer, stopped or accepted; the rules of a record as facts.
pub mod Slots
-- An accepted slot keeps the record's rules.
pub mod Kept
-- What the buffer's own slot may still refuse.
pub mod Numbers
-- The request's sentences of one slot.
pub mod Sentences
-- The table of worked cases.
pub mod Examples
-- What waits in a queue, and why it stays in order.
pub mod Layer
-- Why a packet leaves whole, and that every byte request is of one.
pub mod Leaves
-- A packet request is taken once its packet is in.
pub mod OnceIn
-- What the record notes of packets.
pub mod Notes
-- The record's numbers are those of what waits, and so no byte and no byte request is dropped.
pub mod Books
-- An accepted slot takes its turn, and keeps the books.
pub mod BooksKept
-- Chains of the layer's slots.
pub mod Runs
-- What a stopped slot answers and leaves.
pub mod Stopped
-- Request 2.7, whole.
pub mod Whole
