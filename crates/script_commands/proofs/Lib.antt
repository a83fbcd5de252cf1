-- The laws of scripts. Each file opens with what it shows and why.

-- The definitions say what the paper says: its table, and its examples computed.
pub mod Table
pub mod Examples
-- Judging is the reader iterated.
pub mod Judging
-- What is written reads back.
pub mod ReadBack
pub mod Values
