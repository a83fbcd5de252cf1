-- Calls and answers as values, the state as registers and arrays hold it, the counts by queue beside it, and what
-- judging needs of them.
pub mod Calls
pub mod Lengths
pub mod Entries
pub mod Counts
pub mod Views
pub mod Fresh
pub mod Lent
pub mod Figures
pub mod Example
