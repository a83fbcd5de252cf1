-- The slot buffer of document 01, as definitions. Sizes, State, Slot and Lists render its sections in its order; Basics
-- has what they share, Calls the calls by name, Ideal the buffer as a user thinks of it, Demand the statements of
-- demand 3, Swap those of request 2.1, Halves those of 2.5, SlotsLeft those of 2.6, HighMarks those of 2.8, Idle what
-- idle slots come to, Examples the paper's table of examples, RequestExamples that of the requests. Arbiter has the
-- choice of request 2.2, Chains the lists that mix a caller's slots and the arbiter's, Fairness how long a queue waits.
pub mod Basics
pub mod Sizes
pub mod State
pub mod Slot
pub mod Calls
pub mod Lists
pub mod Arbiter
pub mod Chains
pub mod Ideal
pub mod Demand
pub mod Swap
pub mod Halves
pub mod Fairness
pub mod SlotsLeft
pub mod HighMarks
pub mod Idle
pub mod Examples
pub mod RequestExamples
pub mod FalseExamples
pub mod Worked
