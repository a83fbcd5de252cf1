-- A slot is refused whole, or accepted with none of the refusals; an accepted one keeps the rules and the store's
-- length, and changes no byte outside the block that it writes. Slots that keep their promise, a caller's and the
-- arbiter's, are a chain. What a queue has stored changes by its arrivals, Held requests and reads.
pub mod Rules
pub mod StepsKeepRules
pub mod MovesKeepRules
pub mod Swap
pub mod Halves
pub mod Accepted
pub mod Kept
pub mod Elsewhere
pub mod Calls
pub mod Chains
pub mod Lists
pub mod Stored
