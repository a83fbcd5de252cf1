-- What many slots in one call promise: a list of them, and idle slots by their count; demand 3 over calls of every
-- kind, and the high marks that they leave.
pub mod Says
pub mod Demand
