-- Demand 3 over calls of every kind, and the high marks that they leave.
pub mod Demand
