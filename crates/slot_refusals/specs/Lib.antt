-- Refusals 4 to 10 by the figures of a state, before anything moves.
pub mod Says
