-- The rules of a state, as they are judged in code.
pub mod Says
