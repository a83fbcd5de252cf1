-- A list from a made state.
pub mod Making
