-- What a slot will do, before anything moves.
pub mod Says
