-- What the operations on the lookahead promise.
pub mod Says
