-- What a script prints and leaves.
pub mod Run
