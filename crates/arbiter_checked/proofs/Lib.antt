-- A slot of the arbiter's of a state of which 3 and 2 are judged.
pub mod Judged
