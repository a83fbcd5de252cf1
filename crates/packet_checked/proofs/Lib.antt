-- A slot of the packet layer of a state and a record of which 3 and 2 are judged.
pub mod Judged
