-- One turn of a run: what the list has done so far it has done with one slot more.
pub mod Turns
