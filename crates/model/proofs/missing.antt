-- One cell fewer is too few: a list that misses, for all accepted sizes with b of 2 or more.
pub mod Slots
pub mod Draining
pub mod Drain
pub mod Fill
pub mod Misses
