-- What the functions for C and C++ promise.
pub mod Version
pub mod Slots
pub mod Arbiter
