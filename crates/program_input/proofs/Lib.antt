-- A count within a buffer.
pub mod Within
