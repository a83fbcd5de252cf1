-- The packet layer for C callers: calls as one number each, and a fresh record.
pub mod Words
pub mod Says
