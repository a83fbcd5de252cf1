-- Calls and answers of slots as one number each.
pub mod Words
