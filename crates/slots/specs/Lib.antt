-- What the program promises.
pub mod Says
