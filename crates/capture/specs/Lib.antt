-- What the program promises.
pub mod Decimal
pub mod Says
