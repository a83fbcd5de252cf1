-- The lines that the program prints, and how they are put into an output.
pub mod Lines
pub mod Says
