-- Laws of lines: a number's digits, bytes put behind bytes, a line put piece by piece.
pub mod Decimal
pub mod Placed
pub mod Pieces
