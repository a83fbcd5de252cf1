-- Laws of the record's lists.

-- The list of each queue in its places: what entering and taking a length change, and what they leave.
pub mod Lists
-- Places moved down by one.
pub mod Moving
-- The rules of a record as the code judges them.
pub mod Judging
-- A slot's turn of a record.
pub mod Turning
