-- Laws of the choices: counting every queue that an entry can name, the fullest of them, the scan of the cells, the
-- blocks of a queue, the test of step 3, and the tests of a swap.
pub mod Tallies
pub mod Fullest
pub mod Scanning
pub mod Stored
pub mod Owing
pub mod Choosing
pub mod Swapping
-- Steps and choices in turn are the slot.
pub mod InTurn
