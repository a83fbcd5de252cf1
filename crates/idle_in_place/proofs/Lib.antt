-- Laws of idle slots on lent arrays.
-- What is counted and shifted is what the stretch promises.
pub mod Counting
-- The quiet slots that pass in the cells are the model's.
pub mod Passing
-- A stretch of them with one slot behind it.
pub mod Stretches
