-- What the operations of idle slots do to the cells.
use Rattle.std.specs.Prelude.{◌≡◌, List, ◌++◌, ℕ, length, drop, replicate}
use Rattle.model.specs.State.{empty}
use Rattle.layout.specs.Entries.{cells_in}

-- The m oldest of l cells have left, and as many empty ones have come.
pub record ShiftedBy (l m : ℕ) (before after : List ℕ) : Type 0 where
  pub cells_are : cells_in l after ≡ drop m (cells_in l before) ++ replicate m empty
  pub same_length : length after ≡ length before
