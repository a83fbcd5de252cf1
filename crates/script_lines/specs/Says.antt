-- What putting bytes into a lent output promises.
use Rattle.std.specs.Prelude.{◌≡◌, List, ℕ, ◌+◌, length}
use Rattle.model.specs.Slot.{placed}

-- The bytes stand from this place on, all others are as they were; the place behind them comes back.
pub record PutSays (bytes : List ℕ) (place : ℕ) (output : List ℕ) (r : ℕ) (output' : List ℕ) : Type 0 where
  pub place_is : r ≡ place + length bytes
  pub output_is : output' ≡ placed place bytes output
