-- What the operations on the lookahead promise.
use Rattle.std.specs.Prelude.{◌≡◌, List, [], ◌∷◌, ◌++◌, ℕ, ◌+◌, ◌-◌, ◌≤◌, ◌<◌, length, drop, get_or}
use Rattle.std.proofs.Math.Option.{Option, some, none}
use Rattle.model.specs.State.{Cell, owes}
use Rattle.model.specs.Slot.{Refill, refill_by, onward}
use Rattle.layout.specs.Entries.{cell_of, cells_in}

-- The oldest of l cells has left, and a new one is the youngest.
pub record Shifted (l cell : ℕ) (before after : List ℕ) : Type 0 where
  pub cells_are : cells_in l after ≡ drop 1 (cells_in l before) ++ cell_of cell ∷ []
  pub same_length : length after ≡ length before

-- All cells from one place to another, within the first l, are empty.
pub record EmptyTo (from to l : ℕ) (xs : List ℕ) : Type 0 where
  pub onward : from ≤ to
  pub within : to ≤ l
  pub empties : (i : ℕ) → from ≤ i → i < to → get_or xs i 0 < 65536

-- A scan of cells with credits stopped at a queue, in the cell behind those that it passed; or it did not, and goes on
-- behind them with the credits left, whatever follows.
abbrev pub scan_ends : Option ℕ → ℕ → (ℕ → ℕ) → List Cell → Refill
scan_ends (some q) passed left rest = record { queue = some q; slots_left = passed + 1 }
scan_ends none passed left rest = onward passed (refill_by left rest)

pub record Scanned (credits : ℕ → ℕ) (cells : List Cell) (found : Option ℕ) (passed : ℕ) (left : ℕ → ℕ) : Type 0 where
  pub ends : (rest : List Cell) → refill_by credits (cells ++ rest) ≡ scan_ends found passed left rest

-- Credits less the one that a leaving Owed cell takes.
abbrev pub spent : (ℕ → ℕ) → Cell → ℕ → ℕ
spent credits cell q = credits q - owes q cell
