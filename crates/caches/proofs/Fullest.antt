-- A search for the fullest queue: the next queue is taken where it has more than the most so far, and else not.
use mathlib.Core.Path.{◌≡◌}
use mathlib.Core.Option.{Option, some, none}
use Prim.Native.Nat.{ℕ, ◌+◌, ◌-◌, ◌≤◌, ◌<◌}
use native.Mathlib.Numerals.{add-one}
use native.Mathlib.Omega.{arith}
use borrow.Author.Tests.{lt-ltb, le-ltb, le-leb, lt-leb}
use Rattle.model.specs.Slot.{fuller, fullest}

-- The most bytes that the search has found so far; below b where it has found no queue.
abbrev pub most_of : ℕ → (ℕ → ℕ) → Option ℕ → ℕ
most_of b bytes none = b - 1
most_of b bytes (some q) = bytes q

module _ (b : ℕ) (bytes : ℕ → ℕ) (i : ℕ) (h : 1 ≤ b) where
  next_fuller : (o : Option ℕ) → most_of b bytes o < bytes i → fuller b bytes i o ≡ some i
  next_fuller none l = rw (le-leb b (bytes i) (omega arith))
  next_fuller (some q) l = rw (lt-ltb (bytes q) (bytes i) l)

  next_not_fuller : (o : Option ℕ) → bytes i ≤ most_of b bytes o → fuller b bytes i o ≡ o
  next_not_fuller none l = rw (lt-leb b (bytes i) (omega arith))
  next_not_fuller (some q) l = rw (le-ltb (bytes q) (bytes i) l)

  pub fullest-next : most_of b bytes (fullest b bytes i) < bytes i → fullest b bytes (i + 1) ≡ some i
  fullest-next l = rw add-one (next_fuller (fullest b bytes i) l)

  pub fullest-stays : bytes i ≤ most_of b bytes (fullest b bytes i) → fullest b bytes (i + 1) ≡ fullest b bytes i
  fullest-stays l = rw add-one (next_not_fuller (fullest b bytes i) l)
