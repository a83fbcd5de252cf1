-- Places moved down by one, as the library's copy says it.
use mathlib.Core.Path.{◌≡◌, ap, ◌∙◌}
use mathlib.Core.List.{List}
use Prim.Native.Nat.{ℕ, ◌+◌, ◌-◌, ◌≤◌, ◌<◌}
use native.Mathlib.Omega.{arith}
use lib.ListN.{length, get_or}
use Rattle.std.specs.List.{CopiedTo, SameBelow, SameFrom}

-- The places after `first`, up to `count`, have moved down by one, and no others have changed.
pub record MovedDown (first count : ℕ) (lengths lengths' : List ℕ) : Type 0 where
  pub same_length : length lengths' ≡ length lengths
  pub moved : (i : ℕ) → i + 1 < count → get_or lengths' (first + i) 0 ≡ get_or lengths (first + (i + 1)) 0
  pub before_same : (k : ℕ) → k < first → get_or lengths' k 0 ≡ get_or lengths k 0
  pub behind_same : (k : ℕ) → first + count ≤ k → get_or lengths' k 0 ≡ get_or lengths k 0

pub moved_down : (first count : ℕ) (xs ys : List ℕ) → 1 ≤ count → length ys ≡ length xs
    → CopiedTo xs ys (first + 1) first (first + count - (first + 1)) × SameBelow xs ys first
    × SameFrom xs ys (first + (first + count - (first + 1)))
    → MovedDown first count xs ys
moved_down first count xs ys some-there same copied = record {
  same_length = same;
  moved = λ i l.
      copied.0 (first + i) 0 (omega arith) (omega arith)
      ∙ ap (λ (k : ℕ). get_or xs k 0) (omega arith);
  before_same = λ k l. copied.1 k 0 l;
  behind_same = λ k l. copied.2 k 0 (omega arith);
}
