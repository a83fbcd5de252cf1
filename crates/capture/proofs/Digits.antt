-- Digits read one by one: before turn i those so far make a number, of which the code knows as much as it tells.
use mathlib.Core.Path.{◌≡◌}
use mathlib.Core.List.{List}
use Prim.Native.Nat.{ℕ, ◌≤◌, min}
use lib.ListN.{length, drop}
use Rattle.capture.specs.Decimal.{with_digits, most_told}

pub record ReadTo (i n : ℕ) (text : List ℕ) : Type 0 where
  pub number : ℕ
  pub within : i ≤ length text
  pub so_far : with_digits 0 text ≡ with_digits number (drop i text)
  pub told : n ≡ min number most_told
