-- How many of some values that may be there are there: of a first part no more than of all, and places with nothing in
-- front do not count.
use mathlib.Core.Path.{◌≡◌, refl}
use mathlib.Core.List.{List, [], ◌∷◌, ◌++◌}
use mathlib.Core.Option.{Option, some, none}
use Prim.Native.Nat.{ℕ, zero, suc, ◌+◌, ◌≤◌}
use native.Mathlib.Omega.{arith}
use lib.ListN.{take, replicate}

-- How many are there.
abbrev pub one : {A : Type 0} → Option A → ℕ
one none = 0
one (some y) = 1

abbrev pub present : {A : Type 0} → List (Option A) → ℕ
present [] = 0
present (o ∷ os) = one o + present os

pub present_take : {A : Type 0} (n : ℕ) (os : List (Option A)) → present (take n os) ≤ present os
present_take zero os = omega arith
present_take (suc n) [] = omega arith
present_take (suc n) (o ∷ os) = omega (arith, present_take n os)

pub present_behind_none : {A : Type 0} (n : ℕ) (os : List (Option A)) → present (replicate n none ++ os) ≡ present os
present_behind_none zero os = refl
present_behind_none (suc n) os = omega (arith, present_behind_none n os)
