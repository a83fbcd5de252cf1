-- A half that was dropped is one whose number is not 0.
use mathlib.Core.Path.{◌≡◌, refl}
use mathlib.Core.Bool.{false, not}
use Prim.Native.Nat.{ℕ, zero, suc}
use native.Mathlib.Omega.{arith}
use lib.Dec.{eqb}
use borrow.Author.Tests.{ne_eqb}
use Rattle.model.specs.Basics.{choose}
use Rattle.gelwynnar.specs.Slots.{dropped_told}

some_number : (n : ℕ) → eqb (suc n) 0 ≡ false
some_number n = ne_eqb (suc n) 0 (λ e. omega (arith, e))

pub by_numbers : (a r : ℕ) → dropped_told (choose (not (eqb a 0)) 5 0) (choose (not (eqb r 0)) 7 0) ≡ dropped_told a r
by_numbers zero zero = refl
by_numbers (suc a) zero = rw (some_number a) refl
by_numbers zero (suc r) = rw (some_number r) refl
by_numbers (suc a) (suc r) = rw (some_number a, some_number r) refl
