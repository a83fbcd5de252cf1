-- A difference of two counts fits the type of a margin.
use mathlib.Core.Path.{◌≡◌, ap, ◌∙◌}
use mathlib.Core.Bool.{Bool, true, false, cond}
use Prim.Native.Nat.{ℕ, zero, suc, ◌-◌, ◌<◌, ◌^◌}
use native.Mathlib.Omega.{arith}
use lib.Dec.{ltb}
use lib.IntN.{pos, negsuc, ◌-ℤ◌}
use lib.Signed.{mag}
use mir.Syntax.{w32}
use mir.Val.{to_z, of_z}
use Rattle.std.proofs.lemmas.Int.{ints, to_z-of_z}

-- The difference of two counts that fit 16 bits fits 32 bits with a sign.
mag_of : (t : Bool) (m n k : ℕ) → m < k → n < k → mag (cond t (negsuc m) (pos n)) < k
mag_of true m n k h g = h
mag_of false m n k h g = g

pub difference_fits : (h o : ℕ) → h < 65536 → o < 65536 → mag (pos h -ℤ pos o) < 2 ^ 31
difference_fits h zero f g = omega arith
difference_fits h (suc o) f g =
    mag_of (ltb h (suc o)) (suc o - suc h) (h - suc o) (2 ^ 31) (omega arith) (omega arith)

pub same-difference : {h h' o o' : ℕ} → h ≡ h' → o ≡ o' → pos h -ℤ pos o ≡ pos h' -ℤ pos o'
same-difference {h} {h'} {o} {o'} e f = ap (λ (n : ℕ). pos n -ℤ pos o) e ∙ ap (λ (n : ℕ). pos h' -ℤ pos n) f

-- What the code computes with 32 bits is the difference.
pub difference_back : (h o : ℕ) → h < 65536 → o < 65536
    → to_z w32 (of_z w32 (to_z w32 h -ℤ to_z w32 o)) ≡ pos h -ℤ pos o
difference_back h o f g = grind (arith, ints, to_z-of_z)
