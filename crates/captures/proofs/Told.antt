-- An answer of the conversion as two numbers: its own, 0 where a script was written, and the script's length.
use mathlib.Core.Path.{◌≡◌, refl}
use mathlib.Core.List.{List}
use Prim.Native.Nat.{ℕ, zero, suc}
use native.Mathlib.Omega.{arith}
use lib.Dec.{eqb}
use lib.ListN.{length}
use borrow.Author.Tests.{ne_eqb}
use Rattle.std.specs.Prelude.{Result, Ok, Err}
use Rattle.model.specs.Basics.{choose}
use Rattle.captures.specs.Says.{conversion_of}

-- 0 for what the answer does not tell.
abbrev pub number_told : Result ℕ ℕ → ℕ
number_told (Ok n) = 0
number_told (Err n) = n

abbrev pub length_told : Result ℕ ℕ → ℕ
length_told (Ok n) = n
length_told (Err n) = 0

pub told-number : (n : ℕ) (script : List ℕ) → number_told (conversion_of n script) ≡ n
told-number zero script = refl
told-number (suc n) script = refl

pub told-length : (n : ℕ) (script : List ℕ)
    → length_told (conversion_of n script) ≡ choose (eqb n 0) (length script) 0
told-length zero script = refl
told-length (suc n) script = rw (ne_eqb (suc n) 0 (λ e. omega (arith, e)))
