-- The first refusal of a list: what it is where some of the list are 0, low, or not a given number.
use mathlib.Core.Path.{◌≡◌, refl}
use mathlib.Core.Bool.{Bool, true, false}
use mathlib.Core.List.{List, [], ◌∷◌, ◌++◌}
use Prim.Native.Nat.{ℕ, zero, suc, ◌≤◌}
use native.Mathlib.Omega.{arith}
use lib.ListN.{get_or}
use Rattle.model.specs.Basics.{All, when, first_refusal}
use Rattle.model.proofs.basics.Tests.{true_not_false}

-- Where there is no refusal, none of the list is one.
pub no_refusal_at : (ns : List ℕ) (i : ℕ) → first_refusal ns ≡ 0 → get_or ns i 0 ≡ 0
no_refusal_at [] i e = refl
no_refusal_at (zero ∷ ns) zero e = refl
no_refusal_at (zero ∷ ns) (suc i) e = no_refusal_at ns i e
no_refusal_at (suc n ∷ ns) i e = absurd (omega arith)

pub when-zero : (t : Bool) (n : ℕ) → when t (suc n) ≡ 0 → t ≡ false
when-zero true n e = absurd (omega arith)
when-zero false n e = refl

-- What holds of 0 and of each refusal of a list holds of the first.
pub first_has : (P : ℕ → Type 0) (ns : List ℕ) → P 0 → All P ns → P (first_refusal ns)
first_has P [] h hs = h
first_has P (zero ∷ ns) h hs = first_has P ns h hs.1
first_has P (suc n ∷ ns) h hs = hs.0

pub when-has : (P : ℕ → Type 0) (t : Bool) (n : ℕ) → P 0 → (t ≡ true → P n) → P (when t n)
when-has P true n h k = k refl
when-has P false n h k = h

-- A list of low numbers, and one more that is 0 unless one of them stands before it: the first is low.
pub low_refusal : (most : ℕ) (ns : List ℕ) (n : ℕ) → All (λ (m : ℕ). m ≤ most) ns → (first_refusal ns ≡ 0 → n ≡ 0)
    → first_refusal (ns ++ n ∷ []) ≤ most
low_refusal most [] zero h f = omega arith
low_refusal most [] (suc n) h f = absurd (omega (arith, f refl))
low_refusal most (zero ∷ ns) n h f = low_refusal most ns n h.1 f
low_refusal most (suc m ∷ ns) n h f = h.0

pub when-le : (most : ℕ) (t : Bool) (n : ℕ) → n ≤ most → when t n ≤ most
when-le most true n h = h
when-le most false n h = omega arith

-- Where none of a list is a refusal, the first is the one behind it.
pub last_refusal : (ns : List ℕ) (n : ℕ) → first_refusal ns ≡ 0 → first_refusal (ns ++ n ∷ []) ≡ n
last_refusal [] zero e = refl
last_refusal [] (suc n) e = refl
last_refusal (zero ∷ ns) n e = last_refusal ns n e
last_refusal (suc m ∷ ns) n e = absurd (omega (arith, e))

-- A number that no refusal of a list is, the first is not.
pub not_first : (bad : ℕ) (ns : List ℕ) → 1 ≤ bad → All (λ (n : ℕ). n ≡ bad → ⊥) ns → first_refusal ns ≡ bad → ⊥
not_first bad [] h f e = omega (arith, e)
not_first bad (zero ∷ ns) h f e = not_first bad ns h f.1 e
not_first bad (suc n ∷ ns) h f e = f.0 e

pub when-excluded : (bad : ℕ) (t : Bool) (n : ℕ) → 1 ≤ bad → (n ≡ bad → t ≡ false) → when t n ≡ bad → ⊥
when-excluded bad true n h f e = true_not_false true refl (f e)
when-excluded bad false n h f e = omega (arith, e)
