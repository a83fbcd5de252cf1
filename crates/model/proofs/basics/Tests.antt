-- Cases of a value, each with the equation that it stands for; tests joined; a function changed at one place.
use mathlib.Core.Path.{◌≡◌, refl, subst}
use mathlib.Core.Bool.{Bool, true, false, ◌&&◌}
use mathlib.Core.Option.{Option, some, none}
use Prim.Native.Nat.{ℕ, zero, suc, ◌≤◌}
use native.Mathlib.Omega.{arith}
use lib.Dec.{eqb, leb}
use borrow.Author.Tests.{eqb-true, eq-eqb, leb-true, le-leb}
use Rattle.model.specs.Basics.{update, between}

-- Cases of a value, each with the equation that it stands for.
pub by_test : {A : Type 0} (t : Bool) → (t ≡ true → A) → (t ≡ false → A) → A
by_test true yes_case no_case = yes_case refl
by_test false yes_case no_case = no_case refl

pub by_zero : {A : Type 0} (n : ℕ) → (n ≡ 0 → A) → (1 ≤ n → A) → A
by_zero zero at_zero above = at_zero refl
by_zero (suc n) at_zero above = above (omega arith)

pub by_option : {A B : Type 0} (o : Option B) → (o ≡ none → A) → ((y : B) → o ≡ some y → A) → A
by_option none at_none at_some = at_none refl
by_option (some y) at_none at_some = at_some y refl

-- A fact of every queue, from the fact at q and at every other queue.
pub at_queue_lem : (P : ℕ → Type 0) (q : ℕ) → P q → ((p : ℕ) → eqb q p ≡ false → P p) → (p : ℕ) → P p
at_queue_lem P q here there p = by_test (eqb q p) (λ t. subst P (eqb-true q p t) here) (λ t. there p t)

pub positive : (n : ℕ) → (n ≡ 0 → ⊥) → 1 ≤ n
positive zero h = absurd (h refl)
positive (suc n) h = omega arith

pub eqb_same : (q : ℕ) → eqb q q ≡ true
eqb_same q = eq-eqb q q refl

pub none_not_some : {A : Type 0} (y : A) → ◌≡◌ {A = Option A} none (some y) → ⊥
none_not_some y e = let z : ◌≡◌ {A = ℕ} 0 1 = cc in omega arith

pub some_inj : {A : Type 0} (x y : A) → some x ≡ some y → x ≡ y
some_inj x y e = cc

pub true_not_false : (t : Bool) → t ≡ true → t ≡ false → ⊥
true_not_false t e f = let z : ◌≡◌ {A = ℕ} 0 1 = cc in omega arith

-- A function changed at one place.
pub update_same : {A : Type 0} (f : ℕ → A) (q : ℕ) (v : A) → update f q v q ≡ v
update_same f q v = rw (eqb_same q)

pub update_other : {A : Type 0} (f : ℕ → A) (q : ℕ) (v : A) (p : ℕ) → eqb q p ≡ false → update f q v p ≡ f p
update_other f q v p t = rw t

-- Tests joined.
pub and_both : (s t : Bool) → s ≡ true → t ≡ true → (s && t) ≡ true
and_both s t e f = rw (e, f)

pub and_left : (s t : Bool) → (s && t) ≡ true → s ≡ true
and_left true t e = refl
and_left false t e = e

pub and_right : (s t : Bool) → (s && t) ≡ true → t ≡ true
and_right true t e = e
and_right false t e = absurd (true_not_false false e refl)

pub between-facts : (low n high : ℕ) → between low n high ≡ true → (low ≤ n) × (n ≤ high)
between-facts low n high e =
    (leb-true low n (and_left (leb low n) (leb n high) e), leb-true n high (and_right (leb low n) (leb n high) e))

pub between-holds : (low n high : ℕ) → low ≤ n → n ≤ high → between low n high ≡ true
between-holds low n high h k = and_both (leb low n) (leb n high) (le-leb low n h) (le-leb n high k)
