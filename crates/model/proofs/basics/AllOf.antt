-- A test that holds of every element of a list, or of every number below n, as a fact of each; and back.
use mathlib.Core.Path.{◌≡◌, refl, subst}
use mathlib.Core.Bool.{Bool, true, false}
use mathlib.Core.List.{List, [], ◌∷◌, ◌++◌}
use Prim.Native.Nat.{ℕ, zero, suc, ◌<◌}
use native.Mathlib.Omega.{arith}
use lib.Dec.{eqb}
use lib.ListN.{length, get_or}
use borrow.Author.Tests.{eqb-true, eqb-false}
use Rattle.model.specs.Basics.{all_true, all_of, all_below, All, tabulate}
use Rattle.model.proofs.basics.Tests.{by_test, true_not_false, and_both, and_left, and_right}

-- A test of all elements: at each place, and of one element more.
pub all_of_at : {A : Type 0} (test : A → Bool) (xs : List A) (i : ℕ) (d : A) → all_of test xs ≡ true → i < length xs
    → test (get_or xs i d) ≡ true
all_of_at test [] i d e l = absurd (omega arith)
all_of_at test (x ∷ xs) zero d e l = and_left (test x) (all_of test xs) e
all_of_at test (x ∷ xs) (suc i) d e l = all_of_at test xs i d (and_right (test x) (all_of test xs) e) (omega arith)

pub all_of_more : {A : Type 0} (test : A → Bool) (xs : List A) (y : A) → all_of test xs ≡ true → test y ≡ true
    → all_of test (xs ++ y ∷ []) ≡ true
all_of_more test [] y e f = and_both (test y) true f refl
all_of_more test (x ∷ xs) y e f =
    and_both (test x) (all_of test (xs ++ y ∷ []))
    (and_left (test x) (all_of test xs) e)
    (all_of_more test xs y (and_right (test x) (all_of test xs) e) f)

-- A test of all elements, as a fact of all elements.
pub all_of_facts : {A : Type 0} (test : A → Bool) (P : A → Type 0) → ((x : A) → test x ≡ true → P x)
    → (xs : List A) → all_of test xs ≡ true → All P xs
all_of_facts test P f [] e = tt
all_of_facts test P f (x ∷ xs) e =
    (f x (and_left (test x) (all_of test xs) e), all_of_facts test P f xs (and_right (test x) (all_of test xs) e))

pub all_of_holds : {A : Type 0} (test : A → Bool) (P : A → Type 0) → ((x : A) → P x → test x ≡ true)
    → (xs : List A) → All P xs → all_of test xs ≡ true
all_of_holds test P f [] h = refl
all_of_holds test P f (x ∷ xs) h =
    and_both (test x) (all_of test xs) (f x h.0) (all_of_holds test P f xs h.1)

-- A fact of the first element, also of the second, and so on: how a fact of all elements of a written list is given.
infixr 30 ◌also◌
pub ◌also◌ : {A B : Type 0} → A → B → A × B
a also b = (a, b)

-- A fact of all elements of two lists, of both as one.
pub all_append : {A : Type 0} (P : A → Type 0) (xs ys : List A) → All P xs → All P ys → All P (xs ++ ys)
all_append P [] ys h k = k
all_append P (x ∷ xs) ys h k = (h.0, all_append P xs ys h.1 k)

-- .. and of a first part, and of what stands behind it.
pub all_first : {A : Type 0} (P : A → Type 0) (xs ys : List A) → All P (xs ++ ys) → All P xs
all_first P [] ys h = tt
all_first P (x ∷ xs) ys h = (h.0, all_first P xs ys h.1)

pub all_behind : {A : Type 0} (P : A → Type 0) (xs ys : List A) → All P (xs ++ ys) → All P ys
all_behind P [] ys h = h
all_behind P (x ∷ xs) ys h = all_behind P xs ys h.1

-- A test of all queues, as a fact of all queues.
pub all_below_facts : (n : ℕ) (test : ℕ → Bool) → all_below n test ≡ true → (q : ℕ) → q < n → test q ≡ true
all_below_facts zero test e q l = absurd (omega arith)
all_below_facts (suc n) test e q l =
    by_test (eqb n q)
    (λ t. subst (λ (i : ℕ). test i ≡ true) (eqb-true n q t) (and_left (test n) (all_below n test) e))
    (λ t. all_below_facts n test (and_right (test n) (all_below n test) e) q (omega (arith, eqb-false n q t)))

pub all_below_holds : (n : ℕ) (test : ℕ → Bool) → ((q : ℕ) → q < n → test q ≡ true) → all_below n test ≡ true
all_below_holds zero test h = refl
all_below_holds (suc n) test h =
    and_both (test n) (all_below n test) (h n (omega arith)) (all_below_holds n test (λ q l. h q (omega arith)))

-- Each test of a list of which all hold, by its place; and not all hold where one does not.
pub all_true_at : (ts : List Bool) (i : ℕ) → all_true ts ≡ true → get_or ts i true ≡ true
all_true_at [] i e = refl
all_true_at (t ∷ ts) zero e = and_left t (all_true ts) e
all_true_at (t ∷ ts) (suc i) e = all_true_at ts i (and_right t (all_true ts) e)

pub all_true_not : (ts : List Bool) (i : ℕ) → get_or ts i true ≡ false → all_true ts ≡ false
all_true_not ts i e =
    by_test (all_true ts)
    (λ t. absurd (true_not_false (get_or ts i true) (all_true_at ts i t) e))
    (λ t. t)

-- The list f 0, f 1, .., f (n - 1) at a place.
pub tabulate-at : {A : Type 0} (n : ℕ) (f : ℕ → A) (i : ℕ) (d : A) → i < n → get_or (tabulate n f) i d ≡ f i
tabulate-at zero f i d l = absurd (omega arith)
tabulate-at (suc n) f zero d l = refl
tabulate-at (suc n) f (suc i) d l = tabulate-at n (λ j. f (suc j)) i d (omega arith)
