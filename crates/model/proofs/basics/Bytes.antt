-- A cache as its queues see it: what appending, removing the oldest and refilling do to the values of each queue, and
-- the fill as the sum over the queues.
use mathlib.Core.Path.{◌≡◌, refl, ap, sym, ◌∙◌, subst}
use mathlib.Core.Bool.{true, false}
use mathlib.Core.List.{List, [], ◌∷◌, ◌++◌}
use Prim.Native.Nat.{ℕ, zero, suc, ◌+◌, ◌-◌, ◌<◌, ◌≤◌}
use native.Mathlib.Omega.{arith}
use lib.Dec.{eqb}
use lib.ListN.{length, drop, length-append, length-drop}
use borrow.Author.Tests.{eqb-true, ne_eqb, ltb-true, lt-ltb}
use Rattle.model.specs.Basics.{choose, all_of, All}
use Rattle.model.specs.State.{Byte, values_of, count_of, byte_below}
use Rattle.model.specs.Slot.{without, bytes_for}
use Rattle.model.proofs.basics.Tests.{by_test, eqb_same}
use Rattle.model.proofs.basics.AllOf.{all_of_facts, all_of_holds}
use Rattle.model.proofs.basics.Sums.{sum, sum-zero, sum-shift}

pub values-append : (q : ℕ) (xs ys : List Byte) → values_of q (xs ++ ys) ≡ values_of q xs ++ values_of q ys
values-append q [] ys = refl
values-append q (x ∷ xs) ys =
    by_test (eqb x.queue q)
    (λ t. rw (t, values-append q xs ys))
    (λ t. rw (t, values-append q xs ys))

pub count_append : (q : ℕ) (xs ys : List Byte) → count_of q (xs ++ ys) ≡ count_of q xs + count_of q ys
count_append q xs ys = ap length (values-append q xs ys) ∙ length-append (values_of q xs) (values_of q ys)

-- One byte: of its own queue, and of another.
pub count_one_same : (y : Byte) → count_of y.queue (y ∷ []) ≡ 1
count_one_same y = rw (eqb_same y.queue)

pub count_one_other : (y : Byte) (q : ℕ) → eqb y.queue q ≡ false → count_of q (y ∷ []) ≡ 0
count_one_other y q t = rw t

-- A block that a queue was refilled with.
pub values-for_same : (q : ℕ) (vs : List ℕ) → values_of q (bytes_for q vs) ≡ vs
values-for_same q [] = refl
values-for_same q (v ∷ vs) = rw (eqb_same q, values-for_same q vs)

pub values-for_other : (q p : ℕ) (vs : List ℕ) → eqb q p ≡ false → values_of p (bytes_for q vs) ≡ []
values-for_other q p [] e = refl
values-for_other q p (v ∷ vs) e = rw (e, values-for_other q p vs e)

pub length-for : (q : ℕ) (vs : List ℕ) → length (bytes_for q vs) ≡ length vs
length-for q [] = refl
length-for q (v ∷ vs) = ap suc (length-for q vs)

pub count_refilled : (q p : ℕ) (xs : List Byte) (vs : List ℕ)
    → count_of p (xs ++ bytes_for q vs) ≡ count_of p xs + choose (eqb q p) (length vs) 0
count_refilled q p xs vs =
    count_append p xs (bytes_for q vs)
    ∙ by_test (eqb q p)
    (λ t. rw (t, ← (eqb-true q p t), values-for_same q vs))
    (λ t. rw (t, values-for_other q p vs t))

-- Without the n oldest of a queue.
pub values-without_same : (n q : ℕ) (xs : List Byte) → values_of q (without n q xs) ≡ drop n (values_of q xs)
values-without_same zero q xs = refl
values-without_same (suc n) q [] = refl
values-without_same (suc n) q (x ∷ xs) =
    by_test (eqb x.queue q)
    (λ t. rw t (values-without_same n q xs))
    (λ t. rw t (rw t (values-without_same (suc n) q xs)))

pub values-without_other : (n q p : ℕ) (xs : List Byte) → eqb q p ≡ false
    → values_of p (without n q xs) ≡ values_of p xs
values-without_other zero q p xs e = refl
values-without_other (suc n) q p [] e = refl
values-without_other (suc n) q p (x ∷ xs) e =
    by_test (eqb x.queue q)
    (λ t. rw (t, subst (λ (i : ℕ). eqb i p ≡ false) (sym (eqb-true x.queue q t)) e)
    (values-without_other n q p xs e))
    (λ t. rw t (ap (λ (l : List ℕ). choose (eqb x.queue p) (x.value ∷ l) l)
    (values-without_other (suc n) q p xs e)))

pub count_without : (n q p : ℕ) (xs : List Byte)
    → count_of p (without n q xs) ≡ count_of p xs - choose (eqb q p) n 0
count_without n q p xs =
    by_test (eqb q p)
    (λ t. rw (t, ← (eqb-true q p t)) (ap length (values-without_same n q xs) ∙ length-drop n (values_of q xs)))
    (λ t. rw t (omega (arith, ap length (values-without_other n q p xs t))))

pub length_without : (n q : ℕ) (xs : List Byte) → n ≤ count_of q xs → length (without n q xs) + n ≡ length xs
length_without zero q xs h = omega arith
length_without (suc n) q [] h = absurd (omega arith)
length_without (suc n) q (x ∷ xs) h =
    by_test (eqb x.queue q)
    (λ t. rw t (omega (arith, length_without n q xs (omega (arith, rw t at h)))))
    (λ t. rw t (omega (arith, length_without (suc n) q xs (rw t at h))))

pub length-without_le : (n q : ℕ) (xs : List Byte) → length (without n q xs) ≤ length xs
length-without_le zero q xs = omega arith
length-without_le (suc n) q [] = omega arith
length-without_le (suc n) q (x ∷ xs) =
    by_test (eqb x.queue q)
    (λ t. rw t (omega (arith, length-without_le n q xs)))
    (λ t. rw t (omega (arith, length-without_le (suc n) q xs)))

-- All bytes are of queues below n; as a test, of n or of any greater number.
abbrev pub Below : ℕ → List Byte → Type 0
Below n xs = All (λ (x : Byte). x.queue < n) xs

pub below_facts : (n : ℕ) (xs : List Byte) → all_of (byte_below n) xs ≡ true → Below n xs
below_facts n xs e =
    all_of_facts (byte_below n) (λ (x : Byte). x.queue < n) (λ x t. ltb-true x.queue n t) xs e

pub below_holds : (n m : ℕ) → n ≤ m → (xs : List Byte) → Below n xs → all_of (byte_below m) xs ≡ true
below_holds n m h xs v =
    all_of_holds (byte_below m) (λ (x : Byte). x.queue < n) (λ x l. lt-ltb x.queue m (omega (arith, h, l))) xs v

-- A queue past them has no byte.
pub count_past : (n : ℕ) (xs : List Byte) (q : ℕ) → Below n xs → n ≤ q → count_of q xs ≡ 0
count_past n [] q h l = refl
count_past n (y ∷ xs) q h l =
    rw (ne_eqb y.queue q (λ e. omega (arith, e, h.0, l))) (count_past n xs q h.1 l)

pub below_for : (n q : ℕ) → q < n → (vs : List ℕ) → Below n (bytes_for q vs)
below_for n q l [] = tt
below_for n q l (v ∷ vs) = (l, below_for n q l vs)

pub below_without : (b n q : ℕ) (xs : List Byte) → Below b xs → Below b (without n q xs)
below_without b zero q xs h = h
below_without b (suc n) q [] h = h
below_without b (suc n) q (x ∷ xs) h =
    by_test (eqb x.queue q)
    (λ t. rw t (below_without b n q xs h.1))
    (λ t. rw t (h.0, below_without b (suc n) q xs h.1))

-- The fill is the sum over the queues.
pub sum-counts : (n : ℕ) (xs : List Byte) → Below n xs → sum n (λ q. count_of q xs) ≡ length xs
sum-counts n [] h = sum-zero n (λ q. 0) (λ q. refl)
sum-counts n (x ∷ xs) h =
    omega (
      arith,
      sum-counts n xs h.1,
      sum-shift n (λ q. count_of q xs) (λ q. count_of q (x ∷ xs)) x.queue 0 1 h.0
          (rw (eqb_same x.queue) (omega arith))
          (λ p t. rw t),
    )
