-- Sums over the queues 0 to n - 1: monotone, linear, bounded by n times a bound, and changed by what changes at one
-- queue.
use mathlib.Core.Path.{◌≡◌, refl, ap}
use mathlib.Core.Bool.{false}
use Prim.Native.Nat.{ℕ, zero, suc, ◌+◌, ◌*◌, ◌<◌, ◌≤◌}
use native.Mathlib.Omega.{arith}
use lib.Dec.{eqb}
use borrow.Author.Tests.{eqb-true, eqb-false}
use Rattle.model.specs.Basics.{update}
use Rattle.model.proofs.basics.Tests.{by_test, update_same, update_other}

abbrev pub sum : ℕ → (ℕ → ℕ) → ℕ
sum zero f = 0
sum (suc n) f = f n + sum n f

pub sum-zero : (n : ℕ) (f : ℕ → ℕ) → ((q : ℕ) → f q ≡ 0) → sum n f ≡ 0
sum-zero zero f h = refl
sum-zero (suc n) f h = omega (arith, h n, sum-zero n f h)

-- f is at most g and d more at each queue.
pub sum-le_add : (n d : ℕ) (f g : ℕ → ℕ) → ((q : ℕ) → q < n → f q ≤ g q + d) → sum n f ≤ sum n g + n * d
sum-le_add zero d f g h = omega arith
sum-le_add (suc n) d f g h = omega (arith, h n (omega arith), sum-le_add n d f g (λ q l. h q (omega arith)))

pub sum-le : (n : ℕ) (f g : ℕ → ℕ) → ((q : ℕ) → q < n → f q ≤ g q) → sum n f ≤ sum n g
sum-le n f g h = omega (arith, sum-le_add n 0 f g (λ q l. omega (arith, h q l)))

pub sum_bound : (n d : ℕ) (f : ℕ → ℕ) → ((q : ℕ) → q < n → f q ≤ d) → sum n f ≤ n * d
sum_bound n d f h = omega
    (arith, sum-le_add n d f (λ q. 0) (λ q l. omega (arith, h q l)), sum-zero n (λ q. 0) (λ q. refl))

pub sum_same : (n : ℕ) (f g : ℕ → ℕ) → ((q : ℕ) → q < n → f q ≡ g q) → sum n f ≡ sum n g
sum_same zero f g h = refl
sum_same (suc n) f g h = omega (arith, h n (omega arith), sum_same n f g (λ q l. h q (omega arith)))

-- A sum of sums, and of multiples.
pub sum-add : (n : ℕ) (f g : ℕ → ℕ) → sum n (λ q. f q + g q) ≡ sum n f + sum n g
sum-add zero f g = refl
sum-add (suc n) f g = omega (arith, sum-add n f g)

pub sum-times : (n k : ℕ) (f : ℕ → ℕ) → sum n (λ q. k * f q) ≡ k * sum n f
sum-times zero k f = omega arith
sum-times (suc n) k f = omega (arith, sum-times n k f)

-- Two functions that differ at one queue only, there by the difference of two numbers.
pub sum-shift : (n : ℕ) (f g : ℕ → ℕ) (q more less : ℕ) → q < n
    → g q + more ≡ f q + less
    → ((p : ℕ) → eqb q p ≡ false → g p ≡ f p)
    → sum n g + more ≡ sum n f + less
sum-shift zero f g q more less l e h = omega arith
sum-shift (suc n) f g q more less l e h =
    by_test (eqb q n)
    (λ t. let z : q ≡ n = eqb-true q n t in omega (arith, same n (omega arith), ap g z, ap f z))
    (λ t. omega (arith, h n t, sum-shift n f g q more less (omega (arith, eqb-false q n t)) e h))
  where
    same : (m : ℕ) → m ≤ q → sum m g ≡ sum m f
    same zero k = refl
    same (suc m) k =
        omega (arith, same m (omega arith), h m (ne q m (omega arith)))
      where
        ne : (i j : ℕ) → j < i → eqb i j ≡ false
        ne i j l = by_test (eqb i j) (λ t. absurd (omega (arith, eqb-true i j t))) (λ t. t)

-- Bounded by d at each queue, and 0 at one of them.
pub sum-bound_zero : (n d : ℕ) (f : ℕ → ℕ) (q : ℕ) → q < n → f q ≡ 0 → ((p : ℕ) → p < n → f p ≤ d)
    → sum n f + d ≤ n * d
sum-bound_zero n d f q l z h =
    omega (
      arith,
      sum_bound n d (update f q d) bound,
      sum-shift n f (update f q d) q 0 d l (omega (arith, update_same f q d)) (update_other f q d),
    )
  where
    bound : (p : ℕ) → p < n → update f q d p ≤ d
    bound p k = by_test (eqb q p) (λ t. rw t (omega arith)) (λ t. rw t (h p k))

pub sum_ones : (n : ℕ) (f : ℕ → ℕ) → ((q : ℕ) → q < n → f q ≡ 1) → sum n f ≡ n
sum_ones zero f h = refl
sum_ones (suc n) f h = omega (arith, h n (omega arith), sum_ones n f (λ q l. h q (omega arith)))
