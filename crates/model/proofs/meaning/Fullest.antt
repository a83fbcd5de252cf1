-- The queue that step 4 writes is the one that the paper names: it has b tail bytes or more, no queue has more, and
-- every queue of a lower number has fewer. Where there is none, no queue has b. `fullest-some` and `fullest-none` say
-- it.
use mathlib.Core.Path.{◌≡◌, sym, subst}
use mathlib.Core.Bool.{true, false}
use mathlib.Core.Option.{Option, some, none}
use Prim.Native.Nat.{ℕ, zero, suc, ◌<◌, ◌≤◌}
use native.Mathlib.Omega.{arith}
use lib.Dec.{eqb, ltb, leb}
use borrow.Author.Tests.{eqb-true, eqb-false, leb-true, leb-false, ltb-true, ltb-false}
use Rattle.model.specs.Basics.{choose}
use Rattle.model.specs.Slot.{fuller, fullest}
use Rattle.model.proofs.basics.Tests.{by_test, none_not_some, some_inj}

pub record IsFullest (b : ℕ) (bytes : ℕ → ℕ) (n q : ℕ) : Type 0 where
  pub below : q < n
  pub has_block : b ≤ bytes q
  pub has_most : (p : ℕ) → p < n → bytes p ≤ bytes q
  pub lowest : (p : ℕ) → p < q → bytes p < bytes q

-- What the scan of the first n queues has found.
pub data Found (b : ℕ) (bytes : ℕ → ℕ) (n : ℕ) : Option ℕ → Type 0 where
  found_none : ((p : ℕ) → p < n → bytes p < b) → Found b bytes n none
  found-queue : {q : ℕ} → IsFullest b bytes n q → Found b bytes n (some q)

-- A fact of the queues below n, and of n.
one_more : (P : ℕ → Type 0) (n : ℕ) → ((p : ℕ) → p < n → P p) → P n → (p : ℕ) → p < suc n → P p
one_more P n h k p l =
    by_test (eqb n p)
    (λ t. subst P (eqb-true n p t) k)
    (λ t. h p (omega (arith, eqb-false n p t)))

module _ (b : ℕ) (bytes : ℕ → ℕ) (n : ℕ) where
  next : (o : Option ℕ) → Found b bytes n o → Found b bytes (suc n) (fuller b bytes n o)
  next o (found_none h) = by_test (leb b (bytes n)) yes_case no_case
    where
      yes_case : leb b (bytes n) ≡ true → Found b bytes (suc n) (choose (leb b (bytes n)) (some n) none)
      yes_case t = rw t (found-queue {q = n} (record {
        below = omega arith;
        has_block = leb-true b (bytes n) t;
        has_most = one_more (λ p. bytes p ≤ bytes n) n (λ p l. omega (arith, h p l, leb-true b (bytes n) t))
            (omega arith);
        lowest = λ p l. omega (arith, h p l, leb-true b (bytes n) t);
      }))

      no_case : leb b (bytes n) ≡ false → Found b bytes (suc n) (choose (leb b (bytes n)) (some n) none)
      no_case t = rw t (found_none (one_more (λ p. bytes p < b) n h (leb-false b (bytes n) t)))
  next o (found-queue {q = q} f) = by_test (ltb (bytes q) (bytes n)) yes_case no_case
    where
      yes_case : ltb (bytes q) (bytes n) ≡ true → Found b bytes (suc n)
          (choose (ltb (bytes q) (bytes n)) (some n) (some q))
      yes_case t = rw t (found-queue {q = n} (record {
        below = omega arith;
        has_block = omega (arith, f.has_block, ltb-true (bytes q) (bytes n) t);
        has_most =
            one_more (λ p. bytes p ≤ bytes n) n
            (λ p l. omega (arith, f.has_most p l, ltb-true (bytes q) (bytes n) t)) (omega arith);
        lowest = λ p l. omega (arith, f.has_most p l, ltb-true (bytes q) (bytes n) t);
      }))

      no_case : ltb (bytes q) (bytes n) ≡ false → Found b bytes (suc n)
          (choose (ltb (bytes q) (bytes n)) (some n) (some q))
      no_case t = rw t (found-queue {q = q} (record {
        below = omega (arith, f.below);
        has_block = f.has_block;
        has_most = one_more (λ p. bytes p ≤ bytes q) n f.has_most (ltb-false (bytes q) (bytes n) t);
        lowest = f.lowest;
      }))

found : (b : ℕ) (bytes : ℕ → ℕ) (n : ℕ) → Found b bytes n (fullest b bytes n)
found b bytes zero = found_none (λ p l. absurd (omega arith))
found b bytes (suc n) = next b bytes n (fullest b bytes n) (found b bytes n)

pub fullest-some : (b : ℕ) (bytes : ℕ → ℕ) (n q : ℕ) → fullest b bytes n ≡ some q → IsFullest b bytes n q
fullest-some b bytes n q e = go (fullest b bytes n) (found b bytes n) e
  where
    go : (o : Option ℕ) → Found b bytes n o → o ≡ some q → IsFullest b bytes n q
    go o (found_none h) e = absurd (none_not_some q e)
    go o (found-queue {q = p} f) e = subst (IsFullest b bytes n) (some_inj p q e) f

pub fullest-none : (b : ℕ) (bytes : ℕ → ℕ) (n : ℕ) → fullest b bytes n ≡ none → (p : ℕ) → p < n → bytes p < b
fullest-none b bytes n e = go (fullest b bytes n) (found b bytes n) e
  where
    go : (o : Option ℕ) → Found b bytes n o → o ≡ none → (p : ℕ) → p < n → bytes p < b
    go o (found_none h) e = h
    go o (found-queue {q = p} f) e = absurd (none_not_some p (sym e))
