-- The search for the fullest queue: the next queue is taken where it has as many bytes as one must have by now, and
-- else not. Queues past the last that has a count have no byte, and change nothing.
use mathlib.Core.Path.{◌≡◌, refl, ap, sym, ◌∙◌}
use mathlib.Core.List.{List, [], ◌∷◌}
use mathlib.Core.Option.{Option, some, none}
use Prim.Native.Nat.{ℕ, zero, suc, ◌+◌, ◌-◌, ◌≤◌, ◌<◌, min}
use native.Mathlib.Numerals.{add-one}
use native.Mathlib.Nat.{min-eq_left, min-eq_right}
use native.Mathlib.Omega.{arith}
use lib.Dec.{leb}
use lib.ListN.{length, get_or}
use borrow.Author.Tests.{lt-ltb, le-ltb, le-leb, lt-leb, leb-true, leb-false}
use Rattle.model.specs.Slot.{fuller, fullest}
use Rattle.model.proofs.basics.Tests.{by_test}
use Rattle.layout.specs.Entries.{counts_in}

-- How many bytes a queue must have to be taken: b, and then one more than the fullest so far.
abbrev pub least_of : ℕ → (ℕ → ℕ) → Option ℕ → ℕ
least_of b bytes none = b
least_of b bytes (some q) = bytes q + 1

module _ (b : ℕ) (bytes : ℕ → ℕ) (i : ℕ) where
  next_fuller : (o : Option ℕ) → least_of b bytes o ≤ bytes i → fuller b bytes i o ≡ some i
  next_fuller none l = rw (le-leb b (bytes i) l)
  next_fuller (some q) l = rw (lt-ltb (bytes q) (bytes i) (omega arith))

  next_not_fuller : (o : Option ℕ) → bytes i < least_of b bytes o → fuller b bytes i o ≡ o
  next_not_fuller none l = rw (lt-leb b (bytes i) l)
  next_not_fuller (some q) l = rw (le-ltb (bytes q) (bytes i) (omega arith))

  pub fullest-next : least_of b bytes (fullest b bytes i) ≤ bytes i → fullest b bytes (i + 1) ≡ some i
  fullest-next l = rw add-one (next_fuller (fullest b bytes i) l)

  pub fullest-stays : bytes i < least_of b bytes (fullest b bytes i) → fullest b bytes (i + 1) ≡ fullest b bytes i
  fullest-stays l = rw add-one (next_not_fuller (fullest b bytes i) l)

  -- After one queue at least, a queue without bytes is never taken.
  pub least_low : 1 ≤ least_of b bytes (fullest b bytes (suc i))
  least_low =
      by_test (leb (least_of b bytes (fullest b bytes i)) (bytes i))
      (λ t. let enough : least_of b bytes (fullest b bytes i) ≤ bytes i =
      leb-true (least_of b bytes (fullest b bytes i)) (bytes i) t in
      rw (next_fuller (fullest b bytes i) enough) (omega arith))
      (λ t. let more : bytes i < least_of b bytes (fullest b bytes i) =
      leb-false (least_of b bytes (fullest b bytes i)) (bytes i) t in
      rw (next_not_fuller (fullest b bytes i) more) (omega (arith, more)))

-- Where no queue from m on has a byte, the fullest of n queues is that of the first m of them.
module _ (b : ℕ) (bytes : ℕ → ℕ) (m : ℕ) (some-queue : 1 ≤ m) (none-past : (q : ℕ) → m ≤ q → bytes q ≡ 0) where
  past_stays : (k : ℕ) → fullest b bytes (k + m) ≡ fullest b bytes m
  past_stays zero = ap (fullest b bytes) (let e : 0 + m ≡ m = omega arith in e)
  past_stays (suc k) =
      ap (fullest b bytes) (let e : suc k + m ≡ suc (k + m) = omega arith in e)
      ∙ next_not_fuller b bytes (k + m) (fullest b bytes (k + m)) (omega (arith, none-past (k + m) (omega arith), low))
      ∙ past_stays k
    where
      low : 1 ≤ least_of b bytes (fullest b bytes (k + m))
      low = go (k + m) (omega arith)
        where
          go : (j : ℕ) → 1 ≤ j → 1 ≤ least_of b bytes (fullest b bytes j)
          go zero h = absurd (omega arith)
          go (suc j) h = least_low b bytes j

  pub fullest-within : (n : ℕ) → fullest b bytes (min n m) ≡ fullest b bytes n
  fullest-within n =
      by_test (leb n m)
      (λ t. ap (fullest b bytes) (min-eq_left (leb-true n m t)))
      (λ t. let past : m ≤ n = omega (arith, leb-false n m t) in
      let e : (n - m) + m ≡ n = omega arith in
      ap (fullest b bytes) (min-eq_right past) ∙ sym (past_stays (n - m)) ∙ ap (fullest b bytes) e)

-- An array has no count past its end.
count_past : (xs : List ℕ) (q : ℕ) → length xs ≤ q → get_or xs q 0 ≡ 0
count_past [] q h = refl
count_past (x ∷ xs) zero h = absurd (omega arith)
count_past (x ∷ xs) (suc q) h = count_past xs q (omega arith)

pub counts_past : (xs : List ℕ) (q : ℕ) → length xs ≤ q → counts_in xs q ≡ 0
unfolding counts_in
counts_past xs q h = count_past xs q h
