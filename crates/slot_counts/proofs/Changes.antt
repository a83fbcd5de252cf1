-- One count of an array raised or lowered: that queue's count has changed by n, all others are as they were. Each step
-- of a slot changes one count in this way, or none.
use mathlib.Core.Path.{◌≡◌, ap, ◌∙◌}
use mathlib.Core.List.{List, [], ◌∷◌}
use mathlib.Core.Option.{some}
use Prim.Native.Nat.{ℕ, ◌+◌, ◌-◌, ◌≤◌, ◌<◌}
use native.Mathlib.Omega.{arith}
use lib.Dec.{eqb}
use lib.ListN.{length, set, get_or, length-set}
use borrow.Author.Tests.{eqb-true}
use Rattle.model.specs.State.{Byte, count_of}
use Rattle.model.proofs.basics.Tests.{by_test}
use Rattle.layout.specs.Lengths.{head_places, queue_places}
use Rattle.layout.specs.Entries.{counts_in}
use Rattle.layout.specs.Counts.{CountsAre}
use Rattle.layout.proofs.Counts.{counts_stored}
use Rattle.slot_counts.specs.Says.{only, arrival_counted}

-- The count of q changed by n, in any way that 0 leaves a count as it was.
module _ (change : ℕ → ℕ → ℕ) (by-nothing : (m : ℕ) → change m 0 ≡ m) where
  changed : (counts : List ℕ) (q n : ℕ) → length counts ≡ queue_places → q < queue_places
      → CountsAre (set counts q (change (get_or counts q 0) n)) (λ p. change (counts_in counts p) (only q n p))
  unfolding counts_in
  changed counts q n long below = record {
    long = length-set counts q new ∙ long;
    count_is = λ p.
        ap (λ (f : ℕ → ℕ). f p) (counts_stored counts q new (omega (arith, long)))
        ∙ by_test (eqb q p)
        (λ t. rw t (ap (λ (i : ℕ). change (get_or counts i 0) n) (eqb-true q p t)))
        (λ t. rw t (omega (arith, by-nothing (get_or counts p 0))));
  }
    where
      new : ℕ
      new = change (get_or counts q 0) n

pub raised : (counts : List ℕ) (q n : ℕ) → length counts ≡ queue_places → q < queue_places
    → CountsAre (set counts q (get_or counts q 0 + n)) (λ p. counts_in counts p + only q n p)
raised = changed (λ m n. m + n) (λ m. omega arith)

pub lowered : (counts : List ℕ) (q n : ℕ) → length counts ≡ queue_places → q < queue_places
    → CountsAre (set counts q (get_or counts q 0 - n)) (λ p. counts_in counts p - only q n p)
lowered = changed (λ m n. m - n) (λ m. omega arith)

-- A count of at most 4,034 has room for a block in its 16 bits.
pub fits_more : (counts : List ℕ) (q n : ℕ) → ((p : ℕ) → counts_in counts p ≤ head_places) → n ≤ 128
    → get_or counts q 0 + n < 65536
unfolding counts_in
fits_more counts q n h l = omega (arith, h q, l)

-- The count itself, as the array has it.
pub count_at : (counts : List ℕ) (q n : ℕ) → n ≤ counts_in counts q → n ≤ get_or counts q 0
unfolding counts_in
count_at counts q n h = h

-- 2. The arriving byte adds one at its queue.
count_one : (y : Byte) (q : ℕ) → only y.queue 1 q ≡ count_of q (y ∷ [])
count_one y q = by_test (eqb y.queue q) (λ t. rw t) (λ t. rw t)

pub arrival-adds : (counts : List ℕ) (y : Byte) → length counts ≡ queue_places → y.queue < queue_places
    → CountsAre (set counts y.queue (get_or counts y.queue 0 + 1)) (arrival_counted (some y) (counts_in counts))
arrival-adds counts y long below =
    let w = raised counts y.queue 1 long below in
    record { long = w.long; count_is = λ q. omega (arith, w.count_is q, count_one y q) }
