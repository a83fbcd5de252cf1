-- A leaving cell and the counts by queue: an Owed cell takes one from the count of its queue, any other takes nothing.
use mathlib.Core.Path.{◌≡◌, ap, ◌∙◌}
use mathlib.Core.List.{List}
use Prim.Native.Nat.{ℕ, ◌-◌, ◌/◌, ◌%◌, ◌≤◌, ◌<◌}
use native.Mathlib.Omega.{arith}
use lib.Dec.{eqb}
use lib.ListN.{length, set, get_or, length-set}
use borrow.Author.Tests.{eqb-true}
use Rattle.model.specs.State.{owed}
use Rattle.model.proofs.basics.Tests.{by_test}
use Rattle.layout.specs.Lengths.{queue_places}
use Rattle.layout.specs.Entries.{counts_in, cell_of}
use Rattle.layout.specs.Counts.{CountsAre}
use Rattle.layout.proofs.Counts.{counts_stored}
use Rattle.lookahead.specs.Says.{spent}
use Rattle.layout.proofs.Cells.{cell_owed, cell_owes_nothing}

-- What the contract asks of an Owed cell, at the queue that its number has.
abbrev pub Spendable : List ℕ → ℕ → Type 0
Spendable counts cell = (q : ℕ) → cell_of cell ≡ owed q → (q < queue_places) × (1 ≤ counts_in counts q)

pub spendable_at : (counts : List ℕ) (cell : ℕ) → Spendable counts cell → 131072 ≤ cell
    → (cell / 256 % 256 < queue_places) × (1 ≤ get_or counts (cell / 256 % 256) 0)
unfolding counts_in
spendable_at counts cell f h = f (cell / 256 % 256) (cell_owed cell h)

pub spends_nothing : (counts : List ℕ) (cell : ℕ) → length counts ≡ queue_places → cell < 131072
    → CountsAre counts (spent (counts_in counts) (cell_of cell))
spends_nothing counts cell long h = record {
  long = long;
  count_is = λ p. omega (arith, cell_owes_nothing cell p h);
}

pub spends_one : (counts : List ℕ) (cell : ℕ) → length counts ≡ queue_places → 131072 ≤ cell
    → cell / 256 % 256 < queue_places
    → CountsAre (set counts (cell / 256 % 256) (get_or counts (cell / 256 % 256) 0 - 1))
    (spent (counts_in counts) (cell_of cell))
unfolding counts_in
spends_one counts cell long h below = record {
  long = length-set counts q (get_or counts q 0 - 1) ∙ long;
  count_is = λ p.
      ap (λ (f : ℕ → ℕ). f p) (counts_stored counts q (get_or counts q 0 - 1) (omega (arith, long)))
      ∙ by_test (eqb q p)
      (λ t. rw (cell_owed cell h, t) (omega (arith, ap (counts_in counts) (eqb-true q p t))))
      (λ t. rw (cell_owed cell h, t) (omega arith));
}
  where
    q : ℕ
    q = cell / 256 % 256
