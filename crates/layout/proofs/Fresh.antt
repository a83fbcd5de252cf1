-- Registers and arrays with 0 at every place, but for the sizes and the last one asked, hold a fresh state, and counts
-- of 0 are its own.
use mathlib.Core.Path.{◌≡◌, refl, ap, sym, ◌∙◌, fun_ext}
use mathlib.Core.Bool.{true}
use mathlib.Core.List.{◌∷◌}
use Prim.Native.Nat.{ℕ, zero, suc, ◌≤◌}
use native.Mathlib.Omega.{arith}
use lib.ListN.{get_or, replicate}
use Rattle.model.specs.Basics.{tabulate}
use Rattle.model.specs.Sizes.{sizes, paper_limits, accepts, paper, lookahead}
use Rattle.model.specs.State.{empty, ring, owed_of, fresh}
use Rattle.layout.specs.Lengths.{tail_places, head_places, cell_places, queue_places}
use Rattle.layout.specs.Entries.{cell_for, cell_of, cells_in}
use Rattle.layout.specs.Counts.{Tallies}
use Rattle.layout.specs.Views.{rings_in, state_in}
use Rattle.layout.specs.Fresh.{fresh_regs, fresh_arrays, fresh_counts}
use Rattle.layout.proofs.Entries.{bytes-none}
use Rattle.layout.proofs.Counts.{counts_zero}
use Rattle.layout.proofs.Ranges.{in_limits}
use Rattle.layout.proofs.States.{same-state}

zeros_at : (n i : ℕ) → ◌≡◌ {A = ℕ} (get_or (replicate n 0) i 0) 0
zeros_at zero i = refl
zeros_at (suc n) zero = refl
zeros_at (suc n) (suc i) = zeros_at n i

zero_cell : cell_of 0 ≡ empty
unfolding cell_of cell_for
zero_cell = refl

pub empty_at : (n i : ℕ) → cell_of (get_or (replicate n 0) i 0) ≡ empty
empty_at n i = ap cell_of (zeros_at n i) ∙ zero_cell

zero_cells : (n k : ℕ) → n ≤ k → cells_in n (replicate k 0) ≡ replicate n empty
unfolding cells_in
zero_cells zero k h = refl
zero_cells (suc n) zero h = absurd (omega arith)
zero_cells (suc n) (suc k) h = rw (zero_cell, zero_cells n k (omega arith))

same-everywhere : {A : Type 0} (n : ℕ) (v : A) → tabulate n (λ i. v) ≡ replicate n v
same-everywhere zero v = refl
same-everywhere (suc n) v = ap (λ l. v ∷ l) (same-everywhere n v)

zero_rings : (n k : ℕ) → rings_in n (replicate k 0) (replicate k 0) ≡ replicate n (ring 0 0)
unfolding rings_in
zero_rings n k =
    ap (tabulate n) (fun_ext (λ q. rw (counts_zero k q)))
    ∙ same-everywhere n (ring 0 0)

pub fresh_in : (q b k : ℕ) → accepts paper_limits (sizes q b k) ≡ true
    → state_in (fresh_regs q b k) fresh_arrays ≡ fresh paper (sizes q b k)
fresh_in q b k e =
    same-state (sizes q b k) refl (bytes-none (replicate tail_places 0)) (bytes-none (replicate head_places 0))
    (zero_cells (lookahead (sizes q b k)) cell_places (omega (arith, (in_limits (fresh_regs q b k) e).span_high)))
    (zero_rings q queue_places)
    refl refl refl

none_owed : (n q : ℕ) → owed_of q (replicate n empty) ≡ 0
none_owed zero q = refl
none_owed (suc n) q = rw (none_owed n q)

-- No queue of a fresh state has a byte or an Owed cell.
pub fresh-tallies : (q b k : ℕ) → Tallies (fresh paper (sizes q b k)) fresh_counts
fresh-tallies q b k = record {
  tails_are = record { long = refl; count_is = counts_zero queue_places };
  heads_are = record { long = refl; count_is = counts_zero queue_places };
  owed_are = record {
    long = refl;
    count_is = λ p. counts_zero queue_places p ∙ sym (none_owed (lookahead (sizes q b k)) p);
  };
}
