-- What the functions of crates/idle_quiet answer is a stretch, put together. Where all cells are empty, the count of
-- quiet slots may be any and the cells stay; else it is at most the number of empty cells that lead, and the cells
-- shift by it.
use mathlib.Core.Path.{◌≡◌, refl, ap, ◌∙◌}
use mathlib.Core.Bool.{Bool, true, false}
use mathlib.Core.List.{List}
use Prim.Native.Nat.{ℕ, ◌+◌, ◌%◌, ◌≤◌}
use native.Mathlib.Omega.{arith}
use lib.ListN.{length}
use borrow.Author.Tests.{ne_eqb}
use Rattle.model.specs.Sizes.{Sizes, lookahead}
use Rattle.model.specs.Idle.{leading_empties, move_due, quiet_of}
use Rattle.layout.specs.Entries.{counts_in}
use Rattle.layout.specs.declared.Regs.{Regs}
use Rattle.layout.specs.Views.{sizes_in}
use Rattle.idle_quiet.specs.Says.{ShiftedBy}
use Rattle.idle_quiet.proofs.Leading.{leading_fits}
use Rattle.idle_in_place.specs.declared.Stretch.{Stretch}
use Rattle.idle_in_place.specs.Says.{cells_of, StretchSays}

abbrev stretch : ℕ → ℕ → Stretch
stretch count phase = record { count = count; phase = phase }

-- No more than lead, where not all cells are empty.
counted_at_most : (s : Sizes) (phase empties : ℕ) (due : Bool) (n : ℕ) → (empties ≡ lookahead s → ⊥)
    → quiet_of s phase empties due n ≤ empties
counted_at_most s phase empties true n other = omega arith
counted_at_most s phase empties false n other = rw (ne_eqb empties (lookahead s) other) (omega arith)

module _ (regs : Regs) (cells tails heads : List ℕ) (n : ℕ) {empties count phase : ℕ} {due : Bool}
    (leading : empties ≡ leading_empties (cells_of regs cells))
    (due-is : due ≡ move_due (sizes_in regs) (counts_in tails) (counts_in heads) (cells_of regs cells))
    (counted : count ≡ quiet_of (sizes_in regs) regs.phase empties due n)
    (turned : phase ≡ (regs.phase + count) % regs.block) where
  -- The count from the cells and the counts by queue.
  count_from : count
      ≡ quiet_of (sizes_in regs) regs.phase (leading_empties (cells_of regs cells))
      (move_due (sizes_in regs) (counts_in tails) (counts_in heads) (cells_of regs cells)) n
  count_from =
      counted
      ∙ ap (λ (k : ℕ). quiet_of (sizes_in regs) regs.phase k due n) leading
      ∙ ap (λ (t : Bool). quiet_of (sizes_in regs) regs.phase (leading_empties (cells_of regs cells)) t n) due-is

  -- All cells are empty, and stay.
  pub stretch_stays : empties ≡ lookahead (sizes_in regs)
      → StretchSays regs cells tails heads n (stretch count phase) cells
  stretch_stays all = record {
    count_is = count_from;
    phase_is = turned;
    all_stay = λ e. refl;
    some_shift = λ less. absurd (omega (arith, less, all, leading));
  }

  -- Not all are, and they shift.
  module _ (other : empties ≡ lookahead (sizes_in regs) → ⊥) where
    pub count_fits : lookahead (sizes_in regs) ≤ length cells → count ≤ lookahead (sizes_in regs)
    count_fits fits =
        omega (
          arith,
          counted,
          counted_at_most (sizes_in regs) regs.phase empties due n other,
          leading,
          leading_fits (lookahead (sizes_in regs)) cells fits,
        )

    pub stretch_shifts : {cells' : List ℕ} → ShiftedBy (lookahead (sizes_in regs)) count cells cells'
        → StretchSays regs cells tails heads n (stretch count phase) cells'
    stretch_shifts shifted = record {
      count_is = count_from;
      phase_is = turned;
      all_stay = λ all. absurd (other (leading ∙ all));
      some_shift = λ less. shifted;
    }
