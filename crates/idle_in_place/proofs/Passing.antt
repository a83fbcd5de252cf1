-- A stretch that is passed in the cells is a stretch of the model's idle slots, all quiet, and leaves a state that is
-- ready: where some cell is not empty it is a shift, where all are a turn.
use mathlib.Core.Path.{◌≡◌, refl, ap, sym, ◌∙◌, subst}
use mathlib.Core.Bool.{Bool}
use mathlib.Core.List.{List}
use Prim.Native.Nat.{ℕ, ◌≤◌, ◌<◌}
use native.Mathlib.Omega.{arith}
use lib.Dec.{eqb}
use lib.ListN.{length}
use borrow.Author.Tests.{eqb-true, eqb-false}
use Rattle.model.specs.Sizes.{paper, lookahead}
use Rattle.model.specs.Idle.{leading_empties, move_due, quiet_first}
use Rattle.model.proofs.basics.Tests.{by_test}
use Rattle.model.proofs.one_slot.Rules.{Keeps, keeps-facts, keeps-holds}
use Rattle.model.proofs.idle.QuietSlots.{PassedQuietly}
use Rattle.model.proofs.idle.QuietCount.{counted_within}
use Rattle.model.proofs.idle.Stretch.{quiet_first_is}
use Rattle.layout.specs.Entries.{counts_in}
use Rattle.layout.specs.declared.Regs.{Regs}
use Rattle.layout.specs.Views.{Arrays, sizes_in, state_in}
use Rattle.layout.specs.Counts.{ByQueue, Tallies}
use Rattle.layout.proofs.Ranges.{in_limits}
use Rattle.slot_in_place.specs.Says.{Ready}
use Rattle.idle_quiet.proofs.Leading.{leading_fits}
use Rattle.idle_quiet.proofs.Passing.{with_phase, with_cells, passed_by_turn, tallies_turned, passed_by_shift}
use Rattle.idle_quiet.proofs.Passing.{tallies_shifted, counted_by_state}
use Rattle.idle_in_place.specs.declared.Stretch.{Stretch}
use Rattle.idle_in_place.specs.Says.{cells_of, StretchSays}

-- What passes quietly: the slots, the counts beside the state, the length of the cells.
pub record QuietlyPassed (regs : Regs) (m : Arrays) (counts : ByQueue) (store : List ℕ) (s : Stretch) (cells' : List ℕ)
    : Type 0 where
  pub slots_pass : PassedQuietly paper (state_in regs m) store s.count
      (state_in (with_phase s.phase regs) (with_cells cells' m))
  pub counts_stay : Tallies (state_in (with_phase s.phase regs) (with_cells cells' m)) counts
  pub same_length : length cells' ≡ length m.cells

module _ {regs : Regs} {m : Arrays} {counts : ByQueue} {store : List ℕ} (r : Ready regs m counts store)
    {n : ℕ} {s : Stretch} {cells' : List ℕ}
    (says : StretchSays regs m.cells counts.tails counts.heads n s cells') where
  abbrev l : ℕ
  l = lookahead (sizes_in regs)

  -- Whether a move is due at the end of the quiet slots, by the counts.
  abbrev due : Bool
  due = move_due (sizes_in regs) (counts_in counts.tails) (counts_in counts.heads) (cells_of regs m.cells)

  abbrev empties : ℕ
  empties = leading_empties (cells_of regs m.cells)

  kept : Keeps paper (state_in regs m)
  kept = keeps-facts paper (state_in regs m) r.kept

  fits : l ≤ length m.cells
  fits = omega (arith, (in_limits regs kept.sizes-ok).span_high, r.long.cells_long)

  by_turn : empties ≡ l → cells' ≡ m.cells → QuietlyPassed regs m counts store s cells'
  by_turn all stay = record {
    slots_pass =
        subst
        (λ (cells : List ℕ). PassedQuietly paper (state_in regs m) store s.count
        (state_in (with_phase s.phase regs) (with_cells cells m)))
        (sym stay)
        (passed_by_turn regs m store counts kept r.store_long r.tallies n empties s.count
        s.phase due refl refl
        says.count_is says.phase_is all);
    counts_stay =
        subst
        (λ (cells : List ℕ). Tallies (state_in (with_phase s.phase regs) (with_cells cells m)) counts)
        (sym stay)
        (tallies_turned regs m store counts kept r.store_long r.tallies n empties s.count
        s.phase due refl refl
        says.count_is says.phase_is);
    same_length = ap length stay;
  }

  by_shift : empties < l → QuietlyPassed regs m counts store s cells'
  by_shift some-full = record {
    slots_pass =
        passed_by_shift regs m store counts kept r.store_long r.tallies n empties s.count
        s.phase due refl refl
        says.count_is says.phase_is cells' some-full (says.some_shift some-full);
    counts_stay =
        tallies_shifted regs m store counts kept r.store_long r.tallies n empties s.count
        s.phase due refl refl
        says.count_is says.phase_is cells' some-full (says.some_shift some-full);
    same_length = (says.some_shift some-full).same_length;
  }

  pub quiet_passed : QuietlyPassed regs m counts store s cells'
  quiet_passed =
      by_test (eqb empties l)
      (λ t. by_turn (eqb-true empties l t) (says.all_stay (eqb-true empties l t)))
      (λ t. by_shift (omega (arith, eqb-false empties l t, leading_fits l m.cells fits)))

  -- What they leave is ready.
  pub quiet_ready : Ready (with_phase s.phase regs) (with_cells cells' m) counts store
  quiet_ready = record {
    long = record {
      tail_long = r.long.tail_long;
      head_long = r.long.head_long;
      cells_long = quiet_passed.same_length ∙ r.long.cells_long;
      firsts_long = r.long.firsts_long;
      stored_long = r.long.stored_long;
    };
    kept =
        keeps-holds paper (state_in (with_phase s.phase regs) (with_cells cells' m)) quiet_passed.slots_pass.kept;
    tallies = quiet_passed.counts_stay;
    store_long = r.store_long;
  }

  -- They are those that the model counts.
  pub quiet_counted : s.count ≡ quiet_first paper (state_in regs m) store n
  quiet_counted =
      quiet_first_is paper (state_in regs m) store n s.count
      (counted_by_state regs m store counts kept r.store_long r.tallies n empties s.count s.phase due refl
      refl says.count_is says.phase_is)
      quiet_passed.slots_pass.steps_quiet

  -- They are no more than there are.
  pub quiet_most : s.count ≤ n
  quiet_most =
      omega (
        arith,
        says.count_is,
        counted_within (sizes_in regs) regs.phase empties due n,
      )
