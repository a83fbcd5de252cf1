-- The counted slots passed in the arrays: what the functions of this crate leave there is the state that the idle slots
-- leave, and the counts beside it still hold.
use mathlib.Core.Path.{◌≡◌, refl, ap, sym, ◌∙◌, subst, fun_ext}
use mathlib.Core.Bool.{Bool, false}
use mathlib.Core.List.{List}
use Prim.Native.Nat.{ℕ, ◌+◌, ◌%◌, ◌≤◌, ◌<◌}
use lib.ListN.{length}
use Rattle.model.specs.Sizes.{paper, paper_limits, lookahead, store_bytes}
use Rattle.model.specs.State.{State, owed_of, tail_bytes, head_bytes}
use Rattle.model.specs.Idle.{turned, quietly, NothingToMove, Quiet, leading_empties, move_due, quiet_of}
use Rattle.model.proofs.one_slot.Rules.{Keeps}
use Rattle.model.proofs.basics.States.{same-state}
use Rattle.model.proofs.idle.QuietSlots.{PassedQuietly}
use Rattle.model.proofs.idle.QuietCount.{nothing-due, counted_quiet, counted_shift, counted_turn, owed_quietly}
use Rattle.layout.specs.Entries.{counts_in}
use Rattle.layout.specs.declared.Regs.{Regs}
use Rattle.layout.specs.Views.{Arrays, arrays, sizes_in, state_in}
use Rattle.layout.specs.Counts.{ByQueue, Tallies}
use Rattle.idle_quiet.specs.Says.{ShiftedBy}

-- The registers with another phase, and the arrays with other cells.
abbrev pub with_phase : ℕ → Regs → Regs
with_phase phase regs = record {
  queues = regs.queues;
  block = regs.block;
  depth = regs.depth;
  phase = phase;
  tail_fill = regs.tail_fill;
  head_fill = regs.head_fill;
  tail_mark = regs.tail_mark;
  head_mark = regs.head_mark;
  last_asked = regs.last_asked;
}

abbrev pub with_cells : List ℕ → Arrays → Arrays
with_cells cells m = arrays m.tail m.head cells m.firsts m.stored

module _ (regs : Regs) (m : Arrays) (store : List ℕ) (counts : ByQueue)
    (kept : Keeps paper (state_in regs m)) (long : store_bytes (sizes_in regs) ≤ length store)
    (tallies : Tallies (state_in regs m) counts) (n empties count phase : ℕ) (due : Bool)
    (leading : empties ≡ leading_empties (state_in regs m).cells)
    (due-is : due ≡ move_due (sizes_in regs) (counts_in counts.tails) (counts_in counts.heads)
    (state_in regs m).cells)
    (count_is : count ≡ quiet_of (sizes_in regs) regs.phase empties due n)
    (phase_is : phase ≡ (regs.phase + count) % regs.block) where
  abbrev x : State
  x = state_in regs m

  -- A move is due by the counts where it is due by the state itself.
  due_by_state : due ≡ move_due (sizes_in regs) (tail_bytes x) (head_bytes x) x.cells
  due_by_state =
      due-is
      ∙ ap (λ (f : ℕ → ℕ). move_due (sizes_in regs) f (counts_in counts.heads) x.cells)
      (fun_ext tallies.tails_are.count_is)
      ∙ ap (λ (f : ℕ → ℕ). move_due (sizes_in regs) (tail_bytes x) f x.cells)
      (fun_ext tallies.heads_are.count_is)

  not-due : due ≡ false → NothingToMove x
  not-due e = nothing-due x (sym due_by_state ∙ e)

  counted_is : quiet_of (sizes_in regs) regs.phase (leading_empties x.cells) due n ≡ count
  counted_is = ap (λ (k : ℕ). quiet_of (sizes_in regs) regs.phase k due n) (sym leading) ∙ sym count_is

  pub counted_by_state : count
      ≡ quiet_of (sizes_in regs) regs.phase (leading_empties x.cells)
      (move_due (sizes_in regs) (tail_bytes x) (head_bytes x) x.cells) n
  counted_by_state =
      sym counted_is
      ∙ ap (λ (t : Bool). quiet_of (sizes_in regs) regs.phase (leading_empties x.cells) t n) due_by_state

  -- Where all cells are empty, the phase turns.
  pub passed_by_turn : empties ≡ lookahead (sizes_in regs)
      → PassedQuietly paper x store count (state_in (with_phase phase regs) m)
  passed_by_turn all =
      subst (PassedQuietly paper x store count)
      (ap (λ (p : ℕ). state_in (with_phase p regs) m) (sym phase_is))
      (subst (λ (k : ℕ). PassedQuietly paper x store k (turned k x)) counted_is
      (counted_turn paper_limits x store kept long due not-due n (sym leading ∙ all)))

  pub tallies_turned : Tallies (state_in (with_phase phase regs) m) counts
  tallies_turned = record {
    tails_are = tallies.tails_are;
    heads_are = tallies.heads_are;
    owed_are = tallies.owed_are;
  }

  -- Else the cells shift too.
  module _ (cells : List ℕ) (some-full : empties < lookahead (sizes_in regs))
      (shifted : ShiftedBy (lookahead (sizes_in regs)) count m.cells cells) where
    abbrev y : State
    y = state_in (with_phase phase regs) (with_cells cells m)

    leads_some : leading_empties x.cells < lookahead (sizes_in regs)
    leads_some = subst (λ (k : ℕ). k < lookahead (sizes_in regs)) leading some-full

    pub passed_by_shift : PassedQuietly paper x store count y
    passed_by_shift =
        subst (PassedQuietly paper x store count)
        (same-state (quietly count x) y refl (sym phase_is) refl refl (sym shifted.cells_are) refl refl refl
        refl)
        (subst (λ (k : ℕ). PassedQuietly paper x store k (quietly k x)) counted_is
        (counted_shift paper_limits x store kept long due not-due n leads_some))

    quiet : Quiet count x
    quiet =
        subst (λ (k : ℕ). Quiet k x) counted_is
        (counted_quiet paper_limits x store kept long due not-due n leads_some)

    pub tallies_shifted : Tallies y counts
    tallies_shifted = record {
      tails_are = tallies.tails_are;
      heads_are = tallies.heads_are;
      owed_are = record {
        long = tallies.owed_are.long;
        count_is = λ q.
            tallies.owed_are.count_is q
            ∙ sym (owed_quietly q count x quiet)
            ∙ ap (owed_of q) (sym shifted.cells_are);
      };
    }
