-- What idle slots on lent arrays promise, by the model's own list of idle slots.
use Rattle.std.specs.Prelude.{◌≡◌, List, ℕ, ◌+◌, ◌-◌, ◌%◌, ◌<◌}
use Rattle.model.specs.Basics.{All}
use Rattle.model.specs.Sizes.{paper, lookahead}
use Rattle.model.specs.State.{Cell, State}
use Rattle.model.specs.Slot.{Reply}
use Rattle.model.specs.Calls.{idles}
use Rattle.model.specs.Lists.{run, last_state, last_store}
use Rattle.model.specs.Idle.{QuietStep, leading_empties, move_due, quiet_of, stretch_length, last_answer}
use Rattle.layout.specs.Counts.{ByQueue}
use Rattle.layout.specs.Entries.{counts_in, cells_in}
use Rattle.layout.specs.declared.Regs.{Regs}
use Rattle.layout.specs.Calls.{reply_in}
use Rattle.layout.specs.Views.{Arrays, sizes_in, state_in}
use Rattle.slot_in_place.specs.Says.{Ready}
use Rattle.idle_quiet.specs.Says.{ShiftedBy}
use Rattle.idle_in_place.specs.declared.Stretch.{Stretch}
use Rattle.idle_in_place.specs.declared.Passed.{Passed}

-- The cells of a state with these registers.
abbrev pub cells_of : Regs → List ℕ → List Cell
cells_of regs cells = cells_in (lookahead (sizes_in regs)) cells

-- Quiet slots passed in the cells alone: as many as `quiet_of` counts. The phase has turned by as many, and the cells
-- have shifted by as many; where all cells are empty, they stay.
pub record StretchSays (regs : Regs) (cells tails heads : List ℕ) (n : ℕ) (r : Stretch)
    (cells' : List ℕ) : Type 0 where
  pub count_is :
      r.count
      ≡ quiet_of (sizes_in regs) regs.phase (leading_empties (cells_of regs cells))
      (move_due (sizes_in regs) (counts_in tails) (counts_in heads) (cells_of regs cells)) n
  pub phase_is : r.phase ≡ (regs.phase + r.count) % regs.block
  pub all_stay : leading_empties (cells_of regs cells) ≡ lookahead (sizes_in regs) → cells' ≡ cells
  pub some_shift :
      leading_empties (cells_of regs cells) < lookahead (sizes_in regs)
      → ShiftedBy (lookahead (sizes_in regs)) r.count cells cells'

-- One stretch of at most n idle slots, as the model has them: how many passed, all but the last being quiet, and what
-- the last told, or none where n is 0.
pub record Stretched (x : State) (store : List ℕ) (n passed : ℕ) (reply : Reply) : Type 0 where
  pub passed_is : passed ≡ stretch_length paper x store n
  pub quiet_first : All QuietStep (run paper x store (idles (passed - 1)))
  pub last_is : reply ≡ (last_answer paper x store passed).reply

-- The same of what is handed back on lent arrays.
abbrev pub StretchPassed : State → List ℕ → ℕ → Passed → Type 0
StretchPassed x store n r = Stretched x store n r.passed (reply_in r.reply)

-- With state and store as those slots leave them, ready for the next one.
pub record PassSays (x : State) (store : List ℕ) (n : ℕ) (r : Passed) (m' : Arrays)
    (counts' : ByQueue) (store' : List ℕ) : Type 0 where
  pub stretch : StretchPassed x store n r
  pub state_is : state_in r.regs m' ≡ last_state paper x store (idles r.passed)
  pub store_is : store' ≡ last_store paper x store (idles r.passed)
  pub ready : Ready r.regs m' counts' store'
