-- What slots that are run and printed promise, by the definition of their lines.
use Rattle.std.specs.Prelude.{◌≡◌, List, [], ◌∷◌, ℕ, ◌+◌, ◌≤◌, ◌<◌, length}
use Rattle.model.specs.Sizes.{paper}
use Rattle.model.specs.State.{State}
use Rattle.model.specs.Slot.{Call, Reply}
use Rattle.model.specs.Calls.{idles}
use Rattle.model.specs.Lists.{run, last_state, last_store, accepted}
use Rattle.layout.specs.Counts.{ByQueue}
use Rattle.layout.specs.Calls.{call_in}
use Rattle.layout.specs.Views.{Arrays, state_in}
use Rattle.slot_in_place.specs.Says.{Ready}
use Rattle.script_lines.specs.Lines.{text}
use Rattle.script_lines.specs.Says.{PutSays}
use Rattle.script_text.specs.Run.{answer_lines, count_on, slot_lines}
use Rattle.script_slots.specs.declared.Progress.{Progress}
use Rattle.script_slots.specs.declared.AnswerPut.{AnswerPut}
use Rattle.script_slots.specs.declared.Wanted.{Wanted}
use Rattle.script_slots.specs.declared.Wanted.TheVariants.{One, Many}

-- The least number that a count of slots cannot hold: it has 64 bits.
abbrev pub count_limit : ℕ
count_limit = 18_446_744_073_709_551_616

-- What the lines of one slot need, which tells this, t slots having been accepted before it.
pub record AnswerFits (t : ℕ) (reply : Reply) (place : ℕ) (output : List ℕ) : Type 0 where
  pub lines_fit : place + length (text (answer_lines t reply)) ≤ length output
  pub slots_fit : t + 1 < count_limit

-- The lines of one slot, and how many slots have been accepted with it.
pub record AnswerSays (t : ℕ) (reply : Reply) (place : ℕ) (output : List ℕ) (r : AnswerPut) (output' : List ℕ)
    : Type 0 where
  pub lines_are : PutSays (text (answer_lines t reply)) place output r.place output'
  pub slots_is : r.slots ≡ count_on t reply.number

-- Slots run from a state on, t slots having been accepted before: state and store as the model's list leaves them, how
-- many have been accepted then, their lines in the output from this place on, and the state ready for more.
pub record RunsOn (x : State) (store : List ℕ) (calls : List Call) (t place : ℕ) (output : List ℕ) (r : Progress)
    (m : Arrays) (counts : ByQueue) (store' output' : List ℕ) : Type 0 where
  pub state_is : state_in r.regs m ≡ last_state paper x store calls
  pub store_is : store' ≡ last_store paper x store calls
  pub slots_is : r.slots ≡ t + length (accepted (run paper x store calls))
  pub lines_are : PutSays (text (slot_lines t (run paper x store calls))) place output r.place output'
  pub ready : Ready r.regs m counts store'

-- What slots that are to be run need: their lines fit the output, and their number fits the count.
pub record Room (x : State) (store : List ℕ) (calls : List Call) (t place : ℕ) (output : List ℕ) : Type 0 where
  pub lines_fit : place + length (text (slot_lines t (run paper x store calls))) ≤ length output
  pub slots_fit : t + length calls < count_limit

-- The slots that are wanted.
abbrev pub wanted_in : Wanted → List Call
wanted_in (One call) = call_in call ∷ []
wanted_in (Many n) = idles n
