-- What a run of many slots promises: the model's own list, with an answer for each of its slots.
use Rattle.std.specs.Prelude.{◌≡◌, List, [], ◌∷◌, ◌++◌, map, ℕ, length, drop, Result}
use Rattle.model.specs.Sizes.{paper}
use Rattle.model.specs.State.{State}
use Rattle.model.specs.Slot.{Call, slot}
use Rattle.model.specs.Lists.{Step, run, last_state, last_store}
use Rattle.layout.specs.Counts.{ByQueue}
use Rattle.layout.specs.declared.Regs.{Regs}
use Rattle.layout.specs.declared.Outcome.{Outcome}
use Rattle.layout.specs.declared.Refusal.{Refusal}
use Rattle.layout.specs.Views.{Arrays, state_in}
use Rattle.slot_in_place.specs.declared.Advanced.{Advanced}
use Rattle.slot_in_place.specs.Says.{AdvanceSays, AsGiven}
use Rattle.run_words.specs.Words.{answer_word}
use Rattle.run_in_place.specs.declared.Called.{Called}

-- A slot's answer as one number.
abbrev pub word_of : Step → ℕ
word_of step = answer_word step.reply

-- What a slot of a run hands back beside its word, as the slot in place does.
abbrev pub advanced_in : Called → Advanced
advanced_in r = record { regs = r.regs; reply = r.reply }

-- One slot of a run: the slot in place, and its answer as one number.
pub record CalledSays (x : State) (store : List ℕ) (call : Call) (r : Called) (m : Arrays)
    (counts : ByQueue) (store' : List ℕ) : Type 0 where
  pub slot_is : AdvanceSays x store call (advanced_in r) m counts store'
  pub word_is : r.word ≡ answer_word (slot paper x store call).reply

-- What a run hands back of its last slot, with the registers that it leaves.
abbrev pub advanced_to : Regs → Result Outcome Refusal → Advanced
advanced_to regs r = record { regs = regs; reply = r }

-- A run of one call is the slot in place: on a refusal the registers and the arrays are as they came.
pub record OneSlotSays (regs : Regs) (m : Arrays) (store : List ℕ) (call : Call) (r : Advanced) (m' : Arrays)
    (counts : ByQueue) (store' : List ℕ) : Type 0 where
  pub slot_is : AdvanceSays (state_in regs m) store call r m' counts store'
  pub as_given : AsGiven regs m r m'

abbrev pub OneCallSays : Regs → Arrays → List ℕ → List Call → Advanced → Arrays → ByQueue → List ℕ → Type 0
OneCallSays regs m store calls r m' counts store' =
    (call : Call) → calls ≡ call ∷ [] → OneSlotSays regs m store call r m' counts store'

-- The whole list: an answer for each slot, refused ones included, what lies behind them as it was; state and store as
-- the list leaves them.
pub record RunInPlaceSays (x : State) (store : List ℕ) (calls : List Call) (before after : List ℕ) (state : State)
    (store' : List ℕ) : Type 0 where
  pub answers_are : after ≡ map word_of (run paper x store calls) ++ drop (length calls) before
  pub state_is : state ≡ last_state paper x store calls
  pub store_is : store' ≡ last_store paper x store calls
