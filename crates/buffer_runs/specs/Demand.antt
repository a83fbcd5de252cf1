-- Demand 3 over calls of every kind, and the high marks that they leave: of any chain in which the first call meets the
-- contract of making a state and each next one that of a slot, a step, a run of many slots, a stretch of idle slots or
-- a slot in which the round robin arbiter chooses, in any order, "each slot getting state and store exactly as the one
-- before left them", refused ones included. It cites the contracts alone, so that it holds of whatever meets them.
use Rattle.std.specs.Prelude.{List, [], ◌∷◌, ◌++◌, ℕ, Ok}
use Rattle.std.proofs.Math.Option.{Option}
use Rattle.model.specs.Sizes.{sizes, paper}
use Rattle.model.specs.State.{Byte}
use Rattle.model.specs.Slot.{Call}
use Rattle.model.specs.Calls.{idles}
use Rattle.model.specs.Arbiter.{arbiter_call}
use Rattle.model.specs.Lists.{Step, step_of, run, accepted}
use Rattle.model.specs.Demand.{ListMeets, Sentences}
use Rattle.model.specs.HighMarks.{GreatestFills}
use Rattle.run_checked.specs.Says.{calls_run}
use Rattle.buffer.specs.declared.State as code
use Rattle.buffer.specs.declared.Slotted.{Slotted}
use Rattle.buffer.specs.Says.{state_of, MakeSays, answer_of, SlotSays, StepSays}
use Rattle.buffer_arbiter.specs.declared.ArbiterSlotted.{ArbiterSlotted}
use Rattle.buffer_arbiter.specs.Says.{arbiter_answer_of, ArbiterSlotSays}
use Rattle.buffer_runs.specs.declared.Idled.{Idled}
use Rattle.buffer_runs.specs.Says.{RunSays, IdleSays}

-- A chain of calls, all slots of it in one list, and the record that the last call left. The slot of a slot or a step
-- is what it answered. The slots of a run are those that its answer words tell: by `RunSays` .answers-are the words
-- are those of this very `run`, one for each of its slots. Those of a stretch are as many idle slots as it says that
-- passed: by `IdleSays` .stretch all but the last are quiet, and the last is the one that it answers.
pub data MixedCalls : code.State → List ℕ → List Step → code.State → Type 0 where
  no_call : {s : code.State} {store : List ℕ} → MixedCalls s store [] s
  by_slot : {s : code.State} {store : List ℕ} {call : Call} {a : Slotted} {store' : List ℕ} {steps : List Step}
      {last : code.State}
      → SlotSays s store call a store'
      → MixedCalls a.state store' steps last
      → MixedCalls s store (step_of (state_of s) store call (answer_of a store') ∷ steps) last
  by_step : {s : code.State} {store : List ℕ} {call : Call} {a : Slotted} {store' : List ℕ} {steps : List Step}
      {last : code.State}
      → StepSays s store call a store'
      → MixedCalls a.state store' steps last
      → MixedCalls s store (step_of (state_of s) store call (answer_of a store') ∷ steps) last
  by_run : {s : code.State} {store calls answers : List ℕ} {r : code.State} {answers' store' : List ℕ}
      {steps : List Step} {last : code.State}
      → RunSays s calls answers store r answers' store'
      → MixedCalls r store' steps last
      → MixedCalls s store (run paper (state_of s) store (calls_run calls answers) ++ steps) last
  by_idle : {s : code.State} {store : List ℕ} {n : ℕ} {r : Idled} {store' : List ℕ} {steps : List Step}
      {last : code.State}
      → IdleSays s store n r store'
      → MixedCalls r.state store' steps last
      → MixedCalls s store (run paper (state_of s) store (idles r.passed) ++ steps) last
  by_arbiter : {s : code.State} {store : List ℕ} {arrival : Option Byte} {a : ArbiterSlotted} {store' : List ℕ}
      {steps : List Step} {last : code.State}
      → ArbiterSlotSays s store arrival a store'
      → MixedCalls a.state store' steps last
      → MixedCalls s store
      (step_of (state_of s) store (arbiter_call (state_of s) arrival) (arbiter_answer_of a store') ∷ steps) last

-- All of demand 3, fills and caches included, and once more sentence by sentence; and of the high marks in the end,
-- that "each is now exactly the greatest fill since the fresh state" (request 2.8).
abbrev pub MixedCallsMeet : Type 0
MixedCallsMeet =
    (q b k : ℕ) (first : code.State) (store : List ℕ) (steps : List Step) (last : code.State)
    → MakeSays q b k (Ok first) → MixedCalls first store steps last
    → ListMeets (sizes q b k) store steps
    × Sentences (sizes q b k) (accepted steps)
    × GreatestFills (accepted steps) (state_of last)
