-- Slots of both kinds in one list: those of a caller's own calls, and those in which the round robin arbiter of request
-- 2.2 chooses.
use Rattle.std.specs.Prelude.{◌≡◌, List, [], ◌∷◌, ℕ}
use Rattle.std.proofs.Math.Option.{Option}
use Rattle.model.specs.Sizes.{Design}
use Rattle.model.specs.State.{Byte, State}
use Rattle.model.specs.Slot.{Call, Answer}
use Rattle.model.specs.Arbiter.{arbiter_call, arbiter_slot}
use Rattle.model.specs.Lists.{Step, step_of, Promised}

-- Any slots of which each keeps its promise, in any order, on state and store exactly as the one before left them: all
-- steps of them, and the state that the last one left.
pub data Chain (design : Design) : State → List ℕ → List Step → State → Type 0 where
  no_slot : {x : State} {store : List ℕ} → Chain design x store [] x
  own_slot : {x : State} {store : List ℕ} {a : Answer} {steps : List Step} {last : State} (call : Call)
      → Promised design x store call a
      → Chain design a.state a.store steps last
      → Chain design x store (step_of x store call a ∷ steps) last
  arbiters_slot : {x : State} {store : List ℕ} {a : Answer} {steps : List Step} {last : State} (arrival : Option Byte)
      → a ≡ arbiter_slot design x store arrival
      → Chain design a.state a.store steps last
      → Chain design x store (step_of x store (arbiter_call x arrival) a ∷ steps) last
