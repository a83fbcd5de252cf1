-- How long a queue waits for the arbiter, over calls: of any chain of calls that each meet the contract of `slot`, on
-- state and store as the one before left them. It cites that contract alone, so that it holds of whatever meets it.
use Rattle.std.specs.Prelude.{◌≡◌, true, List, [], ◌∷◌, ℕ}
use Rattle.std.proofs.Math.Option.{Option}
use Rattle.model.specs.Sizes.{paper}
use Rattle.model.specs.State.{Byte, keeps}
use Rattle.model.specs.Lists.{Step, step_of, accepted}
use Rattle.model.specs.Arbiter.{arbiter_call}
use Rattle.model.specs.Fairness.{Front, ServedSoon}
use Rattle.buffer.specs.declared.State as code
use Rattle.buffer.specs.Says.{state_of}
use Rattle.buffer_arbiter.specs.declared.ArbiterSlotted.{ArbiterSlotted}
use Rattle.buffer_arbiter.specs.Says.{arbiter_answer_of, ArbiterSlotSays}

-- The calls by their arrivals, and the slots that they were.
pub data ArbiterCalls : code.State → List ℕ → List (Option Byte) → List Step → Type 0 where
  no_call : {s : code.State} {store : List ℕ} → ArbiterCalls s store [] []
  next_call : {s : code.State} {store : List ℕ} {arrival : Option Byte} {a : ArbiterSlotted} {store' : List ℕ}
      {arrivals : List (Option Byte)} {steps : List Step}
      → ArbiterSlotSays s store arrival a store'
      → ArbiterCalls a.state store' arrivals steps
      → ArbiterCalls s store (arrival ∷ arrivals)
      (step_of (state_of s) store (arbiter_call (state_of s) arrival) (arbiter_answer_of a store') ∷ steps)

-- Both bounds of request 2.2, from every state that keeps the rules.
abbrev pub CallsServed : Type 0
CallsServed =
    (s : code.State) (store : List ℕ) (arrivals : List (Option Byte)) (steps : List Step) (q v : ℕ)
    → keeps paper (state_of s) ≡ true → ArbiterCalls s store arrivals steps
    → Front (state_of s) store (accepted steps) q v
    → ServedSoon (state_of s).sizes (accepted steps) q v
