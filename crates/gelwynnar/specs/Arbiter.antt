-- What slots promise in which the round robin arbiter chooses, of arrays that a C caller lends, by the model's own.
use Rattle.std.specs.Prelude.{◌≡◌, List, ℕ}
use Rattle.std.proofs.Math.Option.{Option}
use Rattle.model.specs.Sizes.{paper}
use Rattle.model.specs.State.{Byte, State}
use Rattle.model.specs.Slot as model
use Rattle.model.specs.Lists.{taken}
use Rattle.model.specs.Arbiter.{choice, arbiter_slot}
use Rattle.layout.specs.declared.Regs.{Regs}
use Rattle.layout.specs.Views.{Arrays, state_in}
use Rattle.gelwynnar.specs.declared.arbiter.ArbiterAnswer.{ArbiterAnswer}
use Rattle.gelwynnar.specs.Slots.{flag, queue_told, told}

-- What a slot tells and the queue that was asked, as numbers.
abbrev pub arbiter_told : model.Reply → Option ℕ → ArbiterAnswer
arbiter_told r asked = record { slot = told r; asks = flag asked; asked = queue_told asked }

-- What the arbiter asked: its choice, where the slot is accepted.
abbrev pub asked_by : State → List ℕ → Option Byte → Option ℕ
asked_by x store arrival = taken (arbiter_slot paper x store arrival).reply.number (choice x arrival)

-- One slot: the answer with the queue asked, the whole state and the whole store are those of the model's arbiter. On a
-- refusal the registers and the arrays are as they came, places past a fill included.
pub record ArbiterLentSays (regs : Regs) (m : Arrays) (store : List ℕ) (arrival : Option Byte) (r : ArbiterAnswer)
    (regs' : Regs) (m' : Arrays) (store' : List ℕ) : Type 0 where
  pub answer-is : r
      ≡ arbiter_told (arbiter_slot paper (state_in regs m) store arrival).reply (asked_by (state_in regs m) store arrival)
  pub state_is : state_in regs' m' ≡ (arbiter_slot paper (state_in regs m) store arrival).state
  pub store_is : store' ≡ (arbiter_slot paper (state_in regs m) store arrival).store
  pub as_given : (r.slot.number ≡ 0 → ⊥) → (regs' ≡ regs) × (m' ≡ m)
