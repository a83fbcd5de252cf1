-- What a slot by value promises in which the arbiter chooses, of any state and any store, by the model's own.
use Rattle.std.specs.Prelude.{◌≡◌, List, ℕ}
use Rattle.std.proofs.Math.Option.{Option}
use Rattle.model.specs.Sizes.{paper}
use Rattle.model.specs.State.{Byte}
use Rattle.model.specs.Slot.{Answer}
use Rattle.model.specs.Lists.{taken}
use Rattle.model.specs.Arbiter.{choice, arbiter_slot}
use Rattle.layout.specs.Calls.{request_in, reply_in}
use Rattle.buffer.specs.declared.State as code
use Rattle.buffer.specs.Says.{state_of}
use Rattle.buffer_arbiter.specs.declared.ArbiterSlotted.{ArbiterSlotted}

-- The answer in the model's terms.
abbrev pub arbiter_answer_of : ArbiterSlotted → List ℕ → Answer
arbiter_answer_of r store = record { reply = reply_in r.reply; state = state_of r.state; store = store }

-- The answer, the whole state and the whole store are those of the model's arbiter; the queue asked is its choice,
-- where the slot is accepted. On a refusal the very record comes back, places past a fill included.
pub record ArbiterSlotSays (s : code.State) (store : List ℕ) (arrival : Option Byte) (r : ArbiterSlotted)
    (store' : List ℕ) : Type 0 where
  pub promised : arbiter_answer_of r store' ≡ arbiter_slot paper (state_of s) store arrival
  pub asked_is : request_in r.asked ≡ taken (reply_in r.reply).number (choice (state_of s) arrival)
  pub as_given : ((reply_in r.reply).number ≡ 0 → ⊥) → r.state ≡ s
