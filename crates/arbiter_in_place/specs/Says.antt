-- What one slot on lent arrays promises in which the arbiter chooses, by the model's own.
use Rattle.std.specs.Prelude.{◌≡◌, List, ℕ}
use Rattle.std.proofs.Math.Option.{Option}
use Rattle.model.specs.Sizes.{paper}
use Rattle.model.specs.State.{Byte}
use Rattle.model.specs.Lists.{taken}
use Rattle.model.specs.Arbiter.{choice, last_after, arbiter_slot}
use Rattle.layout.specs.Calls.{request_in, reply_in}
use Rattle.layout.specs.declared.Regs.{Regs}
use Rattle.layout.specs.Views.{Arrays, state_in}
use Rattle.slot_in_place.specs.declared.Advanced.{Advanced}
use Rattle.slot_in_place.specs.Says.{answer_in}
use Rattle.arbiter_in_place.specs.declared.Arbitrated.{Arbitrated}

-- The registers with the queue that was asked, if one was, as the last one asked.
abbrev pub noted : Option ℕ → Regs → Regs
noted asked regs = record {
  queues = regs.queues;
  block = regs.block;
  depth = regs.depth;
  phase = regs.phase;
  tail_fill = regs.tail_fill;
  head_fill = regs.head_fill;
  tail_mark = regs.tail_mark;
  head_mark = regs.head_mark;
  last_asked = last_after 0 asked regs.last_asked;
}

-- What it hands back, as the slot in place does.
abbrev pub advanced_by : Regs → Arbitrated → Advanced
advanced_by regs r = record { regs = regs; reply = r.reply }

-- The whole answer, state and store are those of the model's arbiter; the queue asked is its choice, where the slot is
-- accepted; on a refusal the registers and the arrays are as they came, places past a fill included.
pub record ArbiterAdvanceSays (regs : Regs) (m : Arrays) (store : List ℕ) (arrival : Option Byte) (r : Arbitrated)
    (regs' : Regs) (m' : Arrays) (store' : List ℕ) : Type 0 where
  pub answer-is : answer_in (advanced_by regs' r) m' store' ≡ arbiter_slot paper (state_in regs m) store arrival
  pub asked_is : request_in r.asked ≡ taken (reply_in r.reply).number (choice (state_in regs m) arrival)
  pub as_given : ((reply_in r.reply).number ≡ 0 → ⊥) → (regs' ≡ regs) × (m' ≡ m)
