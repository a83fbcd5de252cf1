-- Slots left at a read fit their bits of a word, in the slot of any state: one that reads has accepted sizes, and so at
-- most 2,017 cells. `slots_left_fit` says it.
use mathlib.Core.List.{List}
use Prim.Native.Nat.{ℕ, ◌<◌}
use native.Mathlib.Omega.{arith}
use Rattle.model.specs.Sizes.{paper, paper_limits}
use Rattle.model.specs.State.{State}
use Rattle.model.specs.Slot.{Call, Answer, wrote, halves_taken, slot}
use Rattle.model.proofs.basics.Limits.{within_limits}
use Rattle.model.proofs.meaning.Place.{slots_to_refill_within}
use Rattle.model.proofs.one_slot.Accepted.{RefusedOrAccepted, was_refused, was_accepted, outcome}
use Rattle.model.proofs.one_slot.Kept.{rules-written}
use Rattle.run_words.specs.Words.{answer_slots}

pub slots_left_fit : (x : State) (store : List ℕ) (call : Call)
    → (slot paper x store call).reply.slots_left < answer_slots
slots_left_fit x store call = go (slot paper x store call) (outcome paper x store call)
  where
    left : Call
    left = halves_taken x call

    go : (a : Answer) → RefusedOrAccepted paper x store call a → a.reply.slots_left < answer_slots
    go a (was_refused n e) = omega arith
    go a (was_accepted f) =
        omega (
          arith,
          slots_to_refill_within (wrote x left),
          (rules-written paper x store left (omega arith) f.judged).cells_long,
          (within_limits paper_limits x.sizes f.judged.kept.sizes-ok).span_high,
        )
