-- What one slot on lent arrays promises, by the model's own slot.
use Rattle.std.specs.Prelude.{◌≡◌, Bool, true, List, ℕ, ◌≤◌, length}
use Rattle.std.proofs.Math.Option.{Option, some}
use Rattle.model.specs.Sizes.{paper, store_bytes}
use Rattle.model.specs.State.{State, keeps}
use Rattle.model.specs.Slot.{Call, delivery, is_owed, swaps, joined, asked, wrote, wrote_store, queue_to_write}
use Rattle.model.specs.Slot.{queue_to_read, halves_taken, refusal, Answer, carried_out, slot}
use Rattle.layout.specs.Calls.{delivery_in, reply_in}
use Rattle.layout.specs.declared.Regs.{Regs}
use Rattle.layout.specs.Views.{Arrays, Long, state_in, sizes_in}
use Rattle.layout.specs.Counts.{ByQueue, Tallies}
use Rattle.slot_in_place.specs.declared.Carried.{Carried}
use Rattle.slot_in_place.specs.declared.Advanced.{Advanced}

-- What is decided before anything moves, of a call of which no half drops: the slot is accepted, whether its request
-- takes an Owed cell, whether it takes its request before its arrival, the queues that it writes and reads.
pub record Decided (x : State) (store : List ℕ) (call : Call) (is_owed' swaps' : Bool) (written readQueue : Option ℕ)
    : Type 0 where
  pub all_taken : halves_taken x call ≡ call
  pub accepted : refusal paper x store call ≡ 0
  pub owed_is : (q : ℕ) → call.request ≡ some q → is_owed' ≡ is_owed (joined x call) q
  pub swaps-is : swaps' ≡ swaps x call.arrival call.request
  pub written_is : written ≡ queue_to_write (asked x call)
  pub read_is : readQueue ≡ queue_to_read (wrote x call)

-- The five steps, carried out, of a call of which no half drops.
pub record CarrySays (x : State) (store : List ℕ) (call : Call) (r : Carried) (m : Arrays) (store' : List ℕ)
    : Type 0 where
  pub state_is : state_in r.regs m ≡ (carried_out 0 0 x store call).state
  pub delivery_is : delivery_in r.delivery ≡ delivery x
  pub store_is : store' ≡ wrote_store x store call
  pub long : Long m

-- A state in arrays that is ready for a slot: it keeps the rules, the store is long enough, and the counts by queue
-- are its own.
pub record Ready (regs : Regs) (m : Arrays) (counts : ByQueue) (store : List ℕ) : Type 0 where
  pub long : Long m
  pub kept : keeps paper (state_in regs m) ≡ true
  pub tallies : Tallies (state_in regs m) counts
  pub store_long : store_bytes (sizes_in regs) ≤ length store

-- The answer of a slot in arrays.
abbrev pub answer_in : Advanced → Arrays → List ℕ → Answer
answer_in r m store = record { reply = reply_in r.reply; state = state_in r.regs m; store = store }

-- One slot, exactly as the model has it; what it leaves is ready for the next.
pub record AdvanceSays (x : State) (store : List ℕ) (call : Call) (r : Advanced) (m : Arrays)
    (counts : ByQueue) (store' : List ℕ) : Type 0 where
  pub answer-is : answer_in r m store' ≡ slot paper x store call
  pub ready : Ready r.regs m counts store'

-- On a refusal the registers and the arrays are as they came, places past a fill included.
abbrev pub AsGiven : Regs → Arrays → Advanced → Arrays → Type 0
AsGiven regs m r m' = ((reply_in r.reply).number ≡ 0 → ⊥) → (r.regs ≡ regs) × (m' ≡ m)
