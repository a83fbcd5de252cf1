-- What is decided of a slot, whatever the state and the store are, by the model's own slot.
use Rattle.std.specs.Prelude.{◌≡◌, Bool, true, false, not, List, [], ◌∷◌, ℕ, ◌≤◌, ltb, length, Result, IfOk}
use Rattle.model.specs.Basics.{when, first_refusal}
use Rattle.model.specs.Sizes.{Sizes, paper, store_bytes}
use Rattle.model.specs.State.{State, keeps}
use Rattle.model.specs.Slot.{Call, wrote, slots_to_refill, halves_taken, refuse, carried_out, slot}
use Rattle.layout.specs.Calls.{chosen_in, refill_in, call_in, number_in}
use Rattle.layout.specs.declared.Refusal.{Refusal}
use Rattle.layout.specs.Counts.{ByQueue, Tallies}
use Rattle.layout.specs.declared.Regs.{Regs}
use Rattle.layout.specs.Views.{Arrays, sizes_in, state_in}
use Rattle.slot_plan.specs.declared.Plan.{Plan}
use Rattle.slot_plan.specs.Says.{arrival_number_of, request_number_of}
use Rattle.slot_in_place.specs.Says.{Decided, Ready}

-- 3 and 2, in this order, by whether the rules are kept.
abbrev pub state_number : Bool → Sizes → ℕ → ℕ
state_number kept s bytes = first_refusal (when (not kept) 3 ∷ when (ltb bytes (store_bytes s)) 2 ∷ [])

-- 3 and 2 go by the state and the number of the store's bytes alone: 0, or the number that every slot answers.
pub record JudgeStateSays (x : State) (bytes r : ℕ) : Type 0 where
  pub passed : r ≡ 0 → (keeps paper x ≡ true) × (store_bytes x.sizes ≤ bytes)
  pub refused : (r ≡ 0 → ⊥) → (store : List ℕ) (call : Call) → length store ≡ bytes
      → slot paper x store call ≡ refuse r x store

-- The counts by queue that are lent beside a state, and are the library's own: where the state keeps the rules, they
-- are those of the state that is left, whatever they were; where it breaks one, they are as they came.
pub record CountsSay (x x' : State) (before after : ByQueue) : Type 0 where
  pub counted : keeps paper x ≡ true → Tallies x' after
  pub as_given : keeps paper x ≡ false → after ≡ before

-- The same of registers, arrays and a store.
abbrev pub judged_number : Regs → Arrays → List ℕ → ℕ
judged_number regs m store = state_number (keeps paper (state_in regs m)) (sizes_in regs) (length store)

-- What a call leaves that judges 3 and 2: with either of them the registers and the arrays as they came, places past a
-- fill included; with neither a state that is ready for the next slot in place.
pub record LeaveSays (regs : Regs) (m : Arrays) (counts : ByQueue) (store : List ℕ) (regs' : Regs) (m' : Arrays)
    (counts' : ByQueue) (store' : List ℕ) : Type 0 where
  pub as_given : (judged_number regs m store ≡ 0 → ⊥) → (regs' ≡ regs) × (m' ≡ m)
  pub ready : judged_number regs m store ≡ 0 → Ready regs' m' counts' store'
  pub counts_are : CountsSay (state_in regs m) (state_in regs' m') counts counts'

-- A plan of a slot that is not refused, whatever bytes the store holds.
pub record IsPlanChecked (x : State) (bytes : ℕ) (call : Call) (p : Plan) : Type 0 where
  pub decided : (store : List ℕ) → length store ≡ bytes
      → Decided x store (call_in p.call) p.owes p.swaps (chosen_in p.written) (refill_in p.refill).queue
  pub slots_left_is : (refill_in p.refill).slots_left ≡ slots_to_refill (wrote x (call_in p.call))
  pub left_is : call_in p.call ≡ halves_taken x call
  pub carries : (store : List ℕ) → length store ≡ bytes
      → carried_out (arrival_number_of p) (request_number_of p) x store (call_in p.call)
      ≡ slot paper x store call

-- What a slot will do, of any state and any store of so many bytes: the number that it answers, and where that is 0 all
-- that is decided of it, and that the slot is what is carried out of the halves that it takes. No byte of the store has
-- a say in it.
pub record PlanCheckedSays (x : State) (bytes : ℕ) (call : Call) (r : Result Plan Refusal) : Type 0 where
  pub number_is : (store : List ℕ) → length store ≡ bytes → number_in r ≡ (slot paper x store call).reply.number
  pub plan_is : IfOk r (λ p. IsPlanChecked x bytes call p)
