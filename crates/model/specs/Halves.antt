-- Document 02, 2.5, "The line does not wait": what its sentences say of a slot. What is left of a call is `halves_taken`
-- (Slot).
use Rattle.std.specs.Prelude.{◌≡◌, true, false, List, ℕ, ◌≤◌}
use Rattle.std.proofs.Math.Option.{none}
use Rattle.model.specs.Basics.{All, when}
use Rattle.model.specs.Sizes.{Sizes, Limits, Design, accepts, full}
use Rattle.model.specs.State.{State}
use Rattle.model.specs.Slot.{Call, swaps, arrival_unknown, arrival_full, request_unknown, nothing_to_take}
use Rattle.model.specs.Slot.{arrival_taken, request_drops}
use Rattle.model.specs.Slot.{halves_taken, Answer, refuse, slot}
use Rattle.model.specs.Calls.{idle}
use Rattle.model.specs.Lists.{Step, step_of, list_of}

-- "The slot runs without that half": an answer is that of a slot which has no half to drop, but for the numbers of its
-- halves.
pub record RunsAs (a b : Answer) : Type 0 where
  pub accepted : b.reply.number ≡ 0
  pub nothing_dropped : (b.reply.arrival_number ≡ 0) × (b.reply.request_number ≡ 0)
  pub same_delivery : a.reply.delivered ≡ b.reply.delivered
  pub same_moves : (a.reply.written ≡ b.reply.written) × (a.reply.read ≡ b.reply.read)
  pub same_slots_left : a.reply.slots_left ≡ b.reply.slots_left
  pub same-state : a.state ≡ b.state
  pub same_store : a.store ≡ b.store

pub record HalvesSay (design : Design) : Type 0 where
  -- "5 and 7 refuse their half of the slot only": neither stops a slot.
  pub never_stops_with_5_or_7 :
      (x : State) (store : List ℕ) (call : Call)
      → ((slot design x store call).reply.number ≡ 5 → ⊥) × ((slot design x store call).reply.number ≡ 7 → ⊥)
  -- "Each half has its own answer, so both numbers may come together": each exactly where its half drops. "7 is judged
  -- without a dropped arrival."
  pub five_exactly :
      (x : State) (store : List ℕ) (call : Call) → (slot design x store call).reply.number ≡ 0
      → (slot design x store call).reply.arrival_number ≡ when (arrival_full x call.arrival call.request) 5
  pub seven_exactly :
      (x : State) (store : List ℕ) (call : Call) → (slot design x store call).reply.number ≡ 0
      → (slot design x store call).reply.request_number ≡ when (nothing_to_take x (arrival_taken x call) call.request) 7
  -- "The slot runs without that half": as the slot of what is left of its call.
  pub runs_without_it :
      (x : State) (store : List ℕ) (call : Call) → (slot design x store call).reply.number ≡ 0
      → RunsAs (slot design x store call) (slot design x store (halves_taken x call))
  -- What is left of a call: a half that drops is gone, and any other is there.
  pub arrival_gone :
      (x : State) (call : Call) → arrival_full x call.arrival call.request ≡ true
      → (halves_taken x call).arrival ≡ none
  pub arrival-there :
      (x : State) (call : Call) → arrival_full x call.arrival call.request ≡ false
      → (halves_taken x call).arrival ≡ call.arrival
  pub request_gone :
      (x : State) (call : Call) → request_drops x call ≡ true → (halves_taken x call).request ≡ none
  pub request-there :
      (x : State) (call : Call) → request_drops x call ≡ false → (halves_taken x call).request ≡ call.request
  -- "A dropped half is absent for every later test": once 4 and 6 have let the call pass, what is left of it is stopped
  -- by the same number, or runs as well. And so 9 never comes once the arrival is dropped.
  pub stops_without_it :
      (x : State) (store : List ℕ) (call : Call) → arrival_unknown x call.arrival ≡ false
      → request_unknown x call.request ≡ false
      → (slot design x store call).reply.number ≡ (slot design x store (halves_taken x call)).reply.number
  pub never_9_with_5 :
      (x : State) (store : List ℕ) (call : Call) → arrival_full x call.arrival call.request ≡ true
      → (slot design x store call).reply.number ≡ 9 → ⊥
  -- "Every other refusal still stops the slot and is then its only answer": no number of a half comes with it, and
  -- nothing has changed.
  pub only-answer :
      (x : State) (store : List ℕ) (call : Call) → ((slot design x store call).reply.number ≡ 0 → ⊥)
      → ((slot design x store call).reply.arrival_number ≡ 0)
      × ((slot design x store call).reply.request_number ≡ 0)
      × (slot design x store call ≡ refuse (slot design x store call).reply.number x store)
  -- A slot of 2.1 has no dropped half, and neither has an idle one; and what is left of a call swaps where the call
  -- does.
  pub swap_drops_nothing :
      (x : State) (call : Call) → swaps x call.arrival call.request ≡ true → halves_taken x call ≡ call
  pub swaps_as_the_call :
      (x : State) (call : Call)
      → swaps x (halves_taken x call).arrival (halves_taken x call).request ≡ swaps x call.arrival call.request
  pub idle_drops_nothing : (x : State) → halves_taken x idle ≡ idle
  -- "The fixed delay .. still concerns only requests and arrivals that were taken": a list's step has what was left,
  -- and nothing where the slot was stopped.
  pub stopped_takes_nothing :
      (x : State) (store : List ℕ) (call : Call) → ((slot design x store call).reply.number ≡ 0 → ⊥)
      → ((step_of x store call (slot design x store call)).arrival ≡ none)
      × ((step_of x store call (slot design x store call)).request ≡ none)
  pub step_takes_what_is_left :
      (x : State) (store : List ℕ) (call : Call) → (slot design x store call).reply.number ≡ 0
      → ((step_of x store call (slot design x store call)).arrival ≡ (halves_taken x call).arrival)
      × ((step_of x store call (slot design x store call)).request ≡ (halves_taken x call).request)

-- Over lists from a fresh state, whatever the store: no slot is refused but with 6 or lower.
abbrev pub StopsLow : Limits → Type 0
StopsLow limits =
    (s : Sizes) (store : List ℕ) (calls : List Call) → accepts limits s ≡ true
    → All (λ (step : Step). step.reply.number ≤ 6) (list_of (full limits) s store calls)
