-- The numbers of a slot's halves (request 2.5): 5 or 0 for its arrival, 7 or 0 for its request, and 0 for both where
-- the slot is stopped. So it is all along a list (`run-halves`).
use mathlib.Core.Bool.{Bool, true, false}
use mathlib.Core.List.{List, [], ◌∷◌}
use Prim.Native.Nat.{ℕ}
use Rattle.model.specs.Basics.{All, when}
use Rattle.model.specs.Sizes.{Design}
use Rattle.model.specs.State.{State}
use Rattle.model.specs.Slot.{Call, arrival_full, request_drops, Reply, Answer, slot}
use Rattle.model.specs.Lists.{Step, run}
use Rattle.model.proofs.one_slot.Accepted.{RefusedOrAccepted, was_refused, was_accepted, outcome}

-- 0 or this number.
pub data ZeroOr (n : ℕ) : ℕ → Type 0 where
  is_zero : ZeroOr n 0
  is_it : ZeroOr n n

pub record HalfNumbers (r : Reply) : Type 0 where
  pub arrival_5 : ZeroOr 5 r.arrival_number
  pub request_7 : ZeroOr 7 r.request_number

told-when : (t : Bool) (n : ℕ) → ZeroOr n (when t n)
told-when true n = is_it
told-when false n = is_zero

slot-halves : (design : Design) (x : State) (store : List ℕ) (call : Call) (a : Answer)
    → RefusedOrAccepted design x store call a → HalfNumbers a.reply
slot-halves design x store call a (was_refused n e) = record { arrival_5 = is_zero; request_7 = is_zero }
slot-halves design x store call a (was_accepted f) = record {
  arrival_5 = told-when (arrival_full x call.arrival call.request) 5;
  request_7 = told-when (request_drops x call) 7;
}

pub run-halves : (design : Design) (x : State) (store : List ℕ) (calls : List Call)
    → All (λ (step : Step). HalfNumbers step.reply) (run design x store calls)
run-halves design x store [] = tt
run-halves design x store (call ∷ calls) = (
  slot-halves design x store call (slot design x store call) (outcome design x store call),
  run-halves design (slot design x store call).state (slot design x store call).store calls,
)
