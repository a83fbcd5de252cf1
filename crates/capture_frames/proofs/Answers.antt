-- An arrival at one of the Q queues, with no request, is never stopped with 4 or 6, and no request is dropped: 4 is for
-- other queues, and 6 and 7 are for requests. Its own half may be dropped, with 5. The sizes stay along a list, so that
-- it holds of all its slots (`run-answers`). So 4 never comes (`none_4`), and where demand 3 rules out 2, 3, 8, 9 and
-- 10, no slot is stopped, and nothing is left but the arrival's 5 (`none_but_5`).
use mathlib.Core.Path.{◌≡◌, refl, sym, subst}
use mathlib.Core.Bool.{Bool, true, false, not}
use mathlib.Core.List.{List, [], ◌∷◌}
use Prim.Native.Nat.{ℕ, zero, suc, ◌≤◌, ◌<◌}
use native.Mathlib.Omega.{arith}
use lib.Dec.{ltb, leb}
use lib.ListN.{length}
use borrow.Author.Tests.{leb-true}
use Rattle.model.specs.Basics.{All, when}
use Rattle.model.specs.Sizes.{Design, store_bytes}
use Rattle.model.specs.State.{State, keeps}
use Rattle.model.specs.Slot.{Call, oldest_cell, wrote, queue_to_read, arrival_full, leaves_uncovered, tail_full, head_full}
use Rattle.model.specs.Slot.{halves_taken, refusals, refusal, Reply, answer, slot}
use Rattle.model.specs.Calls.{arrival}
use Rattle.model.specs.Lists.{Step, run}
use Rattle.model.specs.Demand.{NoMiss}
use Rattle.model.proofs.basics.AllOf.{◌also◌}
use Rattle.model.proofs.basics.FirstRefusal.{first_has, when-has}
use Rattle.capture_frames.specs.Sentences.{DropsOnly5}
use Rattle.capture_frames.proofs.Slots.{ArrivesBelow, arrives}

-- The numbers with which such a slot may be stopped.
data StopsArrival : ℕ → Type 0 where
  is_0 : StopsArrival 0
  is_2 : StopsArrival 2
  is_3 : StopsArrival 3
  is_8 : StopsArrival 8
  is_9 : StopsArrival 9
  is_10 : StopsArrival 10

-- What it may tell.
pub record ArrivalSays (r : Reply) : Type 0 where
  stopped_with : StopsArrival r.number
  dropped_with : (r.arrival_number ≡ 0 → ⊥) → r.arrival_number ≡ 5
  nothing_asked : r.request_number ≡ 0

-- One slot: its number is the first refusal's, and it leaves the sizes as they are.
module _ (design : Design) (x : State) (store : List ℕ) where
  number_is : (n : ℕ) (call : Call) → (answer n x store call).reply.number ≡ n
  number_is zero call = refl
  number_is (suc n) call = refl

  sizes-stay : (n : ℕ) (call : Call) → (answer n x store call).state.sizes ≡ x.sizes
  sizes-stay zero call = refl
  sizes-stay (suc n) call = refl

  refusal-of_arrival : (q v : ℕ) → q < x.sizes.Q → StopsArrival (refusal design x store (arrival q v))
  refusal-of_arrival q v l =
      first_has StopsArrival (refusals design x store (arrival q v)) is_0 (
      may (not (keeps design x)) 3 (λ t. is_3)
      also may (ltb (length store) (store_bytes x.sizes)) 2 (λ t. is_2)
      also may (leb x.sizes.Q q) 4 (λ t. absurd (omega (arith, l, leb-true x.sizes.Q q t)))
      also is_0
      also may (leaves_uncovered (oldest_cell x.cells) x) 8 (λ t. is_8)
      also may (tail_full x left.arrival left.request) 9 (λ t. is_9)
      also may (head_full (wrote x left) (queue_to_read (wrote x left))) 10 (λ t. is_10)
      also tt)
    where
      left : Call
      left = halves_taken x (arrival q v)

      may : (t : Bool) (n : ℕ) → (t ≡ true → StopsArrival n) → StopsArrival (when t n)
      may t n = when-has StopsArrival t n is_0

  -- Its halves: 5 where the arrival is dropped, and there is no request to drop.
  five_or_none : (t : Bool) → (when t 5 ≡ 0 → ⊥) → when t 5 ≡ 5
  five_or_none true dropped = refl
  five_or_none false dropped = absurd (dropped refl)

  arrival-told : (n : ℕ) (call : Call) → ((answer n x store call).reply.arrival_number ≡ 0 → ⊥)
      → (answer n x store call).reply.arrival_number ≡ 5
  arrival-told zero call dropped = five_or_none (arrival_full x call.arrival call.request) dropped
  arrival-told (suc n) call dropped = absurd (dropped refl)

  request-told : (n q v : ℕ) → (answer n x store (arrival q v)).reply.request_number ≡ 0
  request-told zero q v = refl
  request-told (suc n) q v = refl

  slot-answers : (queues : ℕ) (call : Call) → queues ≤ x.sizes.Q → ArrivesBelow queues call
      → ArrivalSays (slot design x store call).reply
  slot-answers queues call most (arrives q v l) = record {
    stopped_with =
        subst StopsArrival (sym (number_is (refusal design x store (arrival q v)) (arrival q v)))
        (refusal-of_arrival q v (omega (arith, l, most)));
    dropped_with = arrival-told (refusal design x store (arrival q v)) (arrival q v);
    nothing_asked = request-told (refusal design x store (arrival q v)) q v;
  }

-- All along a list.
pub run-answers : (design : Design) (queues : ℕ) (x : State) (store : List ℕ) (calls : List Call)
    → queues ≤ x.sizes.Q → All (ArrivesBelow queues) calls
    → All (λ (step : Step). ArrivalSays step.reply) (run design x store calls)
run-answers design queues x store [] most h = tt
run-answers design queues x store (call ∷ calls) most h = (
  slot-answers design x store queues call most h.0,
  run-answers design queues (slot design x store call).state (slot design x store call).store calls
      (rw (sizes-stay design x store (refusal design x store call) call) most) h.1,
)

-- So 4 never comes.
not-4 : {n : ℕ} → StopsArrival n → n ≡ 4 → ⊥
not-4 is_0 e = omega (arith, e)
not-4 is_2 e = omega (arith, e)
not-4 is_3 e = omega (arith, e)
not-4 is_8 e = omega (arith, e)
not-4 is_9 e = omega (arith, e)
not-4 is_10 e = omega (arith, e)

pub none_4 : (steps : List Step) → All (λ (step : Step). ArrivalSays step.reply) steps
    → All (λ (step : Step). step.reply.number ≡ 4 → ⊥) steps
none_4 [] h = tt
none_4 (step ∷ steps) h = (not-4 h.0.stopped_with, none_4 steps h.1)

-- And where demand 3 rules out 2, 3, 8, 9 and 10, no slot is stopped.
none_stops : {n : ℕ} → StopsArrival n → (n ≡ 2 → ⊥) → (n ≡ 3 → ⊥) → (n ≡ 8 → ⊥) → (n ≡ 9 → ⊥) → (n ≡ 10 → ⊥)
    → n ≡ 0
none_stops is_0 two three eight nine ten = refl
none_stops is_2 two three eight nine ten = absurd (two refl)
none_stops is_3 two three eight nine ten = absurd (three refl)
none_stops is_8 two three eight nine ten = absurd (eight refl)
none_stops is_9 two three eight nine ten = absurd (nine refl)
none_stops is_10 two three eight nine ten = absurd (ten refl)

pub none_but_5 : (steps : List Step) → All (λ (step : Step). ArrivalSays step.reply) steps
    → All (λ (step : Step). step.reply.number ≡ 2 → ⊥) steps
    → All (λ (step : Step). step.reply.number ≡ 3 → ⊥) steps
    → All NoMiss steps → All DropsOnly5 steps
none_but_5 [] h two three miss = tt
none_but_5 (step ∷ steps) h two three miss = (
  record {
    runs =
        none_stops h.0.stopped_with two.0 three.0 miss.0.not-8 miss.0.not_9 miss.0.not_10;
    arrival_5 = h.0.dropped_with;
    no_request = h.0.nothing_asked;
  },
  none_but_5 steps h.1 two.1 three.1 miss.1,
)
