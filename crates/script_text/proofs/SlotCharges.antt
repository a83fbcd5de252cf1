-- The refusals that slots tell, the requests and the arrivals that they take are together at most the halves of the
-- calls (`run-pays`). An arrival pays for its 5 or for being taken, a request for its 7 or for being taken. A slot that
-- is stopped tells one refusal and takes nothing, and it has a half to pay with: an idle one could only be stopped with
-- 2, 3, 8 or 10. And what a slot answers and takes lies in its range (`run-says`).
use mathlib.Core.Path.{◌≡◌, refl, ap, sym, ◌∙◌, subst}
use mathlib.Core.Bool.{Bool, true, false, not}
use mathlib.Core.List.{List, [], ◌∷◌}
use mathlib.Core.Option.{Option, some, none}
use Prim.Native.Nat.{ℕ, zero, suc, ◌+◌, ◌≤◌, ◌<◌}
use native.Mathlib.Omega.{arith}
use lib.Dec.{ltb}
use lib.ListN.{length}
use Rattle.model.specs.Basics.{choose, All, when}
use Rattle.model.specs.Sizes.{Sizes, Design, store_bytes}
use Rattle.model.specs.State.{Byte, State, keeps}
use Rattle.model.specs.Slot.{Call, oldest_cell, wrote, queue_to_read, slots_to_refill, arrival_unknown, arrival_full}
use Rattle.model.specs.Slot.{request_unknown, nothing_to_take, leaves_uncovered, tail_full, head_full, arrival_taken}
use Rattle.model.specs.Slot.{request_drops, halves_taken, refusals, refusal, Reply, Answer, slot}
use Rattle.model.specs.Lists.{Step, step_of, run, accepted}
use Rattle.model.proofs.basics.AllOf.{◌also◌}
use Rattle.model.proofs.basics.Tests.{by_option, by_test, true_not_false}
use Rattle.model.proofs.basics.FirstRefusal.{first_has, when-le}
use Rattle.model.proofs.basics.Present.{one, present}
use Rattle.model.proofs.meaning.Place.{slots_to_refill_within}
use Rattle.model.proofs.one_slot.Accepted.{Accepted, RefusedOrAccepted, was_refused, was_accepted, outcome}
use Rattle.model.proofs.one_slot.Kept.{read_taken, rules-written}
use Rattle.model.proofs.one_slot.Stored.{arrivals}
use Rattle.script_text.proofs.Append.{refused-test}
use Rattle.script_text.proofs.Delivered.{IfAny, requested, TakesSmall}

-- The halves of a call, its arrival and its request; of a list of calls.
abbrev pub halves : Call → ℕ
halves call = one call.arrival + one call.request

abbrev pub halves_of : List Call → ℕ
halves_of [] = 0
halves_of (call ∷ calls) = halves call + halves_of calls

-- The refusals that a slot tells: each number counts 1, and 0 none.
abbrev pub told : ℕ → ℕ
told zero = 0
told (suc n) = 1

abbrev pub told_by : Reply → ℕ
told_by r = told r.number + (told r.arrival_number + told r.request_number)

abbrev pub told_of : List Step → ℕ
told_of [] = 0
told_of (step ∷ steps) = told_by step.reply + told_of steps

-- None of the refusals that an idle slot could have.
pub record NoneOfIdle (n : ℕ) : Type 0 where
  pub not-2 : n ≡ 2 → ⊥
  pub not-3 : n ≡ 3 → ⊥
  pub not-8 : n ≡ 8 → ⊥
  pub not_10 : n ≡ 10 → ⊥

-- What is known of a number that a slot may answer.
record NumberSays (call : Call) (n : ℕ) : Type 0 where
  low : n ≤ 10
  not_idle : call.arrival ≡ none → call.request ≡ none → NoneOfIdle n → n ≡ 0

-- It holds of each number of `refusals`, and so of the first.
module _ (design : Design) (x : State) (store : List ℕ) (call : Call) where
  nothing-judged : NumberSays call 0
  nothing-judged = record { low = omega arith; not_idle = λ a r other. refl }

  of_idle : (t : Bool) (n : ℕ) → n ≤ 10 → (NoneOfIdle n → ⊥) → NumberSays call (when t n)
  of_idle true n l f = record { low = l; not_idle = λ a r other. absurd (f other) }
  of_idle false n l f = nothing-judged

  of_half : (t : Bool) (n : ℕ) → n ≤ 10 → (call.arrival ≡ none → call.request ≡ none → t ≡ false)
      → NumberSays call (when t n)
  of_half true n l f = record { low = l; not_idle = λ a r other. absurd (true_not_false true refl (f a r)) }
  of_half false n l f = nothing-judged

  -- What is left of the call: no arrival where none came.
  abbrev left : Call
  left = halves_taken x call

  none_left : call.arrival ≡ none → left.arrival ≡ none
  none_left a = ap (λ (o : Option Byte). choose (arrival_full x o call.request) none o) a

  number_says : NumberSays call (refusal design x store call)
  number_says =
      first_has (NumberSays call) (refusals design x store call) nothing-judged (
      of_idle (not (keeps design x)) 3 (omega arith) (λ other. other.not-3 refl)
      also of_idle (ltb (length store) (store_bytes x.sizes)) 2 (omega arith) (λ other. other.not-2 refl)
      also of_half (arrival_unknown x call.arrival) 4 (omega arith) (λ a r. ap (arrival_unknown x) a)
      also of_half (request_unknown x call.request) 6 (omega arith) (λ a r. ap (request_unknown x) r)
      also of_idle (leaves_uncovered (oldest_cell x.cells) x) 8 (omega arith) (λ other. other.not-8 refl)
      also of_half (tail_full x left.arrival left.request) 9 (omega arith)
      (λ a r. ap (λ (o : Option Byte). tail_full x o left.request) (none_left a))
      also of_idle (head_full (wrote x left) (queue_to_read (wrote x left))) 10 (omega arith)
      (λ other. other.not_10 refl)
      also tt)

  stopped_has_half : (n : ℕ) → refusal design x store call ≡ suc n → NoneOfIdle (suc n) → 1 ≤ halves call
  stopped_has_half n e other =
      by_option call.arrival
      (λ no_arrival. by_option call.request
      (λ no_request. absurd (omega (
        arith,
        e,
        number_says.not_idle no_arrival no_request (subst NoneOfIdle (sym e) other),
      )))
      (λ q asks. rw (no_arrival, asks) (omega arith)))
      (λ y arrives. rw arrives (omega arith))

-- Numbers of two digits at most.
pub record NumbersLow (r : Reply) : Type 0 where
  pub number_low : r.number ≤ 10
  pub arrival_low : r.arrival_number ≤ 10
  pub request_low : r.request_number ≤ 10

-- What a slot tells of its read: a queue below a bound, and no more slots left than there are cells.
pub record ReadSmall (queues cells : ℕ) (r : Reply) : Type 0 where
  pub queue_below : IfAny (λ (q : ℕ). q < queues) r.read
  pub left_within : r.slots_left ≤ cells

-- What a slot answers and takes, in its range.
pub record InRange (queues values cells : ℕ) (step : Step) : Type 0 where
  pub numbers : NumbersLow step.reply
  pub takes : TakesSmall queues values step
  pub reads : ReadSmall queues cells step.reply

-- What holds of each slot, whether it is refused or accepted: all in its range, the same sizes.
record SlotCharged (design : Design) (values : ℕ) (x : State) (step : Step) : Type 0 where
  in_range : InRange x.sizes.Q values (design.cell_count x.sizes) step
  sizes-stay : step.state.sizes ≡ x.sizes

if_any : {A : Type 0} (P : A → Type 0) (o : Option A) → ((y : A) → o ≡ some y → P y) → IfAny P o
if_any P none h = tt
if_any P (some y) h = h y refl

abbrev pub ArrivalBelow : ℕ → Call → Type 0
ArrivalBelow values call = IfAny (λ (y : Byte). y.value < values) call.arrival

left_below : (values : ℕ) (x : State) (call : Call) → ArrivalBelow values call
    → ArrivalBelow values (halves_taken x call)
left_below values x call h = by_test (arrival_full x call.arrival call.request)
    (λ t. rw t tt)
    (λ t. rw t h)

-- The read of an accepted slot, as its rules have it when the write is done: its queue owes, and its cell is one of
-- those there.
read_says : (design : Design) (x : State) (store : List ℕ) (call : Call) → 1 ≤ design.cell_count x.sizes
    → Accepted design x store call
    → IfAny (λ (q : ℕ). q < x.sizes.Q) (queue_to_read (wrote x call))
    × (slots_to_refill (wrote x call) ≤ design.cell_count x.sizes)
read_says design x store call cells_ok f =
    let rules = rules-written design x store call cells_ok f.judged in (
      if_any (λ (q : ℕ). q < x.sizes.Q) (queue_to_read (wrote x call))
          (λ q e. (read_taken (design.cell_count x.sizes) (wrote x call) rules q e).0),
      omega (arith, slots_to_refill_within (wrote x call), rules.cells_long),
    )

slot-says : (design : Design) (values : ℕ) (x : State) (store : List ℕ) (call : Call) (a : Answer)
    → 1 ≤ design.cell_count x.sizes → RefusedOrAccepted design x store call a → ArrivalBelow values call
    → SlotCharged design values x (step_of x store call a)
slot-says design values x store call a cells_ok (was_refused n e) h = record {
  in_range = record {
    numbers = record {
      number_low = omega (arith, e, (number_says design x store call).low);
      arrival_low = omega arith;
      request_low = omega arith;
    };
    takes = record { queue_below = tt; value_below = tt };
    reads = record { queue_below = tt; left_within = omega arith };
  };
  sizes-stay = refl;
}
slot-says design values x store call a cells_ok (was_accepted f) h =
    let read = read_says design x store (halves_taken x call) cells_ok f in record {
      in_range = record {
        numbers = record {
          number_low = omega arith;
          arrival_low = when-le 10 (arrival_full x call.arrival call.request) 5 (omega arith);
          request_low = when-le 10 (request_drops x call) 7 (omega arith);
        };
        takes = record {
          queue_below = if_any (λ (q : ℕ). q < x.sizes.Q) (halves_taken x call).request f.judged.request_ok;
          value_below = left_below values x call h;
        };
        reads = record { queue_below = read.0; left_within = read.1 };
      };
      sizes-stay = refl;
    }

pub run-says : (design : Design) (values : ℕ) (s : Sizes) (x : State) (store : List ℕ) (calls : List Call)
    → 1 ≤ design.cell_count s → x.sizes ≡ s → All (ArrivalBelow values) calls
    → All (InRange s.Q values (design.cell_count s)) (run design x store calls)
run-says design values s x store [] cells_ok e h = tt
run-says design values s x store (call ∷ calls) cells_ok e h =
    let here : 1 ≤ design.cell_count x.sizes = subst (λ (z : Sizes). 1 ≤ design.cell_count z) (sym e) cells_ok in
    let a : Answer = slot design x store call in
    let says = slot-says design values x store call a here (outcome design x store call) h.0 in (
      subst (λ (z : Sizes). InRange z.Q values (design.cell_count z) (step_of x store call a)) e says.in_range,
      run-says design values s a.state a.store calls cells_ok (says.sizes-stay ∙ e) h.1,
    )

-- A half pays for its own line or for being taken: it is dropped with a number where a test holds, and else taken.
half_pays : {A : Type 0} (dropped : Option A → Bool) (n : ℕ) → dropped none ≡ false → (half : Option A)
    → told (when (dropped half) n) + one (choose (dropped half) none half) ≤ one half
half_pays dropped n e none = rw e (omega arith)
half_pays dropped n e (some y) = by_drop (dropped (some y))
  where
    told-once : (m : ℕ) → told m ≤ 1
    told-once zero = omega arith
    told-once (suc m) = omega arith

    by_drop : (t : Bool) → told (when t n) + one (choose t none (some y)) ≤ 1
    by_drop true = omega (arith, told-once n)
    by_drop false = omega arith

-- What the halves of calls pay for: the refusals told, the requests and the arrivals taken.
abbrev pub charges_of : List Step → ℕ
charges_of steps = told_of steps + (requested (accepted steps) + present (arrivals (accepted steps)))

slot-pays : (design : Design) (x : State) (store : List ℕ) (call : Call) (a : Answer)
    → RefusedOrAccepted design x store call a
    → NoneOfIdle a.reply.number → (steps : List Step)
    → charges_of (step_of x store call a ∷ steps) ≤ halves call + charges_of steps
slot-pays design x store call a (was_refused n e) other steps =
    rw (refused-test n) (omega (arith, stopped_has_half design x store call n e other))
slot-pays design x store call a (was_accepted f) other steps =
    omega (
      arith,
      half_pays (λ (arrival : Option Byte). arrival_full x arrival call.request) 5 refl call.arrival,
      half_pays (nothing_to_take x (arrival_taken x call)) 7 refl call.request,
    )

pub run-pays : (design : Design) (x : State) (store : List ℕ) (calls : List Call)
    → All (λ (step : Step). NoneOfIdle step.reply.number) (run design x store calls)
    → charges_of (run design x store calls) ≤ halves_of calls
run-pays design x store [] h = omega arith
run-pays design x store (call ∷ calls) h =
    omega (
      arith,
      slot-pays design x store call (slot design x store call) (outcome design x store call) h.0
          (run design (slot design x store call).state (slot design x store call).store calls),
      run-pays design (slot design x store call).state (slot design x store call).store calls h.1,
    )
