-- The sentences of request 2.5 hold of every slot: it is refused whole or accepted (`outcome`), an accepted one is what
-- is carried out of what is left of its call, and that has nothing to drop. `halves_say` says it.
use mathlib.Core.Path.{◌≡◌, refl, ap, sym, ◌∙◌}
use mathlib.Core.Bool.{Bool, true, false, not}
use mathlib.Core.List.{List, [], ◌∷◌}
use mathlib.Core.Option.{Option, none}
use Prim.Native.Nat.{ℕ, zero, suc, ◌≤◌}
use native.Mathlib.Omega.{arith}
use lib.Dec.{ltb}
use lib.ListN.{length}
use Rattle.model.specs.Basics.{choose, when, first_refusal}
use Rattle.model.specs.Sizes.{Design, store_bytes}
use Rattle.model.specs.State.{Byte, State, keeps}
use Rattle.model.specs.Slot.{Call, oldest_cell, wrote, queue_to_read, arrival_unknown, arrival_full, request_unknown}
use Rattle.model.specs.Slot.{nothing_to_take, leaves_uncovered, tail_full, head_full, request_drops, halves_taken}
use Rattle.model.specs.Slot.{refusals, refusal, Answer, accept, carried_out, refuse, answer, slot}
use Rattle.model.specs.Lists.{taken}
use Rattle.model.specs.Halves.{RunsAs, HalvesSay}
use Rattle.model.proofs.basics.AllOf.{◌also◌}
use Rattle.model.proofs.basics.FirstRefusal.{not_first, when-excluded}
use Rattle.model.proofs.meaning.Steps.{dropped_arrival_gone, dropped_request_gone}
use Rattle.model.proofs.one_slot.Halves.{arrival-stays, left-not_full, left-something, left-arrival_known}
use Rattle.model.proofs.one_slot.Halves.{left-request_known, left-swaps, left-once, swap_left}
use Rattle.model.proofs.one_slot.Accepted.{refusal-told, left-accepted}

module _ (design : Design) (x : State) (store : List ℕ) (call : Call) where
  abbrev left : Call
  left = halves_taken x call

  -- A number that no stop has is never answered.
  never_stops_with : (bad : ℕ) → (bad ≡ 2 → ⊥) → (bad ≡ 3 → ⊥) → (bad ≡ 4 → ⊥) → (bad ≡ 6 → ⊥) → 1 ≤ bad → bad ≤ 7
      → (slot design x store call).reply.number ≡ bad → ⊥
  never_stops_with bad not-2 not-3 not-4 not-6 pos low e =
      not_first bad (refusals design x store call) pos
      (other (not (keeps design x)) 3 not-3
      also other (ltb (length store) (store_bytes x.sizes)) 2 not-2
      also other (arrival_unknown x call.arrival) 4 not-4
      also other (request_unknown x call.request) 6 not-6
      also other (leaves_uncovered (oldest_cell x.cells) x) 8 (λ h. omega (arith, h))
      also other (tail_full x left.arrival left.request) 9 (λ h. omega (arith, h))
      also other (head_full (wrote x left) (queue_to_read (wrote x left))) 10 (λ h. omega (arith, h))
      also tt)
      (sym (refusal-told design x store call) ∙ e)
    where
      other : (t : Bool) (k : ℕ) → (bad ≡ k → ⊥) → when t k ≡ bad → ⊥
      other t k f = when-excluded bad t k pos (λ h. absurd (f (sym h)))

  -- A slot that answers 0 is what is carried out of what is left of its call.
  is_accepted : (slot design x store call).reply.number ≡ 0 → slot design x store call ≡ accept x store call
  is_accepted e = ap (λ (n : ℕ). answer n x store call) (sym (refusal-told design x store call) ∙ e)

  -- And so is the slot of what is left, of which nothing drops.
  runs_alone : (slot design x store call).reply.number ≡ 0
      → slot design x store left ≡ carried_out 0 0 x store left
  runs_alone e =
      ap (λ (n : ℕ). answer n x store left)
      (left-accepted design x store call (sym (refusal-told design x store call) ∙ e))
      ∙ ap (λ (t : Bool). carried_out (when t 5) (when (request_drops x left) 7) x store (halves_taken x left))
      (left-not_full x call)
      ∙ ap (λ (c : Call). carried_out 0 (when (request_drops x left) 7) x store c) (left-once x call)
      ∙ ap (λ (a : Option Byte). carried_out 0 (when (nothing_to_take x a left.request) 7) x store left)
      (arrival-stays x left (left-not_full x call))
      ∙ ap (λ (t : Bool). carried_out 0 (when t 7) x store left) (left-something x call)

  runs_without_it : (slot design x store call).reply.number ≡ 0
      → RunsAs (slot design x store call) (slot design x store left)
  runs_without_it e =
      let here = is_accepted e in
      let alone = runs_alone e in
      record {
        accepted = ap (λ (a : Answer). a.reply.number) alone;
        nothing_dropped = (
          ap (λ (a : Answer). a.reply.arrival_number) alone,
          ap (λ (a : Answer). a.reply.request_number) alone,
        );
        same_delivery =
            ap (λ (a : Answer). a.reply.delivered) here ∙ sym (ap (λ (a : Answer). a.reply.delivered) alone);
        same_moves = (
          ap (λ (a : Answer). a.reply.written) here ∙ sym (ap (λ (a : Answer). a.reply.written) alone),
          ap (λ (a : Answer). a.reply.read) here ∙ sym (ap (λ (a : Answer). a.reply.read) alone),
        );
        same_slots_left =
            ap (λ (a : Answer). a.reply.slots_left) here ∙ sym (ap (λ (a : Answer). a.reply.slots_left) alone);
        same-state = ap (λ (a : Answer). a.state) here ∙ sym (ap (λ (a : Answer). a.state) alone);
        same_store = ap (λ (a : Answer). a.store) here ∙ sym (ap (λ (a : Answer). a.store) alone);
      }

  only-answer : ((slot design x store call).reply.number ≡ 0 → ⊥)
      → ((slot design x store call).reply.arrival_number ≡ 0)
      × ((slot design x store call).reply.request_number ≡ 0)
      × (slot design x store call ≡ refuse (slot design x store call).reply.number x store)
  only-answer n = go (refusal design x store call) (λ z. n (refusal-told design x store call ∙ z))
    where
      go : (k : ℕ) → (k ≡ 0 → ⊥)
          → ((answer k x store call).reply.arrival_number ≡ 0)
          × ((answer k x store call).reply.request_number ≡ 0)
          × (answer k x store call ≡ refuse (answer k x store call).reply.number x store)
      go zero f = absurd (f refl)
      go (suc k) f = (refl, refl, refl)

  -- The refusals by those of the two queues, and by what is left of the call.
  abbrev judged_by : ℕ → ℕ → Call → List ℕ
  judged_by m n c =
      when (not (keeps design x)) 3 ∷
      when (ltb (length store) (store_bytes x.sizes)) 2 ∷
      m ∷
      n ∷
      when (leaves_uncovered (oldest_cell x.cells) x) 8 ∷
      when (tail_full x c.arrival c.request) 9 ∷
      when (head_full (wrote x c) (queue_to_read (wrote x c))) 10 ∷ []

  stops_without_it : arrival_unknown x call.arrival ≡ false → request_unknown x call.request ≡ false
      → (slot design x store call).reply.number ≡ (slot design x store left).reply.number
  stops_without_it known asked-known =
      refusal-told design x store call
      ∙ ap (λ (t : Bool). first_refusal (judged_by (when t 4) (when (request_unknown x call.request) 6) left)) known
      ∙ ap (λ (t : Bool). first_refusal (judged_by 0 (when t 6) left)) asked-known
      ∙ sym (ap (λ (t : Bool).
      first_refusal (judged_by (when t 4) (when (request_unknown x left.request) 6) (halves_taken x left)))
      (left-arrival_known x call known)
      ∙ ap (λ (t : Bool). first_refusal (judged_by 0 (when t 6) (halves_taken x left)))
      (left-request_known x call asked-known)
      ∙ ap (λ (c : Call). first_refusal (judged_by 0 0 c)) (left-once x call))
      ∙ sym (refusal-told design x store left)

  never_9_with_5 : arrival_full x call.arrival call.request ≡ true
      → (slot design x store call).reply.number ≡ 9 → ⊥
  never_9_with_5 full e =
      not_first 9 (refusals design x store call) (omega arith)
      (other (not (keeps design x)) 3 (λ h. omega (arith, h))
      also other (ltb (length store) (store_bytes x.sizes)) 2 (λ h. omega (arith, h))
      also other (arrival_unknown x call.arrival) 4 (λ h. omega (arith, h))
      also other (request_unknown x call.request) 6 (λ h. omega (arith, h))
      also other (leaves_uncovered (oldest_cell x.cells) x) 8 (λ h. omega (arith, h))
      also when-excluded 9 (tail_full x left.arrival left.request) 9 (omega arith)
      (λ h. ap (λ (a : Option Byte). tail_full x a left.request) (dropped_arrival_gone x call full))
      also other (head_full (wrote x left) (queue_to_read (wrote x left))) 10 (λ h. omega (arith, h))
      also tt)
      (sym (refusal-told design x store call) ∙ e)
    where
      other : (t : Bool) (k : ℕ) → (k ≡ 9 → ⊥) → when t k ≡ 9 → ⊥
      other t k f = when-excluded 9 t k (omega arith) (λ h. absurd (f h))

none_taken : {A : Type 0} (n : ℕ) (o : Option A) → (n ≡ 0 → ⊥) → taken n o ≡ none
none_taken zero o f = absurd (f refl)
none_taken (suc n) o f = refl

pub halves_say : (design : Design) → HalvesSay design
halves_say design = record {
  never_stops_with_5_or_7 = λ x store call. (
    never_stops_with design x store call 5 (λ h. omega (arith, h)) (λ h. omega (arith, h)) (λ h. omega (arith, h))
        (λ h. omega (arith, h)) (omega arith) (omega arith),
    never_stops_with design x store call 7 (λ h. omega (arith, h)) (λ h. omega (arith, h)) (λ h. omega (arith, h))
        (λ h. omega (arith, h)) (omega arith) (omega arith),
  );
  five_exactly = λ x store call e. ap (λ (a : Answer). a.reply.arrival_number) (is_accepted design x store call e);
  seven_exactly = λ x store call e. ap (λ (a : Answer). a.reply.request_number) (is_accepted design x store call e);
  runs_without_it = runs_without_it design;
  arrival_gone = dropped_arrival_gone;
  arrival-there = arrival-stays;
  request_gone = dropped_request_gone;
  request-there = λ x call e. ap (λ (t : Bool). choose t none call.request) e;
  stops_without_it = stops_without_it design;
  never_9_with_5 = never_9_with_5 design;
  only-answer = only-answer design;
  swap_drops_nothing = swap_left;
  swaps_as_the_call = left-swaps;
  idle_drops_nothing = λ x. refl;
  stopped_takes_nothing = λ x store call n. (
    none_taken (slot design x store call).reply.number (halves_taken x call).arrival n,
    none_taken (slot design x store call).reply.number (halves_taken x call).request n,
  );
  step_takes_what_is_left = λ x store call e. (
    ap (λ (n : ℕ). taken n (halves_taken x call).arrival) e,
    ap (λ (n : ℕ). taken n (halves_taken x call).request) e,
  );
}
