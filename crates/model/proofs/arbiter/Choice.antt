-- The sentences of request 2.2 on one slot: the choice is the next queue with an unrequested byte, 6 and 7 never come,
-- and what is noted as the last one asked. `arbiter_says` says it.
use mathlib.Core.Path.{◌≡◌, refl, ap, sym, ◌∙◌}
use mathlib.Core.Bool.{Bool, true, false, not}
use mathlib.Core.List.{List}
use mathlib.Core.Option.{Option, some, none}
use Prim.Native.Nat.{ℕ, zero, suc, ◌+◌, ◌*◌, ◌%◌, ◌<◌, ◌≤◌}
use native.Mathlib.Omega.{arith}
use lib.Dec.{ltb}
use lib.ListN.{length, drop, length-append, length-drop}
use borrow.Author.Tests.{ltb-true, ltb-false, lt-ltb, lt-leb}
use Rattle.model.specs.Basics.{choose, when, All}
use Rattle.model.specs.Sizes.{Design, store_bytes}
use Rattle.model.specs.State.{Byte, State, values_of, count_of, head_bytes, owed_cells, blocks, keeps}
use Rattle.model.specs.Slot.{Call, after_delivery, arriving, is_full, oldest_cell, wrote, queue_to_read}
use Rattle.model.specs.Slot.{arrival_unknown, request_unknown, nothing_to_take, leaves_uncovered, arrival_taken}
use Rattle.model.specs.Slot.{request_drops, halves_taken, tail_full, head_full, refusals, refusal, Answer, slot}
use Rattle.model.specs.Arbiter.{unrequested, counted_arrival, can_be_asked, queue_after, first_from, choice}
use Rattle.model.specs.Arbiter.{arbiter_call, last_after, noting, arbiter_slot}
use Rattle.model.specs.Ideal.{stream, stands_for}
use Rattle.model.specs.Fairness.{NextAsked, ArbiterSays}
use Rattle.model.proofs.basics.Tests.{by_test, by_option, by_zero}
use Rattle.model.proofs.basics.AllOf.{◌also◌}
use Rattle.model.proofs.basics.FirstRefusal.{not_first, when-excluded}
use Rattle.model.proofs.basics.Bytes.{count_append, count_one_same}
use Rattle.model.proofs.basics.Rounds.{onward, onward-is, next_below, reach, first_at, first_none}
use Rattle.model.proofs.basics.Rounds.{none_found}
use Rattle.model.proofs.meaning.Steps.{seven_only}
use Rattle.model.proofs.one_slot.Rules.{Rules, keeps-facts}
use Rattle.model.proofs.one_slot.StepsKeepRules.{owed_after_delivery}
use Rattle.model.proofs.one_slot.Accepted.{RefusedOrAccepted, was_refused, was_accepted, outcome}
use Rattle.model.proofs.one_slot.Chains.{own_notes_nothing, choice-below}
use Rattle.model.proofs.delay.Request.{stream-length}

-- "Counting up from the last one asked and wrapping": d queues after the next one.
round : (x : State) (d : ℕ) → x.last_asked < x.sizes.Q
    → onward x.sizes.Q d (queue_after x.sizes.Q x.last_asked) ≡ (x.last_asked + 1 + d) % x.sizes.Q
round x d l =
    onward-is x.sizes.Q (suc d) x.last_asked l
    ∙ ap (λ (n : ℕ). n % x.sizes.Q) (let e : x.last_asked + suc d ≡ x.last_asked + 1 + d = omega arith in e)

pub asks-the_next : (x : State) (arrival : Option Byte) (q : ℕ) → x.last_asked < x.sizes.Q
    → choice x arrival ≡ some q → NextAsked x arrival q
asks-the_next x arrival q l e =
    let f = first_at x.sizes.Q (can_be_asked x arrival) x.sizes.Q _ q e in record {
      places = f.place;
      in_a_round = f.in_reach;
      is_there = f.is_there ∙ round x f.place l;
      has_a_byte = f.holds;
      none_between = λ d k. ap (can_be_asked x arrival) (sym (round x d l)) ∙ f.none_before d k;
    }

no_request : (x : State) (arrival : Option Byte) → ((q : ℕ) → q < x.sizes.Q → can_be_asked x arrival q ≡ false)
    → choice x arrival ≡ none
no_request x arrival f =
    by_zero x.sizes.Q
    (λ z. ap (λ (n : ℕ). first_from x.sizes.Q (can_be_asked x arrival) n (queue_after x.sizes.Q x.last_asked)) z)
    (λ l. none_found x.sizes.Q (can_be_asked x arrival) x.sizes.Q (queue_after x.sizes.Q x.last_asked)
    (next_below x.sizes.Q x.last_asked l) f)

only_then : (x : State) (arrival : Option Byte) (q : ℕ) → choice x arrival ≡ none → q < x.sizes.Q
    → can_be_asked x arrival q ≡ false
only_then x arrival q e k =
    let r = reach x.sizes.Q (queue_after x.sizes.Q x.last_asked) q
    (next_below x.sizes.Q x.last_asked (omega (arith, k))) k in
    ap (can_be_asked x arrival) (sym r.is_there)
    ∙ first_none x.sizes.Q (can_be_asked x arrival) x.sizes.Q _ r.steps e r.few

-- What is not requested waits.
pub unrequested-is_waiting : (n : ℕ) (x : State) (store : List ℕ) (q : ℕ) → q < x.sizes.Q
    → store_bytes x.sizes ≤ length store → Rules n x → unrequested x q ≡ length ((stands_for x store).waiting q)
unrequested-is_waiting n x store q l long v =
    omega (
      arith,
      length-append (drop (owed_cells x q) (stream x store q)) (values_of q x.tail),
      length-drop (owed_cells x q) (stream x store q),
      stream-length n x store q l long v,
    )

-- The cell that leaves takes a head byte with it where it is Owed.
delivery-leaves_it : (x : State) (q : ℕ) → leaves_uncovered (oldest_cell x.cells) x ≡ false
    → unrequested (after_delivery x) q ≡ unrequested x q
delivery-leaves_it x q covered = omega (arith, owed_after_delivery x q covered)

-- A full queue's arrival is not counted, any other is.
full-not_counted : (x : State) (y : Byte) → is_full x y.queue ≡ true → choice x (some y) ≡ choice x none
full-not_counted x y f =
    ap (λ (a : Option Byte). first_from x.sizes.Q (λ q. ltb 0 (unrequested x q + count_of q (arriving a)))
    x.sizes.Q (queue_after x.sizes.Q x.last_asked))
    (ap (λ (b : Bool). choose b none (some y)) f)

counted : (x : State) (y : Byte) → is_full x y.queue ≡ false → counted_arrival x (some y) ≡ some y
counted x y f = ap (λ (b : Bool). choose b none (some y)) f

arrival-counted : (x : State) (y : Byte) → is_full x y.queue ≡ false → can_be_asked x (some y) y.queue ≡ true
arrival-counted x y f =
    lt-ltb 0 (unrequested x y.queue + count_of y.queue (arriving (counted_arrival x (some y))))
    (omega (
      arith,
      ap (λ (a : Option Byte). count_of y.queue (arriving a)) (counted x y f),
      count_one_same y,
    ))

-- What counts is no more than what is taken of the arrival, whatever is asked: the arrival to a full queue may be taken
-- where the slot swaps, and any other is not dropped.
counted_few : (x : State) (arrival : Option Byte) (request : Option ℕ) (q : ℕ)
    → count_of q (arriving (counted_arrival x arrival))
    ≤ count_of q (arriving (arrival_taken x (record { arrival = arrival; request = request })))
counted_few x none request q = omega arith
counted_few x (some y) request q =
    by_test (is_full x y.queue)
    (λ t. let none_counted = ap (λ (b : Bool). count_of q (arriving (choose b none (some y)))) t in
    omega (arith, none_counted))
    (λ t. rw t (omega arith))

-- So a queue that can be asked has a byte to take.
can_be_taken : (x : State) (arrival : Option Byte) (q : ℕ) → can_be_asked x arrival q ≡ true
    → nothing_to_take x (arrival_taken x (arbiter_call x arrival)) (some q) ≡ false
can_be_taken x arrival q t =
    by_test (nothing_to_take x comes (some q))
    (λ u. let s = seven_only x comes q u in
    absurd (omega (
      arith,
      ltb-true 0 (unrequested x q + count_of q (arriving (counted_arrival x arrival))) t,
      ltb-false (owed_cells x q) (head_bytes x q + x.sizes.b * blocks x q) s.0,
      s.1,
      counted_few x arrival (choice x arrival) q,
      count_append q x.tail (arriving comes),
    )))
    (λ u. u)
  where
    comes : Option Byte
    comes = arrival_taken x (arbiter_call x arrival)

-- What the arbiter asks is never dropped.
pub choice-stays : (x : State) (arrival : Option Byte) → request_drops x (arbiter_call x arrival) ≡ false
choice-stays x arrival =
    by_option (choice x arrival)
    (λ e. ap (nothing_to_take x comes) e)
    (λ q e. ap (nothing_to_take x comes) e
    ∙ can_be_taken x arrival q (first_at x.sizes.Q (can_be_asked x arrival) x.sizes.Q _ q e).holds)
  where
    comes : Option Byte
    comes = arrival_taken x (arbiter_call x arrival)

module _ (design : Design) (x : State) (store : List ℕ) (arrival : Option Byte) where
  abbrev call : Call
  call = arbiter_call x arrival

  -- 7 is the request's own number.
  never_7 : (arbiter_slot design x store arrival).reply.request_number ≡ 0
  never_7 = go (slot design x store call) (outcome design x store call)
    where
      go : (a : Answer) → RefusedOrAccepted design x store call a → a.reply.request_number ≡ 0
      go a (was_refused n r) = refl
      go a (was_accepted g) = ap (λ (t : Bool). when t 7) (choice-stays x arrival)

  -- 6 is a refusal of the request; no other test has its number.
  none_is_6 : request_unknown x (choice x arrival) ≡ false
      → All (λ (n : ℕ). n ≡ 6 → ⊥) (refusals design x store call)
  none_is_6 known =
      other (not (keeps design x)) 3 (λ h. omega (arith, h))
      also other (ltb (length store) (store_bytes x.sizes)) 2 (λ h. omega (arith, h))
      also other (arrival_unknown x arrival) 4 (λ h. omega (arith, h))
      also when-excluded 6 (request_unknown x (choice x arrival)) 6 (omega arith) (λ h. known)
      also other (leaves_uncovered (oldest_cell x.cells) x) 8 (λ h. omega (arith, h))
      also other (tail_full x left.arrival left.request) 9 (λ h. omega (arith, h))
      also other (head_full (wrote x left) (queue_to_read (wrote x left))) 10 (λ h. omega (arith, h))
      also tt
    where
      left : Call
      left = halves_taken x call

      other : (t : Bool) (k : ℕ) → (k ≡ 6 → ⊥) → when t k ≡ 6 → ⊥
      other t k f = when-excluded 6 t k (omega arith) (λ h. absurd (f h))

  never_6 : (arbiter_slot design x store arrival).reply.number ≡ 6 → ⊥
  never_6 e =
      by_test (keeps design x)
      (λ k. go 6 (not_first 6 (refusals design x store call) (omega arith)
      (none_is_6 (known (keeps-facts design x k).last_below)))
      (slot design x store call) (outcome design x store call) e refl)
      (λ k. let three : refusal design x store call ≡ 3 = rw k in
      go 6 (λ h. omega (arith, three, h)) (slot design x store call) (outcome design x store call) e refl)
    where
      known : x.last_asked < x.sizes.Q → request_unknown x (choice x arrival) ≡ false
      known l =
          by_option (choice x arrival)
          (λ h. ap (request_unknown x) h)
          (λ q h. ap (request_unknown x) h ∙ lt-leb x.sizes.Q q (choice-below x arrival q l h))

      go : (bad : ℕ) → (refusal design x store call ≡ bad → ⊥) → (a : Answer)
          → RefusedOrAccepted design x store call a → a.reply.number ≡ bad → bad ≡ 6 → ⊥
      go bad not-bad a (was_refused n r) h six = not-bad (r ∙ h)
      go bad not-bad a (was_accepted f) h six = omega (arith, h, six)

  -- What is noted.
  asked-is_noted : (q : ℕ) → (arbiter_slot design x store arrival).reply.number ≡ 0 → choice x arrival ≡ some q
      → (arbiter_slot design x store arrival).state.last_asked ≡ q
  asked-is_noted q e c =
      ap (λ (n : ℕ). last_after n (choice x arrival) x.last_asked) e
      ∙ ap (λ (o : Option ℕ). last_after 0 o x.last_asked) c

  none_noted : (n : ℕ) → last_after n none x.last_asked ≡ x.last_asked
  none_noted zero = refl
  none_noted (suc n) = refl

  none_leaves_it : choice x arrival ≡ none → (arbiter_slot design x store arrival).state.last_asked ≡ x.last_asked
  none_leaves_it c =
      ap (λ (o : Option ℕ). last_after (slot design x store call).reply.number o x.last_asked) c
      ∙ none_noted (slot design x store call).reply.number

  refused-leaves_it : ((arbiter_slot design x store arrival).reply.number ≡ 0 → ⊥)
      → (arbiter_slot design x store arrival).state ≡ x
  refused-leaves_it = go (slot design x store call) (outcome design x store call)
    where
      go : (a : Answer) → RefusedOrAccepted design x store call a → (a.reply.number ≡ 0 → ⊥)
          → (noting (last_after a.reply.number (choice x arrival) x.last_asked) a).state ≡ x
      go a (was_refused n r) f = refl
      go a (was_accepted g) f = absurd (f refl)

pub arbiter_says : (design : Design) → ArbiterSays design
arbiter_says design = record {
  asks-the_next = λ x arrival q k. asks-the_next x arrival q (keeps-facts design x k).last_below;
  no_request = no_request;
  only_then = only_then;
  unrequested-is_waiting = λ x store q k long l.
      unrequested-is_waiting _ x store q l long (keeps-facts design x k).within;
  delivery-leaves_it = delivery-leaves_it;
  full-not_counted = full-not_counted;
  arrival-counted = arrival-counted;
  never_7 = never_7 design;
  never_6 = never_6 design;
  asked-is_noted = asked-is_noted design;
  none_leaves_it = none_leaves_it design;
  refused-leaves_it = refused-leaves_it design;
  own_leaves_it = λ x store call.
      sym (ap (λ (a : Answer). a.state.last_asked) (own_notes_nothing design x store call));
  else_the_slot = λ x store arrival. own_notes_nothing design x store (arbiter_call x arrival);
}
