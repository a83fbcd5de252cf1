-- Both bounds of request 2.2, of every list of the arbiter's slots from a state that keeps the rules. Its accepted
-- slots are slots of the ideal buffer, in which a queue can be asked exactly where a byte of it waits; so the arbiter's
-- choice is one of the ideal buffer's (`chosen_so`), and place t of what that gives is place t + L of the deliveries.
-- `fair` says it.
use mathlib.Core.Path.{◌≡◌, refl, ap, sym, ◌∙◌, subst}
use mathlib.Core.Bool.{Bool, true}
use mathlib.Core.List.{List, [], ◌∷◌, ◌++◌}
use mathlib.Core.Option.{Option, some, none}
use Prim.Native.Nat.{ℕ, suc, ◌+◌, ◌-◌, ◌<◌, ◌≤◌}
use native.Mathlib.Omega.{arith}
use lib.Dec.{eqb, ltb, leb}
use lib.ListN.{length, drop, get_or, get_elem?, length-append, length-drop, get_or-eq_default}
use lib.Seq.{get_or-take, get_or-append-add}
use borrow.Author.Tests.{eqb-true, ltb-true, lt-ltb, ne_eqb, leb-true, leb-false}
use Rattle.model.specs.Basics.{choose}
use Rattle.model.specs.Sizes.{Sizes, Limits, Design, full}
use Rattle.model.specs.State.{Byte, byte, Ring, ring, State, fresh, values_of, count_of, tail_bytes, owed_cells}
use Rattle.model.specs.State.{ring_of, blocks, keeps}
use Rattle.model.specs.Slot.{Call, arriving, is_full, swaps, arrival_taken, halves_taken, Answer, accept, slot}
use Rattle.model.specs.Lists.{Step, step_of, accepted, deliveries}
use Rattle.model.specs.Arbiter.{unrequested, counted_arrival, can_be_asked, queue_after, choice}
use Rattle.model.specs.Arbiter.{arbiter_call, last_after, noting, arbiter_slot}
use Rattle.model.specs.Chains.{Chain, no_slot, arbiters_slot}
use Rattle.model.specs.Ideal.{Ideal, waiting_with, ring_bytes, stands_for, stream, ideal_slot, IsIdealSlot}
use Rattle.model.specs.Fairness.{arbiter_run, arbiter_state, arbiter_store, Front, ServedSoon, Fair}
use Rattle.model.proofs.basics.Tests.{by_test, some_inj}
use Rattle.model.proofs.basics.Bytes.{count_one_other, count_past}
use Rattle.model.proofs.basics.Rounds.{next_below, first_alike}
use Rattle.model.proofs.one_slot.Rules.{Keeps, keeps-facts, keeps-holds, keeps-noted}
use Rattle.model.proofs.one_slot.Swap.{swap_facts}
use Rattle.model.proofs.one_slot.Accepted.{Judged, RefusedOrAccepted, was_refused, was_accepted, outcome}
use Rattle.model.proofs.one_slot.Kept.{slot_kept}
use Rattle.model.proofs.one_slot.Chains.{links, chain_keeps, noted-below}
use Rattle.model.proofs.delay.Line.{line_length}
use Rattle.model.proofs.delay.IdealSlot.{accepted-is_ideal}
use Rattle.model.proofs.delay.Delay.{Delays, gives, chain_delays}
use Rattle.model.proofs.delay.Line.{element_at}
use Rattle.model.proofs.Demand.{every_chain}
use Rattle.model.proofs.arbiter.Choice.{unrequested-is_waiting, choice-stays}
use Rattle.model.proofs.arbiter.Waiting.{ChosenSlots, none_chosen, one_chosen, FrontNow, Served, front_there}
use Rattle.model.proofs.arbiter.Waiting.{served_soon}

-- In an accepted slot a queue can be asked exactly where a byte of it waits, what is taken of the arrival counted. For
-- the arrival to a full queue is taken only where the slot swaps, and then the queue has a byte in the tail.
module _ (design : Design) (x : State) (store : List ℕ) (arrival : Option Byte)
    (j : Judged design x store (halves_taken x (arbiter_call x arrival))) (q : ℕ) (l : q < x.sizes.Q) where
  abbrev with_choice : Option Byte → Call
  with_choice a = record { arrival = a; request = choice x arrival }

  counts_alike : (a : Option Byte)
      → ltb 0 (unrequested x q + count_of q (arriving (counted_arrival x a)))
      ≡ ltb 0 (unrequested x q + count_of q (arriving (arrival_taken x (with_choice a))))
  counts_alike none = refl
  counts_alike (some y) =
      by_test (is_full x y.queue)
      (λ t. by_test (swaps x (some y) (choice x arrival))
      (λ s. by_test (eqb y.queue q)
      (λ same. let w = swap_facts x (with_choice (some y)) s in
      both-there w.byte-there (some_inj _ y (sym w.arrival_is)) same)
      (λ other. rw (t, s) (ap (λ (n : ℕ). ltb 0 (unrequested x q + n)) (sym (count_one_other y q other)))))
      (λ s. rw (t, s)))
      (λ t. rw t)
    where
      both-there : {z : Byte} → 1 ≤ tail_bytes x z.queue → z ≡ y → eqb y.queue q ≡ true
          → ltb 0 (unrequested x q + count_of q (arriving (counted_arrival x (some y))))
          ≡ ltb 0 (unrequested x q + count_of q (arriving (arrival_taken x (with_choice (some y)))))
      both-there {z} there is same =
          lt-ltb 0 (unrequested x q + count_of q (arriving (counted_arrival x (some y)))) (omega (arith, byte-of_q))
          ∙ sym (lt-ltb 0 (unrequested x q + count_of q (arriving (arrival_taken x (with_choice (some y)))))
          (omega (arith, byte-of_q)))
        where
          byte-of_q : 1 ≤ tail_bytes x q
          byte-of_q =
              subst (λ (p : ℕ). 1 ≤ tail_bytes x p) (ap (λ (b : Byte). b.queue) is ∙ eqb-true y.queue q same) there

  abbrev comes : Option Byte
  comes = arrival_taken x (arbiter_call x arrival)

  pub can_be_asked_waits : can_be_asked x arrival q ≡ ltb 0 (length (waiting_with (stands_for x store).waiting comes q))
  can_be_asked_waits =
      counts_alike arrival
      ∙ ap (ltb 0)
      (let e : unrequested x q + count_of q (arriving comes)
      ≡ length (waiting_with (stands_for x store).waiting comes q) =
      omega (
        arith,
        unrequested-is_waiting _ x store q l j.store_long j.kept.within,
        length-append ((stands_for x store).waiting q) (values_of q (arriving comes)),
      ) in e)

-- A list of the arbiter's slots: a chain, and its accepted slots are such as the ideal buffer has.
pub arbiter_chain : (design : Design) (x : State) (store : List ℕ) (arrivals : List (Option Byte))
    → Chain design x store (arbiter_run design x store arrivals) (arbiter_state design x store arrivals)
arbiter_chain design x store [] = no_slot
arbiter_chain design x store (arrival ∷ arrivals) =
    arbiters_slot arrival refl
    (arbiter_chain design (arbiter_slot design x store arrival).state (arbiter_slot design x store arrival).store
    arrivals)

module _ (design : Design) where
  arbiter_kept : (x : State) (store : List ℕ) (arrival : Option Byte) → 1 ≤ design.cell_count x.sizes
      → Keeps design x → Keeps design (arbiter_slot design x store arrival).state
  arbiter_kept x store arrival h v =
      let k = slot_kept design x store (arbiter_call x arrival) h v in
      keeps-noted design (slot design x store (arbiter_call x arrival)).state
      (last_after (slot design x store (arbiter_call x arrival)).reply.number (choice x arrival) x.last_asked)
      (rw k.same-sizes
      (noted-below x arrival (slot design x store (arbiter_call x arrival)).reply.number v.last_below))
      k.kept

  same-sizes : (x : State) (store : List ℕ) (arrival : Option Byte) → 1 ≤ design.cell_count x.sizes
      → Keeps design x → (arbiter_slot design x store arrival).state.sizes ≡ x.sizes
  same-sizes x store arrival h v = (slot_kept design x store (arbiter_call x arrival) h v).same-sizes

  abbrev ChosenFrom : ℕ → State → List ℕ → List Step → Type 0
  ChosenFrom Q x store steps = ChosenSlots Q (stands_for x store).waiting x.last_asked (accepted steps)

  chosen_more : (x : State) (store : List ℕ) (arrival : Option Byte) (a : Answer) (rest : List Step)
      → 1 ≤ design.cell_count x.sizes → Keeps design x → RefusedOrAccepted design x store (arbiter_call x arrival) a
      → ChosenFrom x.sizes.Q
      (noting (last_after a.reply.number (choice x arrival) x.last_asked) a).state a.store rest
      → ChosenFrom x.sizes.Q x store
      (step_of x store (arbiter_call x arrival)
      (noting (last_after a.reply.number (choice x arrival) x.last_asked) a)
      ∷ rest)
  chosen_more x store arrival a rest h v (was_refused n e) c = rw (ne_eqb (suc n) 0 (λ z. omega arith)) c
  chosen_more x store arrival a rest h v (was_accepted f) c =
      one_chosen
      (stays
      ∙ first_alike x.sizes.Q (can_be_asked x arrival)
      (λ q. ltb 0 (length (waiting_with (stands_for x store).waiting left.arrival q))) x.sizes.Q
      (queue_after x.sizes.Q x.last_asked) (next_below x.sizes.Q x.last_asked (omega (arith, v.last_below)))
      (λ q l. can_be_asked_waits design x store arrival f.judged q l))
      (subst (λ (o : Option ℕ).
      ChosenSlots x.sizes.Q (ideal_slot left (stands_for x store)).waiting (last_after 0 o x.last_asked)
      (accepted rest))
      (sym stays)
      (subst (λ (i : Ideal).
      ChosenSlots x.sizes.Q i.waiting (last_after 0 (choice x arrival) x.last_asked) (accepted rest))
      ideal.leaves c))
    where
      left : Call
      left = halves_taken x (arbiter_call x arrival)

      stays : left.request ≡ choice x arrival
      stays = ap (λ (t : Bool). choose t none (choice x arrival)) (choice-stays x arrival)

      ideal : IsIdealSlot x store (halves_taken x (arbiter_call x arrival)) (accept x store (arbiter_call x arrival))
      ideal = accepted-is_ideal design x store (halves_taken x (arbiter_call x arrival)) h f.judged

  chosen_so : (x : State) (store : List ℕ) (arrivals : List (Option Byte)) → 1 ≤ design.cell_count x.sizes
      → Keeps design x → ChosenFrom x.sizes.Q x store (arbiter_run design x store arrivals)
  chosen_so x store [] h v = none_chosen
  chosen_so x store (arrival ∷ arrivals) h v =
      let a = arbiter_slot design x store arrival in
      let same = same-sizes x store arrival h v in
      chosen_more x store arrival (slot design x store (arbiter_call x arrival))
      (arbiter_run design a.state a.store arrivals) h v (outcome design x store (arbiter_call x arrival))
      (subst (λ (s : Sizes).
      ChosenFrom s.Q a.state a.store (arbiter_run design a.state a.store arrivals)) same
      (chosen_so a.state a.store arrivals (rw same h) (arbiter_kept x store arrival h v)))

  -- Slots later.
  later_keeps : (x : State) (store : List ℕ) (arrivals : List (Option Byte)) → 1 ≤ design.cell_count x.sizes
      → Keeps design x → Keeps design (arbiter_state design x store arrivals)
  later_keeps x store [] h v = v
  later_keeps x store (arrival ∷ arrivals) h v =
      later_keeps (arbiter_slot design x store arrival).state (arbiter_slot design x store arrival).store arrivals
      (rw (same-sizes x store arrival h v) h) (arbiter_kept x store arrival h v)

  later_goes_on : (x : State) (store : List ℕ) (arrivals more : List (Option Byte))
      → arbiter_run design x store (arrivals ++ more)
      ≡ arbiter_run design x store arrivals
      ++ arbiter_run design (arbiter_state design x store arrivals) (arbiter_store design x store arrivals) more
  later_goes_on x store [] more = refl
  later_goes_on x store (arrival ∷ arrivals) more =
      ap (λ (steps : List Step). step_of x store (arbiter_call x arrival) (arbiter_slot design x store arrival) ∷ steps)
      (later_goes_on (arbiter_slot design x store arrival).state (arbiter_slot design x store arrival).store arrivals
      more)

-- Place t of what is given is place t + L of what is delivered.
given-leaves : (design : Design) (x : State) (store : List ℕ) (slots : List Step) (t : ℕ) (o : Option Byte)
    → Keeps design x → Delays (stands_for x store) slots
    → t + design.cell_count x.sizes < length slots
    → get_or (gives (stands_for x store).waiting slots) t none ≡ o
    → get_or (deliveries slots) (t + design.cell_count x.sizes) none ≡ o
given-leaves design x store slots t o v d l e =
    ap (λ (ds : List (Option Byte)). get_or ds (t + L) none) d.delivers
    ∙ get_or-take (length slots) (line ++ given) (t + L) none l
    ∙ ap (λ (i : ℕ). get_or (line ++ given) i none)
    (let z : t + L ≡ length line + t =
    omega (arith, line_length (stream x store) x.cells, v.within.cells_long) in z)
    ∙ get_or-append-add line given t none
    ∙ e
  where
    L : ℕ
    L = design.cell_count x.sizes

    line : List (Option Byte)
    line = (stands_for x store).line

    given : List (Option Byte)
    given = gives (stands_for x store).waiting slots

-- A queue of which a byte waits is one of the Q: no other has a byte, and the arrival of another is refused.
nothing-past : (design : Design) (x : State) (store : List ℕ) (call : Call) (q : ℕ) → Judged design x store call
    → x.sizes.Q ≤ q → length (waiting_with (stands_for x store).waiting call.arrival q) ≡ 0
nothing-past design x store call q j h =
    omega (
      arith,
      length-append ((stands_for x store).waiting q) (values_of q (arriving call.arrival)),
      length-append (drop (owed_cells x q) (stream x store q)) (values_of q x.tail),
      length-drop (owed_cells x q) (stream x store q),
      length-append (values_of q x.head) (ring_bytes x.sizes store q (ring_of x.rings q).first (blocks x q)),
      ap (λ (n : ℕ). length (ring_bytes x.sizes store q (ring_of x.rings q).first n)) no_blocks,
      count_past x.sizes.Q x.head q j.kept.within.head_below h,
      count_past x.sizes.Q x.tail q j.kept.within.tail_below h,
      none_arrives call.arrival refl,
    )
  where
    no_blocks : blocks x q ≡ 0
    no_blocks =
        ap (λ (r : Ring). r.count)
        (get_or-eq_default x.rings (ring 0 0) {n = q} (omega (arith, j.kept.within.rings_long, h)))

    none_arrives : (arrival : Option Byte) → call.arrival ≡ arrival → count_of q (arriving arrival) ≡ 0
    none_arrives none e = refl
    none_arrives (some y) e =
        count_one_other y q (ne_eqb y.queue q (λ same. omega (arith, same, j.arrival-known y e, h)))

waits_below : (design : Design) (x : State) (store : List ℕ) (call : Call) (q v : ℕ) → Judged design x store call
    → get_elem? (waiting_with (stands_for x store).waiting call.arrival q) 0 ≡ some v → q < x.sizes.Q
waits_below design x store call q v j e =
    by_test (leb x.sizes.Q q)
    (λ t. absurd (omega (
      arith,
      nothing-past design x store call q j (leb-true x.sizes.Q q t),
      ltb-true 0 (length front) (front_there front v e),
    )))
    (λ t. leb-false x.sizes.Q q t)
  where
    front : List ℕ
    front = waiting_with (stands_for x store).waiting call.arrival q

front_below : (design : Design) (x : State) (store : List ℕ) (arrivals : List (Option Byte)) (q v : ℕ)
    → Front x store (accepted (arbiter_run design x store arrivals)) q v → q < x.sizes.Q
front_below design x store [] q v f = absurd f
front_below design x store (arrival ∷ arrivals) q v f =
    go (slot design x store (arbiter_call x arrival)) (outcome design x store (arbiter_call x arrival))
    (front_below design x store arrivals q v) f
  where
    go : (a : Answer) → RefusedOrAccepted design x store (arbiter_call x arrival) a
        → (Front x store (accepted (arbiter_run design x store arrivals)) q v → q < x.sizes.Q)
        → (let b = noting (last_after a.reply.number (choice x arrival) x.last_asked) a in
        Front x store
        (accepted (step_of x store (arbiter_call x arrival) b ∷ arbiter_run design b.state b.store arrivals)) q v)
        → q < x.sizes.Q
    go a (was_refused n e) rest f = rest (rw (ne_eqb (suc n) 0 (λ z. omega arith)) at f)
    go a (was_accepted g) rest f = waits_below design x store (halves_taken x (arbiter_call x arrival)) q v g.judged f

front_now : (x : State) (store : List ℕ) (slots : List Step) (q v : ℕ) → Front x store slots q v
    → FrontNow (stands_for x store).waiting slots q v
front_now x store [] q v f = tt
front_now x store (step ∷ slots) q v f = f

-- The two bounds.
served_in_time : (limits : Limits) (x : State) (store : List ℕ) (arrivals : List (Option Byte)) (q v : ℕ)
    → keeps (full limits) x ≡ true → Front x store (accepted (arbiter_run (full limits) x store arrivals)) q v
    → ServedSoon x.sizes (accepted (arbiter_run (full limits) x store arrivals)) q v
served_in_time limits x store arrivals q v k f = record {
  wait = s.wait;
  within = omega (arith, s.within, below);
  asked = s.asked;
  not_before = s.not_before;
  leaves = λ l. given-leaves design x store slots s.wait (some (byte q v)) kept delays l
      (s.gives_it (omega (arith, l)));
}
  where
    design : Design
    design = full limits

    slots : List Step
    slots = accepted (arbiter_run (full limits) x store arrivals)

    kept : Keeps (full limits) x
    kept = keeps-facts (full limits) x k

    below : q < x.sizes.Q
    below = front_below (full limits) x store arrivals q v f

    delays : Delays (stands_for x store) (accepted (arbiter_run (full limits) x store arrivals))
    delays =
        chain_delays (full limits) (omega arith) kept
        (links (full limits) (arbiter_chain (full limits) x store arrivals))

    s : Served (stands_for x store).waiting (accepted (arbiter_run (full limits) x store arrivals))
        (x.sizes.Q - 1) q v
    s =
        served_soon x.sizes.Q q v kept.last_below below
        (chosen_so (full limits) x store arrivals (omega arith) kept)
        (front_now x store (accepted (arbiter_run (full limits) x store arrivals)) q v f)

-- And a queue that can be asked has a front byte.
has_a_front : (design : Design) (x : State) (store : List ℕ) (arrival : Option Byte)
    (arrivals : List (Option Byte)) (q : ℕ)
    → (arbiter_slot design x store arrival).reply.number ≡ 0 → q < x.sizes.Q → can_be_asked x arrival q ≡ true
    → (v : ℕ) × Front x store (accepted (arbiter_run design x store (arrival ∷ arrivals))) q v
has_a_front design x store arrival arrivals q zero l t =
    go (slot design x store (arbiter_call x arrival)) (outcome design x store (arbiter_call x arrival)) zero
  where
    go : (a : Answer) → RefusedOrAccepted design x store (arbiter_call x arrival) a → a.reply.number ≡ 0
        → (v : ℕ)
        × (let b = noting (last_after a.reply.number (choice x arrival) x.last_asked) a in
        Front x store
        (accepted (step_of x store (arbiter_call x arrival) b ∷ arbiter_run design b.state b.store arrivals)) q v)
    go a (was_refused n e) z = absurd (omega (arith, z))
    go a (was_accepted g) z =
        element_at front 0
        (ltb-true 0 (length front) (sym (can_be_asked_waits design x store arrival g.judged q l) ∙ t))
      where
        front : List ℕ
        front = waiting_with (stands_for x store).waiting (arrival_taken x (arbiter_call x arrival)) q

pub fair : (limits : Limits) → Fair limits
fair limits = record {
  served = served_in_time limits;
  has_a_front = has_a_front (full limits);
  later_too = λ x store arrivals more k. (
    keeps-holds (full limits) (arbiter_state (full limits) x store arrivals)
        (later_keeps (full limits) x store arrivals (omega arith) (keeps-facts (full limits) x k)),
    later_goes_on (full limits) x store arrivals more,
  );
  behind_any = λ x store steps last k c.
      keeps-holds (full limits) last
      (chain_keeps (full limits) (omega arith) (keeps-facts (full limits) x k) (links (full limits) c));
  every_list = λ s store arrivals e.
      every_chain limits s store (arbiter_run (full limits) (fresh (full limits) s) store arrivals) _ e
      (arbiter_chain (full limits) (fresh (full limits) s) store arrivals);
}
