-- The sentences of request 2.7 of one slot: each number comes where its condition holds and none before it does, since
-- a slot answers its first refusal; an accepted slot is what `packet_accept` says. `packets_say` has them all.
use mathlib.Core.Path.{◌≡◌, refl, ap, sym, ◌∙◌, subst}
use mathlib.Core.Bool.{Bool, true, false, not}
use mathlib.Core.List.{List, [], ◌∷◌, append-nil}
use mathlib.Core.Option.{Option, some, none}
use Prim.Native.Nat.{ℕ, zero, suc, ◌+◌, ◌-◌, ◌<◌, ◌≤◌}
use native.Mathlib.Omega.{arith}
use lib.Dec.{eqb, ltb}
use lib.ListN.{length}
use borrow.Author.Tests.{eqb-true, le-ltb, lt-ltb, le-leb, lt-leb, ne_eqb}
use Rattle.model.specs.Basics.{All, when, first_refusal}
use Rattle.model.specs.Sizes.{Design, store_bytes}
use Rattle.model.specs.State.{State, keeps}
use Rattle.model.specs.Slot.{arrival_unknown, request_unknown, Answer, slot}
use Rattle.packets.specs.Packets.{most_listed, Coming, coming, PacketRecord, length_ok, coming_to}
use Rattle.packets.specs.Packets.{record_keeps, PacketArrival, start, next, PacketCall, byte_in, byte_call}
use Rattle.packets.specs.Packets.{length_wrong}
use Rattle.packets.specs.Packets.{comes, no_place, free_store, no_room, packet_refusal, packet_drops}
use Rattle.packets.specs.Packets.{packet_taken, incoming_after, left_after, record_after}
use Rattle.packets.specs.Packets.{PacketAnswer}
use Rattle.packets.specs.Packets.{packet_accept, packet_stop, packet_slot}
use Rattle.packets.specs.Sentences.{InRange, RecordStands, MayComeIn, no_byte, first_byte, a_next_byte, packet_call}
use Rattle.packets.specs.Sentences.{answered, Stands, StopsInOrder, HandsOn, AsksPacket, list_left, ListsLeft}
use Rattle.packets.specs.Sentences.{Enters}
use Rattle.packets.specs.Sentences.{ComesIn, RunsOn, PacketsSay}
use Rattle.model.proofs.basics.Tests.{by_test, eqb_same, and_both}
use Rattle.packets.proofs.Slots.{LengthOk, RecordKeeps, ComingKeeps, length-holds, record-facts, record-holds}
use Rattle.packets.proofs.Slots.{packet_outcome, packet_accepted, packet_accepts, packet_refusal_told}
use Rattle.packets.proofs.Slots.{PacketAccepted, StoppedOrAccepted, was_stopped, was_accepted}
use Rattle.packets.proofs.Kept.{record-after-kept, accepted-fits}

-- The rules of a record in the request's words, and back.
in_range : (ns : List ℕ) → All LengthOk ns → All InRange ns
in_range [] h = tt
in_range (n ∷ ns) h = (record { one_or_more = h.0.0; not_over = h.0.1 }, in_range ns h.1)

from_range : (ns : List ℕ) → All InRange ns → All LengthOk ns
from_range [] h = tt
from_range (n ∷ ns) h = ((h.0.one_or_more, h.0.not_over), from_range ns h.1)

own_coming : (c : Coming) → coming_to c.queue (some c) ≡ 1
own_coming c = rw (eqb_same c.queue)

record_stands : (Q : ℕ) (r : PacketRecord) → record_keeps Q r ≡ true → RecordStands Q r
record_stands Q r e =
    let k = record-facts Q r e in record {
      lists_fit = λ q l. omega (arith, k.lists_short q l);
      coming_fits = λ c f. omega (
        arith,
        k.lists_short c.queue (k.coming_keeps c f).queue_below,
        ap (coming_to c.queue) f,
        own_coming c,
      );
      listed_in_range = λ q l. in_range (r.lengths q) (k.lengths_ok q l);
      coming_in_range = λ c f. let size = (k.coming_keeps c f).size_ok in
          record { one_or_more = size.0; not_over = size.1 };
      more_to_come = λ c f. (k.coming_keeps c f).not-whole;
      left_in_range = k.left_few;
      coming_known = λ c f. (k.coming_keeps c f).queue_below;
      asked-known = k.asked-below;
    }

stands_record : (Q : ℕ) (r : PacketRecord) → RecordStands Q r → record_keeps Q r ≡ true
stands_record Q r s = record-holds Q r (record {
  lists_short = λ q l. short q l r.incoming refl;
  lengths_ok = λ q l. from_range (r.lengths q) (s.listed_in_range q l);
  coming_keeps = λ c e. record {
    queue_below = s.coming_known c e;
    size_ok = ((s.coming_in_range c e).one_or_more, (s.coming_in_range c e).not_over);
    not-whole = s.more_to_come c e;
  };
  left_few = s.left_in_range;
  asked-below = s.asked-known;
})
  where
    short : (q : ℕ) → q < Q → (o : Option Coming) → r.incoming ≡ o → length (r.lengths q) + coming_to q o ≤ most_listed
    short q l none e = omega (arith, s.lists_fit q l)
    short q l (some c) e =
        by_test (eqb c.queue q)
        (λ t. rw t (omega (
          arith,
          subst (λ (p : ℕ). length (r.lengths p) ≤ 31) (eqb-true c.queue q t) (s.coming_fits c e),
        )))
        (λ t. rw t (omega (arith, s.lists_fit q l)))

-- The numbers that stop a slot.
last : (n : ℕ) → first_refusal (n ∷ []) ≡ n
last zero = refl
last (suc n) = refl

module _ (design : Design) (x : State) (store : List ℕ) (r : PacketRecord) where
  told : (arrival : Option PacketArrival) (request : Option ℕ)
      → answered design x store r arrival request ≡ packet_refusal design x store r (packet_call arrival request)
  told arrival request = packet_refusal_told design x store r (packet_call arrival request)

  -- Neither 3 nor 2 comes, and the rest is judged.
  abbrev later : Option PacketArrival → Option ℕ → List ℕ
  later arrival request =
      when (arrival_unknown x (byte_in r.incoming arrival)) 4 ∷
      when (length_wrong r.incoming arrival) 20 ∷
      when (no_place r arrival) 21 ∷
      when (no_room x arrival) 22 ∷
      when (request_unknown x request) 6 ∷
      (slot design x store (byte_call r (packet_call arrival request))).reply.number ∷ []

  standing : Stands design x store r → (arrival : Option PacketArrival) (request : Option ℕ)
      → answered design x store r arrival request ≡ first_refusal (later arrival request)
  standing s arrival request =
      told arrival request
      ∙ ap (λ (t : Bool). first_refusal (when (not t) 3 ∷ when (ltb (length store) (store_bytes x.sizes)) 2
      ∷ later arrival request)) (and_both _ _ s.state_keeps s.record_keeps)
      ∙ ap (λ (t : Bool). first_refusal (when t 2 ∷ later arrival request))
      (le-ltb (length store) (store_bytes x.sizes) s.store_long)

  -- Each test that passes or stops, by its own fact.
  length-good : (n : ℕ) → InRange n → not (length_ok n) ≡ false
  length-good n h = ap not (length-holds n (h.one_or_more, h.not_over))

  length-bad : (n : ℕ) → (InRange n → ⊥) → not (length_ok n) ≡ true
  length-bad n h =
      by_test (length_ok n)
      (λ t. absurd (h (range t)))
      (λ t. rw t)
    where
      range : length_ok n ≡ true → InRange n
      range t = let f = Rattle.packets.proofs.Slots.length-facts n t in
          record { one_or_more = f.0; not_over = f.1 }

  known : (q n v : ℕ) → q < x.sizes.Q → arrival_unknown x (byte_in r.incoming (some (start q n v))) ≡ false
  known q n v l = lt-leb x.sizes.Q q l

  place_taken_list : (q n v : ℕ) → length (r.lengths q) ≡ 32 → no_place r (some (start q n v)) ≡ true
  place_taken_list q n v e =
      by_test (comes r.incoming)
      (λ t. rw t)
      (λ t. rw t (le-leb 32 (length (r.lengths q)) (omega (arith, e))))

  -- What may come in passes 4, 20, 21 and 22.
  may_come : Stands design x store r → (request : Option ℕ) {arrival : Option PacketArrival} → MayComeIn x r arrival
      → first_refusal (later arrival request)
      ≡ first_refusal (when (request_unknown x request) 6
      ∷ (slot design x store (byte_call r (packet_call arrival request))).reply.number ∷ [])
  may_come s request no_byte = refl
  may_come s request (first_byte q n v l h e f g) =
      rw (
        lt-leb x.sizes.Q q l,
        length-good n h,
        e,
        lt-leb 32 (length (r.lengths q)) f,
        le-ltb (free_store x q) n (omega (arith, g)),
      )
  may_come s request (a_next_byte c v e) =
      rw (e, lt-leb x.sizes.Q c.queue ((record_stands x.sizes.Q r s.record_keeps).coming_known c e))

  stops_in_order : StopsInOrder design x store r
  stops_in_order = record {
    three = λ arrival request h. told arrival request ∙ three_first arrival request h;
    two = λ arrival request k l m.
        told arrival request
        ∙ ap (λ (t : Bool). first_refusal (when (not t) 3 ∷ when (ltb (length store) (store_bytes x.sizes)) 2
        ∷ later arrival request)) (and_both _ _ k l)
        ∙ ap (λ (t : Bool). first_refusal (when t 2 ∷ later arrival request))
        (lt-ltb (length store) (store_bytes x.sizes) m);
    four = λ q n v request s l. standing s (some (start q n v)) request ∙ rw (le-leb x.sizes.Q q l);
    twenty_length = λ q n v request s l h.
        standing s (some (start q n v)) request ∙ rw (lt-leb x.sizes.Q q l, length-bad n h);
    twenty_next = λ v request s e. standing s (some (next v)) request ∙ rw e;
    twenty_one_list = λ q n v request s l h e.
        standing s (some (start q n v)) request
        ∙ rw (lt-leb x.sizes.Q q l, length-good n h, place_taken_list q n v e);
    twenty_one_coming = λ q n v c request s l h e.
        standing s (some (start q n v)) request ∙ rw (lt-leb x.sizes.Q q l, length-good n h, e);
    twenty_two = λ q n v request s l h e f g.
        standing s (some (start q n v)) request
        ∙ rw (
          lt-leb x.sizes.Q q l,
          length-good n h,
          e,
          lt-leb 32 (length (r.lengths q)) f,
          lt-ltb (free_store x q) n (omega (arith, g)),
        );
    six = λ arrival q s m l.
        standing s arrival (some q) ∙ may_come s (some q) m ∙ rw (le-leb x.sizes.Q q l);
    the_buffers = λ arrival request s m f.
        standing s arrival request ∙ may_come s request m ∙ known_request arrival request request refl f;
  }
    where
      known_request : (arrival : Option PacketArrival) (request o : Option ℕ) → request ≡ o
          → ((q : ℕ) → request ≡ some q → q < x.sizes.Q)
          → first_refusal (when (request_unknown x o) 6
          ∷ (slot design x store (byte_call r (packet_call arrival request))).reply.number ∷ [])
          ≡ (slot design x store (byte_call r (packet_call arrival request))).reply.number
      known_request arrival request none e f =
          last (slot design x store (byte_call r (packet_call arrival request))).reply.number
      known_request arrival request (some q) e f =
          rw (lt-leb x.sizes.Q q (f q e))
          (last (slot design x store (byte_call r (packet_call arrival request))).reply.number)

      three_first : (arrival : Option PacketArrival) (request : Option ℕ)
          → (keeps design x ≡ true → record_keeps x.sizes.Q r ≡ true → ⊥)
          → packet_refusal design x store r (packet_call arrival request) ≡ 3
      three_first arrival request h =
          by_test (keeps design x)
          (λ t. by_test (record_keeps x.sizes.Q r)
          (λ u. absurd (h t u))
          (λ u. rw (t, u)))
          (λ t. rw t)

-- What is handed to the buffer.
hands_on : (r : PacketRecord) (request : Option ℕ) → HandsOn r request
hands_on r request = record {
  nothing_comes = refl;
  first_byte_comes = λ q n v. refl;
  next_byte_comes = λ c v e. rw e;
  asks_while_left = λ arrival n e. rw (lt-ltb 0 r.left (omega (arith, e)));
  asks_no_more = λ arrival e. rw e;
}

-- What an accepted slot does with its packet request.
module _ (r : PacketRecord) (call : PacketCall) (arrival_number request_number : ℕ) where
  abbrev after : PacketRecord
  after = record_after r call arrival_number request_number

  drops_empty : (q : ℕ) → r.lengths q ≡ [] → packet_drops r (some q) ≡ true
  drops_empty q e = by_test (ltb 0 r.left) (λ t. rw t) (λ t. rw (t, e))

  drops_while_left : (q : ℕ) → 1 ≤ r.left → packet_drops r (some q) ≡ true
  drops_while_left q l = rw (lt-ltb 0 r.left l)

  -- Byte requests are left, so that no packet request is taken.
  none_while_left : (n : ℕ) → r.left ≡ suc n → (request : Option ℕ) → packet_taken r request ≡ none
  none_while_left n e none = refl
  none_while_left n e (some q) = rw (lt-ltb 0 r.left (omega (arith, e)))

  taken-oldest : (q n : ℕ) (ns : List ℕ) → r.left ≡ 0 → r.lengths q ≡ n ∷ ns → packet_drops r (some q) ≡ false
  taken-oldest q n ns e f = rw (e, ne_eqb (length (r.lengths q)) 0 (λ z. more (ap length f) z))
    where
      more : length (r.lengths q) ≡ suc (length ns) → length (r.lengths q) ≡ 0 → ⊥
      more g z = omega (arith, g, z)

  -- Without a packet request that is taken.
  left_less : (n : ℕ) → r.left ≡ suc n → request_number ≡ 0 → left_after r none request_number ≡ n
  left_less n e f = ap (left_after r none) f ∙ (let g : r.left - 1 ≡ n = omega (arith, e) in g)

  left-same : (k : ℕ) → (k ≡ 0 → ⊥) → left_after r none k ≡ r.left
  left-same zero f = absurd (f refl)
  left-same (suc k) f = refl

  left-none : (k : ℕ) → r.left ≡ 0 → left_after r none k ≡ 0
  left-none zero e = ap (λ (k : ℕ). k - 1) e
  left-none (suc k) e = e

  asks-packet : AsksPacket r after call.request (when (packet_drops r call.request) 7) request_number
  asks-packet = record {
    seven_none_stood = λ q e f. rw (e, drops_empty q f);
    seven_still_asks = λ q e l. rw (e, drops_while_left q l);
    zero_taken = λ q n ns e f g. (
      rw (e, taken-oldest q n ns f g),
      rw (e, taken-oldest q n ns f g),
      rw (e, taken-oldest q n ns f g, g),
    );
    zero_none = λ e. rw e;
    one_less = λ n e f. let t = none_while_left n e call.request in (rw t (left_less n e f), rw t);
    not_counted = λ n e f. let t = none_while_left n e call.request in (rw t (left-same request_number f), rw t);
    none_to_make = λ e t. (rw t (left-none request_number e), rw t);
  }

  -- What comes in, by the packet with this slot's byte: none, or not whole yet, or whole.
  abbrev now : Option Coming
  now = incoming_after r call arrival_number

  none_comes : now ≡ none → (after.incoming ≡ none) × ListsLeft r call.request after
  none_comes e = (rw e, λ q. rw e (append-nil (list_left r call.request q)))

  part_comes : (c : Coming) → now ≡ some c → c.bytes_in < c.size
      → (after.incoming ≡ some c) × ListsLeft r call.request after
  part_comes c e l =
      let t = lt-leb c.size c.bytes_in l in
      (rw e (rw t), λ q. rw e (rw t (append-nil (list_left r call.request q))))

  whole_comes : (c : Coming) → now ≡ some c → c.size ≤ c.bytes_in
      → (after.incoming ≡ none) × Enters r call.request after c.queue c.size
  whole_comes c e l =
      let t = le-leb c.size c.bytes_in l in (
        rw e (rw t),
        (
          rw e (rw (t, eqb_same c.queue)),
          λ q f. rw e (rw (t, ne_eqb c.queue q f) (append-nil (list_left r call.request q))),
        ),
      )

  -- Without a byte that is counted, the packet coming in is as it was, and so not whole.
  same-comes : (Q : ℕ) → RecordKeeps Q r → now ≡ r.incoming
      → (after.incoming ≡ r.incoming) × ListsLeft r call.request after
  same-comes Q kept e = go r.incoming refl
    where
      go : (o : Option Coming) → r.incoming ≡ o → (after.incoming ≡ o) × ListsLeft r call.request after
      go none f = none_comes (e ∙ f)
      go (some c) f = part_comes c (e ∙ f) (kept.coming_keeps c f).not-whole

  comes-in : (Q : ℕ) → RecordKeeps Q r → ComesIn r after call.arrival call.request arrival_number
  comes-in Q kept = record {
    nothing = λ e. same-comes Q kept (idle-now arrival_number e);
    not_counted = λ f. same-comes Q kept (dropped_now arrival_number f);
    first_of_more = λ q n v e f l. part_comes (coming q n 1) (rw (f, e)) l;
    first_and_last = λ q v e f. whole_comes (coming q 1 1) (rw (f, e)) (omega arith);
    one_more = λ c v e f g l. part_comes (coming c.queue c.size (c.bytes_in + 1)) (rw (g, f, e)) l;
    last_byte = λ c v e f g h.
        whole_comes (coming c.queue c.size (c.bytes_in + 1)) (rw (g, f, e)) (omega (arith, h));
  }
    where
      idle-now : (k : ℕ) → call.arrival ≡ none → incoming_after r call k ≡ r.incoming
      idle-now zero e = rw e
      idle-now (suc k) e = refl

      dropped_now : (k : ℕ) → (k ≡ 0 → ⊥) → incoming_after r call k ≡ r.incoming
      dropped_now zero f = absurd (f refl)
      dropped_now (suc k) f = refl

-- A stopped slot, and an accepted one.
module _ (design : Design) (x : State) (store : List ℕ) (r : PacketRecord) (call : PacketCall) where
  stopped_as_given : {a : PacketAnswer} → StoppedOrAccepted design x store r call a
      → (a.answer.reply.number ≡ 0 → ⊥) → a ≡ packet_stop a.answer.reply.number x store r
  stopped_as_given (was_stopped n e) f = refl
  stopped_as_given (was_accepted g) f = absurd (f g.buffer_accepts)

  runs_on : (packet_slot design x store r call).answer.reply.number ≡ 0
      → RunsOn design x store r call (packet_slot design x store r call)
  runs_on e = subst (RunsOn design x store r call) (sym (packet_accepts design x store r call none_stops)) (record {
    the_buffers = refl;
    asks-packet = asks-packet r call a.reply.arrival_number a.reply.request_number;
    comes-in = comes-in r call a.reply.arrival_number a.reply.request_number x.sizes.Q
        (record-facts x.sizes.Q r fine.record_keeps);
    still_keeps = record-holds x.sizes.Q (packet_accept design x store r call).packets
        (record-after-kept x.sizes.Q r call a.reply.arrival_number a.reply.request_number
        (record-facts x.sizes.Q r fine.record_keeps) (accepted-fits design x store r call fine));
  })
    where
      none_stops : packet_refusal design x store r call ≡ 0
      none_stops = sym (packet_refusal_told design x store r call) ∙ e

      fine : PacketAccepted design x store r call
      fine = packet_accepted design x store r call none_stops

      a : Answer
      a = slot design x store (byte_call r call)

pub packets_say : (design : Design) → PacketsSay design
packets_say design = record {
  record_stands = record_stands;
  stands_record = stands_record;
  stops_in_order = stops_in_order design;
  did_not_happen = λ x store r call. stopped_as_given design x store r call (packet_outcome design x store r call);
  hands_on = hands_on;
  runs_on = runs_on design;
}
