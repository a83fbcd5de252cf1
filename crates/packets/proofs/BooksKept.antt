-- An accepted slot of the layer takes its turn over the ideal buffer, `slot-turns`, and leaves the books as they should
-- be, `books_kept`: what the record notes of the slot is what became of the packets, a queue stores no more than its
-- arrival, and the ideal buffer is left as the ideal slot leaves it.
use mathlib.Core.Path.{◌≡◌, refl, ap, sym, ◌∙◌, fun_ext, subst}
use mathlib.Core.Bool.{Bool, true, false}
use mathlib.Core.List.{List, [], ◌∷◌, ◌++◌, map}
use mathlib.Core.Option.{Option, some, none}
use Prim.Native.Nat.{ℕ, ◌+◌, ◌*◌, ◌≤◌}
use native.Mathlib.Omega.{arith}
use lib.Dec.{eqb, ltb}
use lib.ListN.{length, drop, get_or, length-drop, length-map}
use borrow.Author.Tests.{eqb-false, ltb-false, lt-ltb, le-ltb, ne_eqb, not-false}
use Rattle.model.specs.Basics.{choose}
use Rattle.model.specs.Sizes.{Design}
use Rattle.model.specs.State.{Byte, State, count_of}
use Rattle.model.specs.Slot.{Call, arriving, halves_taken, Answer, carried_out, slot}
use Rattle.model.specs.Lists.{asks, taken}
use Rattle.model.specs.Ideal.{Ideal, waiting_with, stands_for, IsIdealSlot}
use Rattle.packets.specs.Packets.{Coming, coming, PacketRecord, length_ok, PacketArrival, start, next, PacketCall}
use Rattle.packets.specs.Packets.{byte_in, byte_asked, byte_call, length_wrong, comes, no_place, free_store, no_room}
use Rattle.packets.specs.Packets.{packet_drops, packet_taken, grown, is_whole, entering, asked_after, left_after}
use Rattle.packets.specs.Packets.{record_after, packet_accept}
use Rattle.packets.specs.PacketLists.{PacketStep, packet_step, growing, ended, unended}
use Rattle.model.proofs.basics.Tests.{by_test, some_inj, none_not_some, true_not_false}
use Rattle.model.proofs.one_slot.Stored.{stored, stored_after}
use Rattle.model.proofs.delay.Delay.{left_waiting}
use Rattle.model.proofs.delay.IdealSlot.{accepted-is_ideal}
use Rattle.packets.proofs.Slots.{LengthOk, PacketAccepted, length-facts}
use Rattle.packets.proofs.Kept.{grows, CallFits, taken-request_is, record-after-kept, accepted-fits}
use Rattle.packets.proofs.Layer.{Where, Waits, brings, MayCome, ask_for, rest_after, rest_queue_after, after_taking}
use Rattle.packets.proofs.Layer.{where_after, Turns, waits_on}
use Rattle.packets.proofs.Books.{Books, drops_nothing, whole_accepted, carried_whole}
use Rattle.packets.proofs.Notes.{coming_of, lengths_append, lengths_drop, first_length, first_ok, none_left}
use Rattle.packets.proofs.Notes.{note_comes, note_brings, note_grows, note_ends, note_enters}

module _ (design : Design) (x : State) (store : List ℕ) (r : PacketRecord) (call : PacketCall) (g : Where)
    (cells_ok : 1 ≤ design.cell_count x.sizes)
    (books : Books x store r g) (f : PacketAccepted design x store r call) where
  abbrev bytes : Call
  bytes = byte_call r call

  abbrev p : PacketStep
  p = packet_step x store r call (packet_accept design x store r call)

  abbrev request : Option ℕ
  request = packet_taken r call.request

  -- What the slot took: all of it.
  answered : slot design x store bytes ≡ carried_out 0 0 x store bytes
  answered = carried_whole design x store r call g books f

  came_is : p.came ≡ call.arrival
  came_is = ap (λ (a : Answer). taken (a.reply.number + a.reply.arrival_number) call.arrival) answered

  wanted_is : p.wanted ≡ call.request
  wanted_is = ap (λ (a : Answer). taken a.reply.number call.request) answered

  request-is : p.request ≡ request
  request-is = ap (λ (a : Answer). taken a.reply.number request) answered

  step_arrival : p.step.arrival ≡ byte_in r.incoming call.arrival
  step_arrival =
      ap (λ (a : Answer). taken a.reply.number (halves_taken x bytes).arrival) answered
      ∙ ap (λ (c : Call). c.arrival) (drops_nothing design x store r call g books f)

  step_request : p.step.request ≡ byte_asked r
  step_request =
      ap (λ (a : Answer). taken a.reply.number (halves_taken x bytes).request) answered
      ∙ ap (λ (c : Call). c.request) (drops_nothing design x store r call g books f)

  -- Its turn.
  may_come : MayCome g.incoming call.arrival
  may_come = go call.arrival f.place_there
    where
      go : (a : Option PacketArrival) → no_place r a ≡ false → MayCome g.incoming a
      go none e = tt
      go (some (start q n v)) e =
          note_comes g.incoming (ap comes (sym books.coming_is)
          ∙ by_test (comes r.incoming)
          (λ t. absurd (true_not_false true refl (rw t at e)))
          (λ t. t))
      go (some (next v)) e = tt

  asks-next : byte_asked r ≡ ask_for g.queue g.rest
  asks-next =
      ap (λ (n : ℕ). choose (ltb 0 n) (some r.asked) none) books.left_is
      ∙ go g.rest
      ∙ ap (λ (q : ℕ). ask_for q g.rest) books.asked_is
    where
      go : (l : List ℕ) → choose (ltb 0 (length l)) (some r.asked) none ≡ ask_for r.asked l
      go [] = refl
      go (v ∷ vs) =
          ap (λ (t : Bool). choose t (some r.asked) none) (lt-ltb 0 (length (v ∷ vs)) (omega arith))

  -- A packet request that was taken: no byte request was left, and its list has a length.
  not-dropped : (q : ℕ) → request ≡ some q → packet_drops r (some q) ≡ false
  not-dropped q e =
      by_test (packet_drops r call.request)
      (λ t. absurd (none_not_some q (rw t at e)))
      (λ t. ap (packet_drops r) (sym (taken-request_is r call.request q e)) ∙ t)

  nothing_left : (q : ℕ) → request ≡ some q → r.left ≡ 0
  nothing_left q e =
      by_test (ltb 0 r.left)
      (λ t. absurd (true_not_false true refl (rw t at (not-dropped q e))))
      (λ t. omega (arith, ltb-false 0 r.left t))

  one_listed : (q : ℕ) → request ≡ some q → 1 ≤ length (r.lengths q)
  one_listed q e =
      by_test (ltb 0 r.left)
      (λ t. absurd (true_not_false true refl (rw t at (not-dropped q e))))
      (λ t. let n = eqb-false (length (r.lengths q)) 0 (rw t at (not-dropped q e)) in omega (arith, n))

  fits : CallFits x.sizes.Q r call
  fits = accepted-fits design x store r call f

  -- With nothing left and a packet there, a packet request is taken.
  taken-now : (q : ℕ) → g.rest ≡ [] → 1 ≤ length (g.whole q) → packet_taken r (some q) ≡ some q
  taken-now q e l =
      rw (
        le-ltb 0 r.left (omega (arith, books.left_is, ap length e)),
        ne_eqb (length (r.lengths q)) 0 (λ z. some_listed z),
      )
    where
      some_listed : length (r.lengths q) ≡ 0 → ⊥
      some_listed z =
          omega (arith, z, l, ap length (books.lengths_are q), length-map (g.whole q) (length {A = ℕ}))

  pub slot-turns : Turns g p
  slot-turns = record {
    may_come = subst (MayCome g.incoming) (sym came_is) may_come;
    byte-is =
        step_arrival
        ∙ ap (λ (o : Option Coming). byte_in o call.arrival) books.coming_is
        ∙ note_brings g.incoming call.arrival
        ∙ ap (brings g.incoming) (sym came_is);
    asks_is = step_request ∙ asks-next;
    alone = λ q e. none_left g.rest (sym books.left_is ∙ nothing_left q (sym request-is ∙ e));
    stands = λ q e. omega (
      arith,
      one_listed q (sym request-is ∙ e),
      ap length (books.lengths_are q),
      length-map (g.whole q) (length {A = ℕ}),
    );
    size_ok = λ q e. subst LengthOk
        (ap (λ (ns : List ℕ). get_or ns 0 0) (books.lengths_are q) ∙ first_length (g.whole q))
        (first_ok (r.lengths q) (one_listed q (sym request-is ∙ e))
        (books.record_keeps.lengths_ok q
        (fits.request-below q (taken-request_is r call.request q (sym request-is ∙ e)))));
    once_in = λ q e none_rest one.
        request-is ∙ ap (packet_taken r) (sym wanted_is ∙ e) ∙ taken-now q none_rest one;
  }

  -- The books after it.
  coming-grows : grown r.incoming call.arrival ≡ coming_of (growing g.incoming call.arrival)
  coming-grows =
      ap (λ (o : Option Coming). grown o call.arrival) books.coming_is ∙ note_grows g.incoming call.arrival

  grown-few : (c : Coming) → coming_of (growing g.incoming call.arrival) ≡ some c → c.bytes_in ≤ c.size
  grown-few c e =
      (grows x.sizes.Q r books.record_keeps call.arrival fits.start_below f.length_right
      f.place_there c (coming-grows ∙ e)).bytes_few

  lengths_so : (q : ℕ)
      → drop (asks q request) (r.lengths q) ++ entering q (grown r.incoming call.arrival)
      ≡ map length (drop (asks q request) (g.whole q) ++ ended q (growing g.incoming call.arrival))
  lengths_so q =
      ap (λ (l : List ℕ). drop (asks q request) l ++ entering q (grown r.incoming call.arrival))
      (books.lengths_are q)
      ∙ ap (λ (l : List ℕ). drop (asks q request) (map length (g.whole q)) ++ l)
      (ap (entering q) coming-grows ∙ note_enters q (growing g.incoming call.arrival) grown-few)
      ∙ ap (λ (l : List ℕ). l ++ map length (ended q (growing g.incoming call.arrival)))
      (sym (lengths_drop (asks q request) (g.whole q)))
      ∙ sym (lengths_append (drop (asks q request) (g.whole q)) (ended q (growing g.incoming call.arrival)))

  left_so : (o : Option ℕ) → left_after r o 0 ≡ length (rest_after g o)
  left_so none = omega (arith, books.left_is, length-drop 1 g.rest)
  left_so (some q) = ap (λ (ns : List ℕ). get_or ns 0 0) (books.lengths_are q) ∙ first_length (g.whole q)

  asked-so : (o : Option ℕ) → asked_after r o ≡ rest_queue_after g o
  asked-so none = books.asked_is
  asked-so (some q) = refl

  coming-so : choose (is_whole (grown r.incoming call.arrival)) none (grown r.incoming call.arrival)
      ≡ coming_of (unended (growing g.incoming call.arrival))
  coming-so =
      ap (λ (o : Option Coming). choose (is_whole o) none o) coming-grows
      ∙ note_ends (growing g.incoming call.arrival)

  abbrev next_state : State
  next_state = (carried_out 0 0 x store bytes).state

  abbrev next_store_lem : List ℕ
  next_store_lem = (carried_out 0 0 x store bytes).store

  there : where_after g p ≡ after_taking g call.arrival request
  there =
      ap (λ (a : Option PacketArrival). after_taking g a p.request) came_is
      ∙ ap (after_taking g call.arrival) request-is

  left-waits : (q : ℕ) → (stands_for next_state next_store_lem).waiting q
      ≡ left_waiting (stands_for x store).waiting p.step q
  left-waits q =
      ap (λ (i : Ideal). i.waiting q) ideal.leaves
      ∙ sym (ap (λ (a : Option Byte). drop (asks q p.step.request) (waiting_with (stands_for x store).waiting a q))
      step_arrival
      ∙ ap (λ (o : Option ℕ). drop (asks q o) (waiting_with (stands_for x store).waiting bytes.arrival q))
      step_request)
    where
      ideal : IsIdealSlot x store bytes (carried_out 0 0 x store bytes)
      ideal = accepted-is_ideal design x store bytes cells_ok (whole_accepted design x store r call g books f).judged

  waits_so : Waits (after_taking g call.arrival request) (stands_for next_state next_store_lem).waiting
  waits_so q =
      left-waits q
      ∙ subst (λ (h : Where). Waits h (left_waiting (stands_for x store).waiting p.step)) there
      (waits_on g (stands_for x store).waiting p books.waits slot-turns) q

  -- What a queue has stored grows by the slot's byte at most.
  stores_few : (q : ℕ) → stored next_state q ≤ stored x q + count_of q (arriving bytes.arrival)
  stores_few q =
      omega (
        arith,
        stored_after design x store bytes cells_ok (whole_accepted design x store r call g books f).judged q,
      )

  one_byte : (q : ℕ) (a : Option Byte) → count_of q (arriving a) ≤ 1
  one_byte q none = omega arith
  one_byte q (some y) = by_test (eqb y.queue q) (λ t. rw t (omega arith)) (λ t. rw t (omega arith))

  abbrev Room : Coming → Type 0
  Room c = stored next_state c.queue + c.size ≤ x.sizes.K * x.sizes.b + c.bytes_in

  room_so : (c : Coming) → grown r.incoming call.arrival ≡ some c → Room c
  room_so c e = go r.incoming refl call.arrival f.length_right f.room_there (stores_few c.queue) e
    where
      stores_one : (q : ℕ) → stored next_state q ≤ stored x q + 1
      stores_one q = omega (arith, stores_few q, one_byte q bytes.arrival)

      go : (o : Option Coming) → r.incoming ≡ o → (a : Option PacketArrival) → length_wrong o a ≡ false
          → no_room x a ≡ false
          → stored next_state c.queue ≤ stored x c.queue + count_of c.queue (arriving (byte_in o a))
          → grown o a ≡ some c → Room c
      go o s none right room few h = omega (arith, books.room c (s ∙ h), few)
      go o s (some (start q n v)) right room few h =
          subst Room (some_inj (coming q n 1) c h)
          (omega (
            arith,
            stores_one q,
            ltb-false (free_store x q) n room,
            (length-facts n (not-false (length_ok n) right)).0,
          ))
      go none s (some (next v)) right room few h = absurd (none_not_some c h)
      go (some d) s (some (next v)) right room few h =
          subst Room (some_inj (coming d.queue d.size (d.bytes_in + 1)) c h)
          (omega (arith, stores_one d.queue, books.room d s))

  still_coming : (o : Option Coming) (c : Coming) → choose (is_whole o) none o ≡ some c → o ≡ some c
  still_coming o c e =
      by_test (is_whole o)
      (λ t. absurd (none_not_some c (rw t at e)))
      (λ t. rw t at e)

  books_so : Books next_state next_store_lem (record_after r call 0 0) (after_taking g call.arrival request)
  books_so = record {
    lengths_are = lengths_so;
    left_is = left_so request;
    asked_is = asked-so request;
    coming_is = coming-so;
    record_keeps = record-after-kept x.sizes.Q r call 0 0 books.record_keeps fits;
    waits = waits_so;
    room = λ c e. room_so c (still_coming (grown r.incoming call.arrival) c e);
  }

  -- As the slot of the layer leaves them.
  pub books_kept : Books (slot design x store bytes).state (slot design x store bytes).store
      (packet_accept design x store r call).packets (where_after g p)
  books_kept =
      subst (λ (h : Where). Books (slot design x store bytes).state (slot design x store bytes).store
      (packet_accept design x store r call).packets h) (sym there)
      (subst (λ (a : Answer). Books a.state a.store
      (record_after r call a.reply.arrival_number a.reply.request_number)
      (after_taking g call.arrival request)) (sym answered) books_so)

  -- No number of a half comes.
  pub never_5_or_7 : ((slot design x store bytes).reply.arrival_number ≡ 0)
      × ((slot design x store bytes).reply.request_number ≡ 0)
  never_5_or_7 =
      (ap (λ (a : Answer). a.reply.arrival_number) answered, ap (λ (a : Answer). a.reply.request_number) answered)

  -- And the ideal buffer is left as the slot's turn leaves it.
  pub waiting_left : (stands_for (slot design x store bytes).state (slot design x store bytes).store).waiting
      ≡ left_waiting (stands_for x store).waiting p.step
  waiting_left = fun_ext (λ q. ap (λ (a : Answer). (stands_for a.state a.store).waiting q) answered ∙ left-waits q)
