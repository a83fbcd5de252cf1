-- An accepted slot of the layer keeps the record's rules, whatever the numbers of the buffer's halves: a packet that
-- starts has a length in the range and a place in its list (20 and 21), one that goes on had them before, and what a
-- packet request takes is a listed length. `record-after-kept` says it of the record alone, `record_kept` of a slot.
use mathlib.Core.Path.{◌≡◌, refl, ap, sym, ◌∙◌, subst}
use mathlib.Core.Bool.{true, false, ◌&&◌}
use mathlib.Core.List.{List, [], ◌∷◌, ◌++◌}
use mathlib.Core.Option.{Option, some, none}
use Prim.Native.Nat.{ℕ, zero, suc, ◌+◌, ◌<◌, ◌≤◌}
use native.Mathlib.Omega.{arith}
use lib.Dec.{eqb, leb}
use lib.ListN.{length, drop, get_or, length-append, length-drop}
use borrow.Author.Tests.{eqb-true, leb-false, not-false}
use Rattle.model.specs.Basics.{choose, All}
use Rattle.model.specs.Sizes.{Design}
use Rattle.model.specs.State.{State, keeps}
use Rattle.model.specs.Slot.{arrival_unknown, request_unknown, Reply, slot}
use Rattle.model.specs.Lists.{asks}
use Rattle.packets.specs.Packets.{longest_packet, most_listed, Coming, coming, PacketRecord, length_ok, coming_to}
use Rattle.packets.specs.Packets.{record_keeps, PacketArrival, start, next, PacketCall, byte_in, byte_call}
use Rattle.packets.specs.Packets.{length_wrong, comes, no_place, packet_refusal, packet_drops, packet_taken, grown}
use Rattle.packets.specs.Packets.{is_whole, entering, incoming_after, asked_after, left_after, record_after}
use Rattle.packets.specs.Packets.{PacketAnswer, packet_accept, packet_slot}
use Rattle.model.proofs.basics.Tests.{by_test, eqb_same, some_inj, none_not_some, true_not_false}
use Rattle.model.proofs.basics.AllOf.{all_append}
use Rattle.packets.proofs.Slots.{LengthOk, ComingKeeps, RecordKeeps, PacketAccepted, length-facts, record-facts}
use Rattle.packets.proofs.Slots.{record-holds, packet_accepted, packet_accepts}

-- A packet request that was taken is the call's own, and of a queue that there is.
pub taken-request_is : (r : PacketRecord) (request : Option ℕ) (q : ℕ) → packet_taken r request ≡ some q
    → request ≡ some q
taken-request_is r request q e =
    by_test (packet_drops r request)
    (λ t. absurd (none_not_some q (rw t at e)))
    (λ t. rw t at e)

pub known_below : (x : State) (request : Option ℕ) (q : ℕ) → request_unknown x request ≡ false → request ≡ some q
    → q < x.sizes.Q
known_below x request q e s = leb-false x.sizes.Q q (ap (request_unknown x) (sym s) ∙ e)

-- The packet coming in with this slot's byte: it may be whole now, and its list has a place for it.
pub record Growing (Q : ℕ) (r : PacketRecord) (c : Coming) : Type 0 where
  pub queue_below : c.queue < Q
  pub size_ok : LengthOk c.size
  pub bytes_few : c.bytes_in ≤ c.size
  pub place_there : length (r.lengths c.queue) < most_listed

module _ (Q : ℕ) (r : PacketRecord) (kept : RecordKeeps Q r) where
  goes_on : (c : Coming) → r.incoming ≡ some c → Growing Q r c
  goes_on c e =
      let k = kept.coming_keeps c e in record {
        queue_below = k.queue_below;
        size_ok = k.size_ok;
        bytes_few = omega (arith, k.not-whole);
        place_there =
            omega (
              arith,
              kept.lists_short c.queue k.queue_below,
              ap (coming_to c.queue) e,
              let own : coming_to c.queue (some c) ≡ 1 = rw (eqb_same c.queue) in own,
            );
      }

  pub grows : (arrival : Option PacketArrival)
      → ((q n v : ℕ) → arrival ≡ some (start q n v) → q < Q)
      → length_wrong r.incoming arrival ≡ false → no_place r arrival ≡ false
      → (c : Coming) → grown r.incoming arrival ≡ some c → Growing Q r c
  grows none known right place c e = goes_on c e
  grows (some (start q n v)) known right place c e =
      subst (Growing Q r) (some_inj (coming q n 1) c e) (record {
        queue_below = known q n v refl;
        size_ok = size;
        bytes_few = size.0;
        place_there =
            by_test (comes r.incoming)
            (λ t. absurd (true_not_false true refl (rw t at place)))
            (λ t. leb-false most_listed (length (r.lengths q)) (rw t at place));
      })
    where
      size : LengthOk n
      size = length-facts n (not-false (length_ok n) right)
  grows (some (next v)) known right place c e = go r.incoming refl e
    where
      go : (o : Option Coming) → r.incoming ≡ o → grown o (some (next v)) ≡ some c → Growing Q r c
      go none f h = absurd (none_not_some c h)
      go (some d) f h =
          let k = kept.coming_keeps d f in
          subst (Growing Q r) (some_inj (coming d.queue d.size (d.bytes_in + 1)) c h) (record {
            queue_below = k.queue_below;
            size_ok = k.size_ok;
            bytes_few = omega (arith, k.not-whole);
            place_there = (goes_on d f).place_there;
          })

  -- The lists and the packet coming in, whichever came.
  module _ (c : Option Coming) (growing : (d : Coming) → c ≡ some d → Growing Q r d) (request : Option ℕ)
      (below : (q : ℕ) → request ≡ some q → q < Q) where
    abbrev list : ℕ → List ℕ
    list q = drop (asks q request) (r.lengths q) ++ entering q c

    list_short : (q : ℕ) → q < Q → length (list q) + coming_to q (choose (is_whole c) none c) ≤ most_listed
    list_short q l =
        omega (
          arith,
          length-append (drop (asks q request) (r.lengths q)) (entering q c),
          length-drop (asks q request) (r.lengths q),
          room c growing,
        )
      where
        room : (o : Option Coming) → ((d : Coming) → o ≡ some d → Growing Q r d)
            → length (r.lengths q) + length (entering q o) + coming_to q (choose (is_whole o) none o) ≤ most_listed
        room none f = omega (arith, kept.lists_short q l)
        room (some d) f =
            by_test (eqb d.queue q)
            (λ t. let place = subst (λ (p : ℕ). length (r.lengths p) < most_listed) (eqb-true d.queue q t)
            (f d refl).place_there in
            by_test (leb d.size d.bytes_in)
            (λ u. rw (u, t) (omega (arith, place)))
            (λ u. rw u (rw t (omega (arith, place)))))
            (λ t. by_test (leb d.size d.bytes_in)
            (λ u. rw (u, t) (omega (arith, kept.lists_short q l)))
            (λ u. rw u (rw t (omega (arith, kept.lists_short q l)))))

    drop-ok : (n : ℕ) (ns : List ℕ) → All LengthOk ns → All LengthOk (drop n ns)
    drop-ok zero ns h = h
    drop-ok (suc n) [] h = tt
    drop-ok (suc n) (m ∷ ns) h = drop-ok n ns h.1

    entering-ok : (q : ℕ) → All LengthOk (entering q c)
    entering-ok q = go c growing
      where
        go : (o : Option Coming) → ((d : Coming) → o ≡ some d → Growing Q r d) → All LengthOk (entering q o)
        go none f = tt
        go (some d) f =
            by_test (leb d.size d.bytes_in && eqb d.queue q)
            (λ t. rw t ((f d refl).size_ok, tt))
            (λ t. rw t tt)

    list_ok_lem : (q : ℕ) → q < Q → All LengthOk (list q)
    list_ok_lem q l =
        all_append LengthOk (drop (asks q request) (r.lengths q)) (entering q c)
        (drop-ok (asks q request) (r.lengths q) (kept.lengths_ok q l)) (entering-ok q)

    still_coming : (d : Coming) → choose (is_whole c) none c ≡ some d → ComingKeeps Q d
    still_coming d e = go c growing e
      where
        go : (o : Option Coming) → ((d : Coming) → o ≡ some d → Growing Q r d) → choose (is_whole o) none o ≡ some d
            → ComingKeeps Q d
        go none f h = absurd (none_not_some d h)
        go (some o) f h =
            by_test (leb o.size o.bytes_in)
            (λ t. absurd (none_not_some d (rw t at h)))
            (λ t. subst (ComingKeeps Q) (some_inj o d (rw t at h)) (record {
              queue_below = (f o refl).queue_below;
              size_ok = (f o refl).size_ok;
              not-whole = leb-false o.size o.bytes_in t;
            }))

    left-after_few : (n : ℕ) → left_after r request n ≤ longest_packet
    left-after_few n = go request below n
      where
        first_few : (ns : List ℕ) → All LengthOk ns → get_or ns 0 0 ≤ longest_packet
        first_few [] h = omega arith
        first_few (m ∷ ns) h = h.0.1

        go : (o : Option ℕ) → ((q : ℕ) → o ≡ some q → q < Q) → (n : ℕ) → left_after r o n ≤ longest_packet
        go none f zero = omega (arith, kept.left_few)
        go none f (suc n) = kept.left_few
        go (some q) f n = first_few (r.lengths q) (kept.lengths_ok q (f q refl))

    asked-after_below : asked_after r request < Q
    asked-after_below = go request below
      where
        go : (o : Option ℕ) → ((q : ℕ) → o ≡ some q → q < Q) → asked_after r o < Q
        go none f = kept.asked-below
        go (some q) f = f q refl

-- What is known of a call that a record takes: 4, 6, 20 and 21 let it pass.
pub record CallFits (Q : ℕ) (r : PacketRecord) (call : PacketCall) : Type 0 where
  pub start_below : (q n v : ℕ) → call.arrival ≡ some (start q n v) → q < Q
  pub length_right : length_wrong r.incoming call.arrival ≡ false
  pub place_there : no_place r call.arrival ≡ false
  pub request-below : (q : ℕ) → call.request ≡ some q → q < Q

pub record-after-kept : (Q : ℕ) (r : PacketRecord) (call : PacketCall) (arrival_number request_number : ℕ)
    → RecordKeeps Q r → CallFits Q r call → RecordKeeps Q (record_after r call arrival_number request_number)
record-after-kept Q r call arrival_number request_number kept fits = record {
  lists_short = list_short Q r kept c growing request below;
  lengths_ok = list_ok_lem Q r kept c growing request below;
  coming_keeps = still_coming Q r kept c growing request below;
  left_few = left-after_few Q r kept c growing request below request_number;
  asked-below = asked-after_below Q r kept c growing request below;
}
  where
    c : Option Coming
    c = incoming_after r call arrival_number

    request : Option ℕ
    request = packet_taken r call.request

    below : (q : ℕ) → request ≡ some q → q < Q
    below q e = fits.request-below q (taken-request_is r call.request q e)

    growing : (d : Coming) → c ≡ some d → Growing Q r d
    growing d e = go arrival_number e
      where
        go : (n : ℕ) → incoming_after r call n ≡ some d → Growing Q r d
        go zero f =
            grows Q r kept call.arrival fits.start_below fits.length_right fits.place_there d f
        go (suc n) f = goes_on Q r kept d f

-- An accepted slot's call is such a call.
pub accepted-fits : (design : Design) (x : State) (store : List ℕ) (r : PacketRecord) (call : PacketCall)
    → PacketAccepted design x store r call → CallFits x.sizes.Q r call
accepted-fits design x store r call f = record {
  start_below = λ q n v e. leb-false x.sizes.Q q
      (ap (λ (a : Option PacketArrival). arrival_unknown x (byte_in r.incoming a)) (sym e) ∙ f.byte-known);
  length_right = f.length_right;
  place_there = f.place_there;
  request-below = λ q e. known_below x call.request q f.request-known e;
}

pub record_kept : (design : Design) (x : State) (store : List ℕ) (r : PacketRecord) (call : PacketCall)
    → 1 ≤ design.cell_count x.sizes → keeps design x ≡ true → record_keeps x.sizes.Q r ≡ true
    → packet_refusal design x store r call ≡ 0
    → record_keeps x.sizes.Q (packet_slot design x store r call).packets ≡ true
record_kept design x store r call cells_ok keeps-rules kept_record e =
    ap (λ (a : PacketAnswer). record_keeps x.sizes.Q a.packets) (packet_accepts design x store r call e)
    ∙ record-holds x.sizes.Q (packet_accept design x store r call).packets
    (record-after-kept x.sizes.Q r call reply.arrival_number reply.request_number
    (record-facts x.sizes.Q r kept_record)
    (accepted-fits design x store r call (packet_accepted design x store r call e)))
  where
    reply : Reply
    reply = (slot design x store (byte_call r call)).reply
