-- A slot's turn of a record, in the parts in which the code takes it: what is asked for, then the packet coming in. One
-- that is now whole has a place (`place_if_whole`), since the record after the slot keeps the rules and the list with it
-- is so no longer than 32. `turned` puts the parts together.
use mathlib.Core.Path.{◌≡◌, refl, ap, sym, ◌∙◌, subst, fun_ext}
use mathlib.Core.Bool.{true, false}
use mathlib.Core.List.{List, [], ◌∷◌}
use mathlib.Core.Option.{Option, some, none}
use Prim.Native.Nat.{ℕ, zero, suc, ◌+◌, ◌-◌, ◌≤◌, ◌<◌}
use native.Mathlib.Omega.{arith}
use lib.Dec.{eqb, ltb, leb}
use lib.ListN.{length, drop, get_or, length-append, length-drop}
use borrow.Author.Tests.{eqb-false}
use Rattle.model.specs.Lists.{asks}
use Rattle.model.proofs.basics.Tests.{by_test, eqb_same, some_inj, none_not_some, true_not_false}
use Rattle.packets.specs.Packets.{most_listed, Coming, coming, PacketRecord, PacketArrival, start, next}
use Rattle.packets.specs.Packets.{PacketCall, packet_drops, packet_taken, grown, is_whole, entering, incoming_after}
use Rattle.packets.specs.Packets.{record_after}
use Rattle.packets.proofs.Slots.{RecordKeeps, record-facts}
use Rattle.packets.proofs.Kept.{CallFits, record-after-kept}
use Rattle.packet_layout.specs.declared.PacketRegs.{PacketRegs}
use Rattle.packet_layout.specs.Views.{list_in, incoming_of, record_in}
use Rattle.packet_record.specs.Says.{TurnFacts, RequestFits}
use Rattle.packet_record.specs.Says.{AskSays, NotWhole, ComesAs, PlaceIfWhole, WholeSays}
use Rattle.packet_record.specs.Says.{TurnSays}
use Rattle.packet_record.proofs.Lists.{list_length}

-- The lists are no part of the packet coming in.
incoming_alike : (r s : PacketRecord) (call other : PacketCall) (n : ℕ) → r.incoming ≡ s.incoming
    → call.arrival ≡ other.arrival → incoming_after r call n ≡ incoming_after s other n
incoming_alike r s call other zero e f = rw (e, f)
incoming_alike r s call other (suc n) e f = e

-- A packet request that is not dropped: nothing is left of an earlier packet, and the list has one.
pub one_listed : (regs : PacketRegs) (lengths listed : List ℕ) (q : ℕ)
    → packet_drops (record_in regs lengths listed) (some q) ≡ false → 1 ≤ get_or listed q 0
one_listed regs lengths listed q not-dropped =
    by_test (ltb 0 regs.left)
    (λ t. absurd (true_not_false true refl (rw t at not-dropped)))
    (λ t. let e : eqb (length (list_in lengths listed q)) 0 ≡ false = rw t at not-dropped in
    let d = eqb-false (length (list_in lengths listed q)) 0 e in
    let same = list_length lengths listed q in
    omega (arith, d, same))

-- The facts of a slot, as the record's own laws take them.
module _ (r : PacketRecord) (call : PacketCall) (facts : TurnFacts r call) where
  pub kept : RecordKeeps facts.queues r
  kept = record-facts facts.queues r facts.record_keeps

  call_fits : CallFits facts.queues r call
  call_fits = record {
    start_below = facts.start_below;
    length_right = facts.length_right;
    place_there = facts.place_there;
    request-below = facts.request-below;
  }

  pub not-whole : NotWhole r.incoming
  not-whole c e = (kept.coming_keeps c e).not-whole

  -- The packet coming in, with this slot's byte or without it, is of a queue that there is.
  coming-below : (n : ℕ) (c : Coming) → incoming_after r call n ≡ some c → c.queue < facts.queues
  coming-below zero c e = go call.arrival refl e
    where
      go : (arrival : Option PacketArrival) → call.arrival ≡ arrival → grown r.incoming arrival ≡ some c
          → c.queue < facts.queues
      go none f g = (kept.coming_keeps c g).queue_below
      go (some (start q n v)) f g =
          subst (λ (d : Coming). d.queue < facts.queues) (some_inj (coming q n 1) c g) (facts.start_below q n v f)
      go (some (next v)) f g = further r.incoming refl g
        where
          further : (o : Option Coming) → r.incoming ≡ o → grown o (some (next v)) ≡ some c
              → c.queue < facts.queues
          further none h k = absurd (none_not_some c k)
          further (some d) h k =
              subst (λ (d : Coming). d.queue < facts.queues)
              (some_inj (coming d.queue d.size (d.bytes_in + 1)) c k)
              (kept.coming_keeps d h).queue_below
  coming-below (suc n) c e = (kept.coming_keeps c e).queue_below

  -- No list of a queue below Q is over 32.
  short : (p : ℕ) → p < facts.queues → length (r.lengths p) ≤ most_listed
  short p l = omega (arith, kept.lists_short p l)

  -- A whole packet has a place, whichever packet request was taken before.
  module _ (arrival_number request_number : ℕ) (lengths' listed' : List ℕ)
      (lists_are : (p : ℕ) → list_in lengths' listed' p
      ≡ drop (asks p (packet_taken r call.request)) (r.lengths p)) where
    abbrev after : PacketRecord
    after = record_after r call arrival_number request_number

    count_is : (p : ℕ) → get_or listed' p 0 ≡ length (r.lengths p) - asks p (packet_taken r call.request)
    count_is p =
        sym (list_length lengths' listed' p)
        ∙ rw (lists_are p) (length-drop (asks p (packet_taken r call.request)) (r.lengths p))

    pub place_if_whole : (o : Option Coming) → incoming_after r call arrival_number ≡ o → PlaceIfWhole listed' o
    place_if_whole o f c e whole = record {
      queue_below = omega (arith, below, facts.queues_few);
      lists_short = λ p l. omega (arith, count_is p, short p (omega (arith, below)));
      place_there = room;
    }
      where
        is_some : incoming_after r call arrival_number ≡ some c
        is_some = f ∙ e

        below : c.queue < facts.queues
        below = coming-below arrival_number c is_some

        enters : entering c.queue (incoming_after r call arrival_number) ≡ c.size ∷ []
        enters =
            let w : leb c.size c.bytes_in ≡ true = ap is_whole (sym e) ∙ whole in
            rw (is_some, w, eqb_same c.queue)

        room : get_or listed' c.queue 0 < most_listed
        room =
            let left = drop (asks c.queue (packet_taken r call.request)) (r.lengths c.queue) in
            omega (
              arith,
              count_is c.queue,
              (record-after-kept facts.queues r call arrival_number request_number kept call_fits
                  ).lists_short c.queue below,
              length-append left (entering c.queue (incoming_after r call arrival_number)),
              length-drop (asks c.queue (packet_taken r call.request)) (r.lengths c.queue),
              ap length enters,
            )

-- No count of a queue below Q is over 32 either.
pub request-fits : (regs : PacketRegs) (lengths listed : List ℕ) (call : PacketCall)
    → TurnFacts (record_in regs lengths listed) call → RequestFits listed call.request
request-fits regs lengths listed call facts = record {
  queues = facts.queues;
  queues_few = facts.queues_few;
  lists_short = λ p l. omega (
    arith,
    short (record_in regs lengths listed) call facts p l,
    list_length lengths listed p,
  );
  request-below = facts.request-below;
}

-- Records are the same where their fields are.
same-record : (r s : PacketRecord) → r.lengths ≡ s.lengths → r.incoming ≡ s.incoming → r.asked ≡ s.asked
    → r.left ≡ s.left → r ≡ s
same-record r s e f g h = rw (sym e, sym f, sym g, sym h)

-- The parts together: what was asked for, the packet coming in with its byte, and it in its list if it is whole.
module _ (regs : PacketRegs) (lengths listed : List ℕ) (call : PacketCall) (arrival_number request_number : ℕ)
    (asked : PacketRegs) (lengths' listed' : List ℕ)
    (ask : AskSays (record_in regs lengths listed) call.request request_number asked lengths' listed')
    (now : PacketRegs) (other : PacketCall) (same-arrival : other.arrival ≡ call.arrival)
    (grow : ComesAs (incoming_after (record_in asked [] []) other arrival_number) asked now) where
  abbrev before : PacketRecord
  before = record_in regs lengths listed

  pub comes-now : incoming_after before call arrival_number ≡ incoming_of now
  comes-now =
      incoming_alike before (record_in asked [] []) call other arrival_number
      (sym ask.incoming_same)
      (sym same-arrival)
      ∙ sym grow.incoming_is

  pub turned : (regs' : PacketRegs) (lengths'' listed'' : List ℕ)
      → WholeSays lengths' listed' now regs' lengths'' listed''
      → TurnSays (record_after before call arrival_number request_number) regs' lengths'' listed''
  turned regs' lengths'' listed'' whole = record {
    lists_long = whole.lists_long;
    record_is =
        same-record (record_in regs' lengths'' listed'') (record_after before call arrival_number request_number)
        (fun_ext (λ p. whole.lists_are p ∙ rw (ask.lists_are p, comes-now)))
        (whole.comes_as.incoming_is ∙ rw comes-now)
        (whole.comes_as.asked_same ∙ grow.asked_same ∙ ask.asked_is)
        (whole.comes_as.left-same ∙ grow.left-same ∙ ask.left_is);
  }
