-- A slot of the layer is stopped whole, or accepted with none of its refusals, since it answers the first of them and 0
-- where there is none: `packet_outcome`, with `PacketAccepted` for what is then known. And a record keeps its rules by
-- the test exactly where each of them holds: `record-facts` and `record-holds`; a fresh one does: `fresh-record_keeps`.
use mathlib.Core.Path.{◌≡◌, refl, ap, sym, ◌∙◌}
use mathlib.Core.Bool.{Bool, true, false, ◌&&◌, not}
use mathlib.Core.List.{List, [], ◌∷◌}
use mathlib.Core.Option.{Option, some, none}
use Prim.Native.Nat.{ℕ, zero, suc, ◌+◌, ◌<◌, ◌≤◌}
use native.Mathlib.Omega.{arith}
use lib.Dec.{ltb, leb}
use lib.ListN.{length, get_or}
use borrow.Author.Tests.{leb-true, le-leb, ltb-true, lt-ltb, not-false}
use Rattle.model.specs.Basics.{All, all_of}
use Rattle.model.specs.Sizes.{Design, store_bytes}
use Rattle.model.specs.State.{State, keeps}
use Rattle.model.specs.Slot.{arrival_unknown, request_unknown, slot}
use Rattle.packets.specs.Packets.{longest_packet, most_listed, Coming, PacketRecord, fresh_record, length_ok}
use Rattle.packets.specs.Packets.{coming_to, list_ok, coming_ok, record_rules, record_keeps, PacketCall, byte_call}
use Rattle.packets.specs.Packets.{length_wrong, no_place, no_room, packet_refusals, packet_refusal, PacketAnswer}
use Rattle.packets.specs.Packets.{packet_accept, packet_stop, packet_answer, packet_slot}
use Rattle.model.proofs.basics.Tests.{none_not_some, and_both, and_left, and_right, between-facts, between-holds}
use Rattle.model.proofs.basics.AllOf.{all_of_facts, all_of_holds, all_below_facts, all_below_holds, all_true_at}
use Rattle.model.proofs.basics.FirstRefusal.{no_refusal_at, when-zero}

-- The rules of a record, as facts.
abbrev pub LengthOk : ℕ → Type 0
LengthOk n = (1 ≤ n) × (n ≤ longest_packet)

pub record ComingKeeps (Q : ℕ) (c : Coming) : Type 0 where
  pub queue_below : c.queue < Q
  pub size_ok : LengthOk c.size
  pub not-whole : c.bytes_in < c.size

pub record RecordKeeps (Q : ℕ) (r : PacketRecord) : Type 0 where
  pub lists_short : (q : ℕ) → q < Q → length (r.lengths q) + coming_to q r.incoming ≤ most_listed
  pub lengths_ok : (q : ℕ) → q < Q → All LengthOk (r.lengths q)
  pub coming_keeps : (c : Coming) → r.incoming ≡ some c → ComingKeeps Q c
  pub left_few : r.left ≤ longest_packet
  pub asked-below : r.asked < Q

pub length-facts : (n : ℕ) → length_ok n ≡ true → LengthOk n
length-facts n e = between-facts 1 n longest_packet e

pub length-holds : (n : ℕ) → LengthOk n → length_ok n ≡ true
length-holds n h = between-holds 1 n longest_packet h.0 h.1

pub record-facts : (Q : ℕ) (r : PacketRecord) → record_keeps Q r ≡ true → RecordKeeps Q r
record-facts Q r e = record {
  lists_short = λ q l. leb-true (length (r.lengths q) + coming_to q r.incoming) most_listed
      (and_left (short q) (all_of length_ok (r.lengths q)) (list q l));
  lengths_ok = λ q l. all_of_facts length_ok LengthOk length-facts (r.lengths q)
      (and_right (short q) (all_of length_ok (r.lengths q)) (list q l));
  coming_keeps = λ c f. coming c (ap (coming_ok Q) (sym f) ∙ rule 1);
  left_few = leb-true r.left longest_packet (rule 2);
  asked-below = ltb-true r.asked Q (rule 3);
}
  where
    rule : (i : ℕ) → get_or (record_rules Q r) i true ≡ true
    rule i = all_true_at (record_rules Q r) i e

    short : ℕ → Bool
    short q = leb (length (r.lengths q) + coming_to q r.incoming) most_listed

    list : (q : ℕ) → q < Q → list_ok r q ≡ true
    list q l = all_below_facts Q (list_ok r) (rule 0) q l

    coming : (c : Coming) → coming_ok Q (some c) ≡ true → ComingKeeps Q c
    coming c f = record {
      queue_below = ltb-true c.queue Q (all_true_at tests 0 f);
      size_ok = length-facts c.size (all_true_at tests 1 f);
      not-whole = ltb-true c.bytes_in c.size (all_true_at tests 2 f);
    }
      where
        tests : List Bool
        tests = ltb c.queue Q ∷ length_ok c.size ∷ ltb c.bytes_in c.size ∷ []

pub record-holds : (Q : ℕ) (r : PacketRecord) → RecordKeeps Q r → record_keeps Q r ≡ true
record-holds Q r v =
    and_both _ _ (all_below_holds Q (list_ok r) (λ q l. and_both _ _
    (le-leb (length (r.lengths q) + coming_to q r.incoming) most_listed (v.lists_short q l))
    (all_of_holds length_ok LengthOk length-holds (r.lengths q) (v.lengths_ok q l))))
    (and_both _ _ (coming r.incoming v.coming_keeps)
    (and_both _ _ (le-leb r.left longest_packet v.left_few)
    (and_both _ _ (lt-ltb r.asked Q v.asked-below)
    refl)))
  where
    coming : (o : Option Coming) → ((c : Coming) → o ≡ some c → ComingKeeps Q c) → coming_ok Q o ≡ true
    coming none f = refl
    coming (some c) f =
        and_both _ _ (lt-ltb c.queue Q (f c refl).queue_below)
        (and_both _ _ (length-holds c.size (f c refl).size_ok)
        (and_both _ _ (lt-ltb c.bytes_in c.size (f c refl).not-whole) refl))

-- A slot without a refusal.
pub record PacketAccepted (design : Design) (x : State) (store : List ℕ) (r : PacketRecord) (call : PacketCall)
    : Type 0 where
  pub state_keeps : keeps design x ≡ true
  pub record_keeps : record_keeps x.sizes.Q r ≡ true
  pub store_long : ltb (length store) (store_bytes x.sizes) ≡ false
  pub byte-known : arrival_unknown x (byte_call r call).arrival ≡ false
  pub length_right : length_wrong r.incoming call.arrival ≡ false
  pub place_there : no_place r call.arrival ≡ false
  pub room_there : no_room x call.arrival ≡ false
  pub request-known : request_unknown x call.request ≡ false
  pub buffer_accepts : (slot design x store (byte_call r call)).reply.number ≡ 0

-- A slot is one of the two.
pub data StoppedOrAccepted (design : Design) (x : State) (store : List ℕ) (r : PacketRecord) (call : PacketCall)
    : PacketAnswer → Type 0 where
  was_stopped : (n : ℕ) → packet_refusal design x store r call ≡ suc n
      → StoppedOrAccepted design x store r call (packet_stop (suc n) x store r)
  was_accepted : PacketAccepted design x store r call
      → StoppedOrAccepted design x store r call (packet_accept design x store r call)

module _ (design : Design) (x : State) (store : List ℕ) (r : PacketRecord) (call : PacketCall) where
  pub packet_accepted : packet_refusal design x store r call ≡ 0 → PacketAccepted design x store r call
  packet_accepted e = record {
    state_keeps = and_left (keeps design x) (record_keeps x.sizes.Q r) both;
    record_keeps = and_right (keeps design x) (record_keeps x.sizes.Q r) both;
    store_long = when-zero _ 1 (none_at 1);
    byte-known = when-zero _ 3 (none_at 2);
    length_right = when-zero _ 19 (none_at 3);
    place_there = when-zero _ 20 (none_at 4);
    room_there = when-zero _ 21 (none_at 5);
    request-known = when-zero _ 5 (none_at 6);
    buffer_accepts = none_at 7;
  }
    where
      none_at : (i : ℕ) → get_or (packet_refusals design x store r call) i 0 ≡ 0
      none_at i = no_refusal_at (packet_refusals design x store r call) i e

      both : (keeps design x && record_keeps x.sizes.Q r) ≡ true
      both = not-false _ (when-zero (not (keeps design x && record_keeps x.sizes.Q r)) 2 (none_at 0))

  pub packet_outcome : StoppedOrAccepted design x store r call (packet_slot design x store r call)
  packet_outcome = go (packet_refusal design x store r call) refl
    where
      go : (n : ℕ) → packet_refusal design x store r call ≡ n
          → StoppedOrAccepted design x store r call (packet_answer n design x store r call)
      go zero e = was_accepted (packet_accepted e)
      go (suc n) e = was_stopped n e

  -- An accepted one answers what is accepted, and the number that any answers is its first refusal.
  pub packet_accepts : packet_refusal design x store r call ≡ 0
      → packet_slot design x store r call ≡ packet_accept design x store r call
  packet_accepts e = ap (λ (n : ℕ). packet_answer n design x store r call) e

  pub packet_refusal_told :
      (packet_slot design x store r call).answer.reply.number ≡ packet_refusal design x store r call
  packet_refusal_told = go (packet_refusal design x store r call) refl
    where
      go : (n : ℕ) → packet_refusal design x store r call ≡ n
          → (packet_answer n design x store r call).answer.reply.number ≡ n
      go zero e = (packet_accepted e).buffer_accepts
      go (suc n) e = refl

-- A fresh record keeps the rules, where there is a queue.
pub fresh-record_keeps : (Q : ℕ) → 1 ≤ Q → RecordKeeps Q fresh_record
fresh-record_keeps Q h = record {
  lists_short = λ q l. omega arith;
  lengths_ok = λ q l. tt;
  coming_keeps = λ c e. absurd (none_not_some c e);
  left_few = omega arith;
  asked-below = omega (arith, h);
}
