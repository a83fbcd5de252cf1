-- Why a packet leaves whole, over the ideal buffer alone: once its request is taken, each following slot asks for the
-- next of its bytes, and the ideal buffer gives it, since it is the first of what waits: `leaves_whole`. And a byte
-- request is always of such a packet: `asked-of_a_packet`.
use mathlib.Core.Path.{◌≡◌, refl, ap, sym, ◌∙◌, subst}
use mathlib.Core.Bool.{Bool}
use mathlib.Core.List.{List, [], ◌∷◌, ◌++◌, append_assoc, append-nil}
use mathlib.Core.Option.{Option, some, none}
use Prim.Native.Nat.{ℕ, zero, suc, ◌+◌, ◌<◌, ◌≤◌}
use native.Mathlib.Omega.{arith}
use lib.Dec.{eqb, leb}
use lib.ListN.{length, drop, take, get_or, get_elem?, length-drop}
use lib.Seq.{drop-append-le}
use borrow.Author.Tests.{eqb-true, leb-true, leb-false}
use Rattle.model.specs.Basics.{choose}
use Rattle.model.specs.State.{byte, values_of}
use Rattle.model.specs.Slot.{as_byte, arriving}
use Rattle.model.specs.Lists.{asks, request_at}
use Rattle.model.specs.Ideal.{waiting_with, next_byte_of}
use Rattle.packets.specs.PacketLists.{PacketStep, byte_steps, Packet, growing, ended, unended, packets_of}
use Rattle.packets.specs.PacketLists.{packet_requests_of, packet_request_at}
use Rattle.model.proofs.basics.Tests.{by_test, eqb_same, none_not_some, some_inj}
use Rattle.model.proofs.delay.Delay.{left_waiting, gives}
use Rattle.packets.proofs.Slots.{LengthOk}
use Rattle.packets.proofs.Layer.{Where, join_all, part_of, Waits, ask_for, rest_after, where_after, Turns}
use Rattle.packets.proofs.Layer.{rest_queue_after, asks-it, no_packet}

-- Slots of the ideal buffer, each of which takes its turn.
pub data TakeTurns : Where → (ℕ → List ℕ) → List PacketStep → Type 0 where
  no_turn : {g : Where} {w : ℕ → List ℕ} → TakeTurns g w []
  one_turn : {g : Where} {w : ℕ → List ℕ} {slot : PacketStep} {slots : List PacketStep}
      → Waits g w → Turns g slot → TakeTurns (where_after g slot) (left_waiting w slot.step) slots
      → TakeTurns g w (slot ∷ slots)

-- A byte request takes the next byte of the packet.
record Given (g : Where) (w : ℕ → List ℕ) (slots : List PacketStep) (i : ℕ) : Type 0 where
  gives_it : get_or (gives w (byte_steps slots)) i none ≡ some (byte g.queue (get_or g.rest i 0))
  asked : request_at (byte_steps slots) i ≡ some g.queue
  alone : packet_request_at slots i ≡ none

module _ (g : Where) (w : ℕ → List ℕ) (slot : PacketStep) (v : ℕ) (vs : List ℕ) (e : g.rest ≡ v ∷ vs)
    (waits : Waits g w) (t : Turns g slot) where
  abbrev behind : List ℕ
  behind = join_all (g.whole g.queue) ++ part_of g.queue g.incoming

  front : w g.queue ≡ v ∷ (vs ++ behind)
  front =
      waits g.queue
      ∙ ap (λ (b : Bool). choose b g.rest [] ++ behind) (eqb_same g.queue)
      ∙ ap (λ (l : List ℕ). l ++ behind) e

  abbrev came : List ℕ
  came = values_of g.queue (arriving slot.step.arrival)

  given-first : (slots : List PacketStep) → Given g w (slot ∷ slots) 0
  given-first slots = record {
    gives_it =
        ap (next_byte_of (waiting_with w slot.step.arrival)) (asks-it g slot v vs e t)
        ∙ ap (λ (l : List ℕ). as_byte g.queue (get_elem? (l ++ came) 0)) front
        ∙ ap (λ (l : List ℕ). some (byte g.queue (get_or l 0 0))) (sym e);
    asked = asks-it g slot v vs e t;
    alone = no_packet g slot v vs e t;
  }

  same_queue : (where_after g slot).queue ≡ g.queue
  same_queue = ap (rest_queue_after g) (no_packet g slot v vs e t)

  one_less : (where_after g slot).rest ≡ vs
  one_less = ap (rest_after g) (no_packet g slot v vs e t) ∙ ap (drop 1) e

rest_given : {g : Where} {w : ℕ → List ℕ} {slots : List PacketStep} → TakeTurns g w slots
    → (i : ℕ) → i < length g.rest → i < length slots → Given g w slots i
rest_given no_turn i l m = absurd (omega arith)
rest_given (one_turn {g = g} {w = w} {slot = slot} {slots = slots} waits t layer) i l m =
    go g.rest refl i l m (λ j k n. rest_given layer j k n)
  where
    go : (r : List ℕ) → g.rest ≡ r → (i : ℕ) → i < length r → i < length (slot ∷ slots)
        → ((j : ℕ) → j < length (where_after g slot).rest → j < length slots
        → Given (where_after g slot) (left_waiting w slot.step) slots j)
        → Given g w (slot ∷ slots) i
    go [] e i l m on = absurd (omega arith)
    go (v ∷ vs) e zero l m on = given-first g w slot v vs e waits t slots
    go (v ∷ vs) e (suc i) l m on =
        let less = one_less g w slot v vs e waits t in
        let h = on i (omega (arith, ap length less)) (omega arith) in record {
          gives_it = h.gives_it
              ∙ ap (λ (q : ℕ). some (byte q (get_or (where_after g slot).rest i 0))) (same_queue g w slot v vs e waits t)
              ∙ ap (λ (l : List ℕ). some (byte g.queue (get_or l i 0))) less
              ∙ ap (λ (l : List ℕ). some (byte g.queue (get_or l (suc i) 0))) (sym e);
          asked = h.asked ∙ ap some (same_queue g w slot v vs e waits t);
          alone = h.alone;
        }

-- The nth packet of a queue, of those that stood and those that came in these slots.
abbrev pub nth_packet : Where → List PacketStep → ℕ → ℕ → Option (List ℕ)
nth_packet g slots t q =
    get_elem? (g.whole q ++ packets_of q g.incoming (take t slots)) (packet_requests_of q (take t slots))

nth_drop : {A : Type 0} (n i : ℕ) (l : List A) → get_elem? (drop n l) i ≡ get_elem? l (n + i)
nth_drop zero i l = ap (get_elem? l) (let e : i ≡ 0 + i = omega arith in e)
nth_drop (suc n) i [] = refl
nth_drop (suc n) i (x ∷ l) = nth_drop n i l ∙ ap (get_elem? (x ∷ l)) (let e : suc (n + i) ≡ suc n + i = omega arith in e)

pub asks-few : (g : Where) (slot : PacketStep) (q : ℕ) → Turns g slot → asks q slot.request ≤ length (g.whole q)
asks-few g slot q t = go slot.request refl
  where
    go : (r : Option ℕ) → slot.request ≡ r → asks q r ≤ length (g.whole q)
    go none e = omega arith
    go (some p) e =
        by_test (eqb p q)
        (λ u. rw u (subst (λ (n : ℕ). 1 ≤ length (g.whole n)) (eqb-true p q u) (t.stands p e)))
        (λ u. rw u (omega arith))

-- It is the same packet, seen a slot earlier.
packet_stays : (g : Where) (slot : PacketStep) (slots : List PacketStep) (t q : ℕ) → Turns g slot
    → nth_packet g (slot ∷ slots) (suc t) q ≡ nth_packet (where_after g slot) slots t q
packet_stays g slot slots t q turns =
    sym (nth_drop k n (g.whole q ++ (ended q grown ++ later)))
    ∙ ap (λ (l : List (List ℕ)). get_elem? l n)
    (drop-append-le k (g.whole q) (ended q grown ++ later) (asks-few g slot q turns)
    ∙ sym (append_assoc (drop k (g.whole q)) (ended q grown) later))
  where
    grown : Option Packet
    grown = growing g.incoming slot.came

    later : List (List ℕ)
    later = packets_of q (unended grown) (take t slots)

    k : ℕ
    k = asks q slot.request

    n : ℕ
    n = packet_requests_of q (take t slots)

-- And the one that a request takes is the first that stands.
packet_first : (g : Where) (slot : PacketStep) (slots : List PacketStep) (q : ℕ) → 1 ≤ length (g.whole q)
    → nth_packet g (slot ∷ slots) 0 q ≡ some (get_or (g.whole q) 0 [])
packet_first g slot slots q h =
    ap (λ (l : List (List ℕ)). get_elem? l 0) (append-nil (g.whole q)) ∙ first_there (g.whole q) h
  where
    first_there : (l : List (List ℕ)) → 1 ≤ length l → get_elem? l 0 ≡ some (get_or l 0 [])
    first_there [] h = absurd (omega arith)
    first_there (x ∷ l) h = refl

-- The packet that slot t asks for.
pub record Leaves (g : Where) (w : ℕ → List ℕ) (slots : List PacketStep) (t q : ℕ) : Type 0 where
  pub bytes : List ℕ
  pub packet_is : nth_packet g slots t q ≡ some bytes
  pub in_range : LengthOk (length bytes)
  pub gives_them : (i : ℕ) → i < length bytes → t + 1 + i < length slots
      → get_or (gives w (byte_steps slots)) (t + 1 + i) none ≡ some (byte q (get_or bytes i 0))
  pub asked : (i : ℕ) → i < length bytes → t + 1 + i < length slots → request_at (byte_steps slots) (t + 1 + i) ≡ some q
  pub alone : (i : ℕ) → i < length bytes → t + 1 + i < length slots → packet_request_at slots (t + 1 + i) ≡ none

pub leaves_whole : {g : Where} {w : ℕ → List ℕ} {slots : List PacketStep} → TakeTurns g w slots
    → (t q : ℕ) → packet_request_at slots t ≡ some q → Leaves g w slots t q
leaves_whole no_turn t q e = absurd (none_not_some q e)
leaves_whole (one_turn {g = g} {w = w} {slot = slot} {slots = slots} waits turns layer) zero q e = record {
  bytes = first;
  packet_is = packet_first g slot slots q (turns.stands q e);
  in_range = turns.size_ok q e;
  gives_them = λ i l m. ap (λ (k : ℕ). get_or (gives w (byte_steps (slot ∷ slots))) k none) (one_on i)
      ∙ (given i l m).gives_it
      ∙ ap (λ (p : ℕ). some (byte p (get_or (where_after g slot).rest i 0))) q_is
      ∙ ap (λ (b : List ℕ). some (byte q (get_or b i 0))) r_is;
  asked = λ i l m. ap (request_at (byte_steps (slot ∷ slots))) (one_on i) ∙ (given i l m).asked ∙ ap some q_is;
  alone = λ i l m. ap (packet_request_at (slot ∷ slots)) (one_on i) ∙ (given i l m).alone;
}
  where
    first : List ℕ
    first = get_or (g.whole q) 0 []

    q_is : (where_after g slot).queue ≡ q
    q_is = ap (rest_queue_after g) e

    r_is : (where_after g slot).rest ≡ first
    r_is = ap (rest_after g) e

    given : (i : ℕ) → i < length first → 0 + 1 + i < length (slot ∷ slots)
        → Given (where_after g slot) (left_waiting w slot.step) slots i
    given i l m = rest_given layer i (omega (arith, l, ap length r_is)) (omega (arith, m))

    one_on : (i : ℕ) → 0 + 1 + i ≡ suc i
    one_on i = omega arith
leaves_whole (one_turn {g = g} {w = w} {slot = slot} {slots = slots} waits turns layer) (suc t) q e =
    let h = leaves_whole layer t q e in record {
      bytes = h.bytes;
      packet_is = packet_stays g slot slots t q turns ∙ h.packet_is;
      in_range = h.in_range;
      gives_them = λ i l m. ap (λ (k : ℕ). get_or (gives w (byte_steps (slot ∷ slots))) k none) (one_on i)
          ∙ h.gives_them i l (omega (arith, m));
      asked = λ i l m. ap (request_at (byte_steps (slot ∷ slots))) (one_on i) ∙ h.asked i l (omega (arith, m));
      alone = λ i l m. ap (packet_request_at (slot ∷ slots)) (one_on i) ∙ h.alone i l (omega (arith, m));
    }
  where
    one_on : (i : ℕ) → suc t + 1 + i ≡ suc (t + 1 + i)
    one_on i = omega arith

-- Past the last slot there is no request.
pub no_request_past : (slots : List PacketStep) (t : ℕ) → length slots ≤ t → packet_request_at slots t ≡ none
no_request_past [] t h = refl
no_request_past (slot ∷ slots) zero h = absurd (omega arith)
no_request_past (slot ∷ slots) (suc t) h = no_request_past slots t (omega arith)

asked-within : (slots : List PacketStep) (t q : ℕ) → request_at (byte_steps slots) t ≡ some q → t < length slots
asked-within [] t q e = absurd (none_not_some q e)
asked-within (slot ∷ slots) zero q e = omega arith
asked-within (slot ∷ slots) (suc t) q e = omega (arith, asked-within slots t q e)

-- A byte request, once nothing is left of what stood first, is of a packet that was asked for, and of a byte of it.
pub record AskedOf (g : Where) (slots : List PacketStep) (t q : ℕ) : Type 0 where
  pub since : ℕ
  pub place : ℕ
  pub bytes : List ℕ
  pub then_is : since + 1 + place ≡ t
  pub asked-then : packet_request_at slots since ≡ some q
  pub packet_is : nth_packet g slots since q ≡ some bytes
  pub place_in : place < length bytes

module _ (g : Where) (w : ℕ → List ℕ) (slot : PacketStep) (slots : List PacketStep) (turns : Turns g slot)
    (layer : TakeTurns (where_after g slot) (left_waiting w slot.step) slots) (t q : ℕ)
    (e : request_at (byte_steps slots) t ≡ some q) where
  a-slot_earlier : AskedOf (where_after g slot) slots t q → AskedOf g (slot ∷ slots) (suc t) q
  a-slot_earlier h = record {
    since = suc h.since;
    place = h.place;
    bytes = h.bytes;
    then_is = omega (arith, h.then_is);
    asked-then = h.asked-then;
    packet_is = packet_stays g slot slots h.since q turns ∙ h.packet_is;
    place_in = h.place_in;
  }

  asked-just_now : (p : ℕ) → slot.request ≡ some p → t < length (where_after g slot).rest
      → AskedOf g (slot ∷ slots) (suc t) q
  asked-just_now p f l = record {
    since = 0;
    place = t;
    bytes = get_or (g.whole q) 0 [];
    then_is = omega arith;
    asked-then = f ∙ ap some same;
    packet_is = packet_first g slot slots q (turns.stands q (f ∙ ap some same));
    place_in = omega (arith, l, ap length (ap (rest_after g) (f ∙ ap some same)));
  }
    where
      same : p ≡ q
      same =
          ap (rest_queue_after g) (sym f)
          ∙ some_inj (where_after g slot).queue q (sym (rest_given layer t l (asked-within slots t q e)).asked ∙ e)

pub asked-of_a_packet : {g : Where} {w : ℕ → List ℕ} {slots : List PacketStep} → TakeTurns g w slots
    → (t q : ℕ) → length g.rest ≤ t → request_at (byte_steps slots) t ≡ some q → AskedOf g slots t q
asked-of_a_packet no_turn t q h e = absurd (none_not_some q e)
asked-of_a_packet (one_turn {g = g} {w = w} {slot = slot} {slots = slots} waits turns layer) zero q h e =
    absurd (go g.rest h (sym turns.asks_is ∙ e))
  where
    go : (l : List ℕ) → length l ≤ 0 → ask_for g.queue l ≡ some q → ⊥
    go [] h f = none_not_some q f
    go (v ∷ vs) h f = omega arith
asked-of_a_packet (one_turn {g = g} {w = w} {slot = slot} {slots = slots} waits turns layer) (suc t) q h e =
    go slot.request refl (λ k. asked-of_a_packet layer t q k e)
  where
    go : (r : Option ℕ) → slot.request ≡ r
        → (length (where_after g slot).rest ≤ t → AskedOf (where_after g slot) slots t q)
        → AskedOf g (slot ∷ slots) (suc t) q
    go none f on =
        a-slot_earlier g w slot slots turns layer t q e
        (on (omega (arith, ap (λ (r : Option ℕ). length (rest_after g r)) f, length-drop 1 g.rest)))
    go (some p) f on =
        by_test (leb (length (where_after g slot).rest) t)
        (λ u. a-slot_earlier g w slot slots turns layer t q e (on (leb-true (length (where_after g slot).rest) t u)))
        (λ u. asked-just_now g w slot slots turns layer t q e p f (leb-false (length (where_after g slot).rest) t u))
