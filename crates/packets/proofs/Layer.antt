-- Why a packet's bytes stay together, over the ideal buffer alone. What waits in a queue is, in this order: what is
-- left of the packet that is being asked for, the whole packets not yet asked for, and the packet coming in. A slot of
-- the layer keeps it so, since a byte request takes the first of what is left, and a packet request comes only where
-- nothing is left: `waits_on` says it.
use mathlib.Core.Path.{◌≡◌, refl, ap, sym, ◌∙◌, subst}
use mathlib.Core.List.{List, [], ◌∷◌, ◌++◌, append_assoc, append-nil}
use mathlib.Core.Option.{Option, some, none}
use Prim.Native.Nat.{ℕ, ◌≤◌}
use native.Mathlib.Omega.{arith}
use lib.Dec.{eqb}
use lib.ListN.{length, drop, get_or}
use borrow.Author.Tests.{eqb-true}
use Rattle.model.specs.Basics.{choose}
use Rattle.model.specs.State.{Byte, byte, values_of}
use Rattle.model.specs.Slot.{arriving}
use Rattle.model.specs.Lists.{asks}
use Rattle.model.specs.Ideal.{waiting_with}
use Rattle.packets.specs.Packets.{PacketArrival, start, next}
use Rattle.packets.specs.PacketLists.{PacketStep, Packet, growing, all_in, ended, unended}
use Rattle.model.proofs.basics.Tests.{by_test}
use Rattle.model.proofs.delay.Delay.{left_waiting}
use Rattle.packets.proofs.Slots.{LengthOk}

-- What of the packets is where: the queue of the packet that is being asked for and what is left of it; the whole
-- packets of each queue; the packet coming in.
pub record Where : Type 0 where
  pub queue : ℕ
  pub rest : List ℕ
  pub whole : ℕ → List (List ℕ)
  pub incoming : Option Packet

abbrev pub nowhere : Where
nowhere = record { queue = 0; rest = []; whole = λ q. []; incoming = none }

abbrev pub join_all : List (List ℕ) → List ℕ
join_all [] = []
join_all (p ∷ ps) = p ++ join_all ps

abbrev pub rest_of : Where → ℕ → List ℕ
rest_of g q = choose (eqb g.queue q) g.rest []

abbrev pub part_of : ℕ → Option Packet → List ℕ
part_of q none = []
part_of q (some p) = choose (eqb p.queue q) p.bytes []

abbrev pub Waits : Where → (ℕ → List ℕ) → Type 0
Waits g w = (q : ℕ) → w q ≡ rest_of g q ++ (join_all (g.whole q) ++ part_of q g.incoming)

-- The byte that a start or a next byte brings, and that a start comes only where no packet is coming in.
abbrev pub brings : Option Packet → Option PacketArrival → Option Byte
brings p none = none
brings p (some (start q n v)) = some (byte q v)
brings none (some (next v)) = none
brings (some p) (some (next v)) = some (byte p.queue v)

abbrev pub MayCome : Option Packet → Option PacketArrival → Type 0
MayCome p none = Unit {0}
MayCome p (some (start q n v)) = p ≡ none
MayCome p (some (next v)) = Unit {0}

-- The byte request of a slot, by what is left.
abbrev pub ask_for : ℕ → List ℕ → Option ℕ
ask_for q [] = none
ask_for q (v ∷ vs) = some q

-- What is where after a slot.
abbrev pub rest_after : Where → Option ℕ → List ℕ
rest_after g none = drop 1 g.rest
rest_after g (some q) = get_or (g.whole q) 0 []

abbrev pub rest_queue_after : Where → Option ℕ → ℕ
rest_queue_after g none = g.queue
rest_queue_after g (some q) = q

abbrev pub after_taking : Where → Option PacketArrival → Option ℕ → Where
after_taking g came request = record {
  queue = rest_queue_after g request;
  rest = rest_after g request;
  whole = λ q. drop (asks q request) (g.whole q) ++ ended q (growing g.incoming came);
  incoming = unended (growing g.incoming came);
}

abbrev pub where_after : Where → PacketStep → Where
where_after g slot = after_taking g slot.came slot.request

-- The slot takes its turn: its byte and its byte request are those of the packets, and a packet request is taken
-- exactly where nothing is left of an earlier one, and it is for a queue with a whole packet.
pub record Turns (g : Where) (slot : PacketStep) : Type 0 where
  pub may_come : MayCome g.incoming slot.came
  pub byte-is : slot.step.arrival ≡ brings g.incoming slot.came
  pub asks_is : slot.step.request ≡ ask_for g.queue g.rest
  pub alone : (q : ℕ) → slot.request ≡ some q → g.rest ≡ []
  pub stands : (q : ℕ) → slot.request ≡ some q → 1 ≤ length (g.whole q)
  pub size_ok : (q : ℕ) → slot.request ≡ some q → LengthOk (length (get_or (g.whole q) 0 []))
  pub once_in : (q : ℕ) → slot.wanted ≡ some q → g.rest ≡ [] → 1 ≤ length (g.whole q) → slot.request ≡ some q

-- While something is left: a byte request and no packet request.
module _ (g : Where) (slot : PacketStep) (v : ℕ) (vs : List ℕ) (e : g.rest ≡ v ∷ vs) (t : Turns g slot) where
  pub asks-it : slot.step.request ≡ some g.queue
  asks-it = t.asks_is ∙ ap (ask_for g.queue) e

  pub no_packet : slot.request ≡ none
  no_packet = go slot.request refl
    where
      go : (r : Option ℕ) → slot.request ≡ r → r ≡ none
      go none f = refl
      go (some q) f = absurd (let z : length (v ∷ vs) ≡ 0 = ap length (sym e ∙ t.alone q f) in omega (arith, z))

join_append : (ps qs : List (List ℕ)) → join_all (ps ++ qs) ≡ join_all ps ++ join_all qs
join_append [] qs = refl
join_append (p ∷ ps) qs =
    ap (λ (l : List ℕ). p ++ l) (join_append ps qs) ∙ sym (append_assoc p (join_all ps) (join_all qs))

-- The packet coming in, with the byte that came; where it is whole now, it joins the whole ones.
part_grows : (q : ℕ) (p : Option Packet) (came : Option PacketArrival) → MayCome p came
    → part_of q p ++ values_of q (arriving (brings p came)) ≡ part_of q (growing p came)
part_grows q p none h = append-nil (part_of q p)
part_grows q p (some (start k n v)) h = ap (λ (o : Option Packet). part_of q o ++ choose (eqb k q) (v ∷ []) []) h
part_grows q none (some (next v)) h = refl
part_grows q (some p) (some (next v)) h =
    by_test (eqb p.queue q)
    (λ t. rw t)
    (λ t. rw t)

part_ends : (q : ℕ) (p : Option Packet) → part_of q p ≡ join_all (ended q p) ++ part_of q (unended p)
part_ends q none = refl
part_ends q (some p) =
    by_test (all_in p)
    (λ t. by_test (eqb p.queue q)
    (λ u. rw (t, u) (sym (append-nil (p.bytes ++ []) ∙ append-nil p.bytes)))
    (λ u. rw (t, u)))
    (λ t. rw t)

-- Of one queue, through a slot.
module _ (g : Where) (w : ℕ → List ℕ) (slot : PacketStep) (waits : Waits g w) (t : Turns g slot) (q : ℕ) where
  abbrev grown : Option Packet
  grown = growing g.incoming slot.came

  abbrev came : List ℕ
  came = values_of q (arriving slot.step.arrival)

  abbrev new : List ℕ
  new = join_all (ended q grown) ++ part_of q (unended grown)

  -- All that waits with the slot's byte, in its order.
  with_byte : waiting_with w slot.step.arrival q ≡ rest_of g q ++ (join_all (g.whole q) ++ new)
  with_byte =
      ap (λ (l : List ℕ). l ++ came) (waits q)
      ∙ append_assoc (rest_of g q) (join_all (g.whole q) ++ part_of q g.incoming) came
      ∙ ap (λ (l : List ℕ). rest_of g q ++ l)
      (append_assoc (join_all (g.whole q)) (part_of q g.incoming) came
      ∙ ap (λ (l : List ℕ). join_all (g.whole q) ++ l)
      (ap (λ (a : Option Byte). part_of q g.incoming ++ values_of q (arriving a)) t.byte-is
      ∙ part_grows q g.incoming slot.came t.may_come
      ∙ part_ends q grown))

  joined-new : (ps : List (List ℕ)) → join_all ps ++ new ≡ join_all (ps ++ ended q grown) ++ part_of q (unended grown)
  joined-new ps =
      sym (append_assoc (join_all ps) (join_all (ended q grown)) (part_of q (unended grown)))
      ∙ ap (λ (l : List ℕ). l ++ part_of q (unended grown)) (sym (join_append ps (ended q grown)))

  -- What waits behind what is left, where this packet request was taken.
  abbrev behind : Option ℕ → List ℕ
  behind r = join_all (drop (asks q r) (g.whole q) ++ ended q grown) ++ part_of q (unended grown)

  abbrev in_order : Option ℕ → List ℕ
  in_order r = choose (eqb (rest_queue_after g r) q) (rest_after g r) [] ++ behind r

  abbrev Goal : Type 0
  Goal = left_waiting w slot.step q ≡ in_order slot.request

  -- A byte request, and no packet request.
  by_byte : (v : ℕ) (vs : List ℕ) → g.rest ≡ v ∷ vs → Goal
  by_byte v vs e =
      ap (λ (r : Option ℕ). drop (asks q r) (waiting_with w slot.step.arrival q)) (asks-it g slot v vs e t)
      ∙ ap (drop (asks q (some g.queue))) with_byte
      ∙ taken
      ∙ ap (λ (l : List ℕ). choose (eqb g.queue q) vs [] ++ l) (joined-new (g.whole q))
      ∙ ap (λ (l : List ℕ). choose (eqb g.queue q) (drop 1 l) [] ++ behind none) (sym e)
      ∙ ap in_order (sym (no_packet g slot v vs e t))
    where
      taken : drop (asks q (some g.queue)) (rest_of g q ++ (join_all (g.whole q) ++ new))
          ≡ choose (eqb g.queue q) vs [] ++ (join_all (g.whole q) ++ new)
      taken =
          by_test (eqb g.queue q)
          (λ u. rw u (ap (λ (l : List ℕ). drop 1 (l ++ (join_all (g.whole q) ++ new))) e))
          (λ u. rw u)

  -- No byte request: a packet request, or none.
  rest_none : g.rest ≡ [] → rest_of g q ≡ []
  rest_none e = by_test (eqb g.queue q) (λ u. rw u e) (λ u. rw u)

  by_packet : g.rest ≡ [] → Goal
  by_packet e =
      ap (λ (r : Option ℕ). drop (asks q r) (waiting_with w slot.step.arrival q))
      (t.asks_is ∙ ap (ask_for g.queue) e)
      ∙ with_byte
      ∙ ap (λ (l : List ℕ). l ++ (join_all (g.whole q) ++ new)) (rest_none e)
      ∙ joined-new (g.whole q)
      ∙ go slot.request refl
    where
      split : (ps : List (List ℕ)) → 1 ≤ length ps
          → join_all (ps ++ ended q grown) ++ part_of q (unended grown)
          ≡ get_or ps 0 [] ++ (join_all (drop 1 ps ++ ended q grown) ++ part_of q (unended grown))
      split [] h = absurd (omega arith)
      split (x ∷ ps) h = append_assoc x (join_all (ps ++ ended q grown)) (part_of q (unended grown))

      go : (r : Option ℕ) → slot.request ≡ r → behind none ≡ in_order r
      go none f =
          by_test (eqb g.queue q)
          (λ u. rw u (ap (λ (l : List ℕ). drop 1 l ++ behind none) (sym e)))
          (λ u. rw u)
      go (some p) f =
          by_test (eqb p q)
          (λ u. rw u (subst (λ (n : ℕ). behind none
          ≡ get_or (g.whole n) 0 [] ++ (join_all (drop 1 (g.whole q) ++ ended q grown) ++ part_of q (unended grown)))
          (sym (eqb-true p q u))
          (split (g.whole q) (subst (λ (n : ℕ). 1 ≤ length (g.whole n)) (eqb-true p q u) (t.stands p f)))))
          (λ u. rw u)

  waits_at : Goal
  waits_at = go g.rest refl
    where
      go : (l : List ℕ) → g.rest ≡ l → Goal
      go [] e = by_packet e
      go (v ∷ vs) e = by_byte v vs e

-- So what waits stays as it should be.
pub waits_on : (g : Where) (w : ℕ → List ℕ) (slot : PacketStep) → Waits g w → Turns g slot
    → Waits (where_after g slot) (left_waiting w slot.step)
waits_on g w slot waits t q = waits_at g w slot waits t q
