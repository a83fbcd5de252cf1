-- The record keeps the books of what waits: its lists are the lengths of the whole packets, and so on; and the packet
-- coming in still finds room in its queue. So in an accepted slot of the layer no half is dropped: the byte finds room,
-- and where byte requests are left there is a byte for each. `carried_whole` says it: the buffer's slot is carried out
-- of the whole of its call.
use mathlib.Core.Path.{◌≡◌, refl, ap, sym, ◌∙◌, subst}
use mathlib.Core.Bool.{Bool, false, ◌&&◌, not}
use mathlib.Core.List.{List, [], ◌++◌, map}
use mathlib.Core.Option.{Option, some, none}
use Prim.Native.Nat.{ℕ, ◌+◌, ◌*◌, ◌<◌, ◌≤◌}
use native.Mathlib.Omega.{arith}
use lib.Dec.{eqb, ltb}
use lib.ListN.{length, length-append}
use borrow.Author.Tests.{ltb-true, ltb-false, ne_eqb, not-false}
use Rattle.model.specs.Basics.{choose, when}
use Rattle.model.specs.Sizes.{Design, store_bytes}
use Rattle.model.specs.State.{Byte, byte, State, values_of}
use Rattle.model.specs.Slot.{Call, arriving, swaps, arrival_full, nothing_to_take, request_drops, halves_taken, refusal}
use Rattle.model.specs.Slot.{carried_out, answer, slot}
use Rattle.model.specs.Ideal.{waiting_with, stands_for}
use Rattle.packets.specs.Packets.{Coming, PacketRecord, length_ok, PacketArrival, start, next, PacketCall, byte_in}
use Rattle.packets.specs.Packets.{byte_call, length_wrong, free_store, no_room}
use Rattle.model.proofs.basics.Tests.{by_test, eqb_same, some_inj, none_not_some}
use Rattle.model.proofs.one_slot.Rules.{Keeps, keeps-facts}
use Rattle.model.proofs.one_slot.Halves.{arrival-stays, all_left}
use Rattle.model.proofs.one_slot.Accepted.{Accepted, accepted-facts, refusal-told}
use Rattle.model.proofs.one_slot.Stored.{stored}
use Rattle.model.proofs.delay.IdealSlot.{seven_exactly}
use Rattle.packets.proofs.Slots.{RecordKeeps, PacketAccepted, length-facts}
use Rattle.packets.proofs.Notes.{coming_of}
use Rattle.packets.proofs.Layer.{Where, join_all, rest_of, part_of, Waits}

-- `room`: what the queue of the packet coming in has stored, and what is still to come of it, fit its ring.
pub record Books (x : State) (store : List ℕ) (r : PacketRecord) (g : Where) : Type 0 where
  pub lengths_are : (q : ℕ) → r.lengths q ≡ map (length {A = ℕ}) (g.whole q)
  pub left_is : r.left ≡ length g.rest
  pub asked_is : r.asked ≡ g.queue
  pub coming_is : r.incoming ≡ coming_of g.incoming
  pub record_keeps : RecordKeeps x.sizes.Q r
  pub waits : Waits g (stands_for x store).waiting
  pub room : (c : Coming) → r.incoming ≡ some c
      → stored x c.queue + c.size ≤ x.sizes.K * x.sizes.b + c.bytes_in

module _ (design : Design) (x : State) (store : List ℕ) (r : PacketRecord) (call : PacketCall) (g : Where)
    (books : Books x store r g) (f : PacketAccepted design x store r call) where
  abbrev bytes : Call
  bytes = byte_call r call

  kept : Keeps design x
  kept = keeps-facts design x f.state_keeps

  store_fits : store_bytes x.sizes ≤ length store
  store_fits = ltb-false (length store) (store_bytes x.sizes) f.store_long

  -- 5 does not come: at a start the free store has the length, and later the books say so.
  byte-finds_room : (y : Byte) → bytes.arrival ≡ some y → stored x y.queue < x.sizes.K * x.sizes.b
  byte-finds_room y e = go r.incoming refl call.arrival f.length_right f.room_there e
    where
      go : (o : Option Coming) → r.incoming ≡ o → (a : Option PacketArrival) → length_wrong o a ≡ false
          → no_room x a ≡ false → byte_in o a ≡ some y → stored x y.queue < x.sizes.K * x.sizes.b
      go o s none right room h = absurd (none_not_some y h)
      go o s (some (start q n v)) right room h =
          subst (λ (z : Byte). stored x z.queue < x.sizes.K * x.sizes.b) (some_inj (byte q v) y h)
          (omega (arith, ltb-false (free_store x q) n room, (length-facts n (not-false (length_ok n) right)).0))
      go none s (some (next v)) right room h = absurd (none_not_some y h)
      go (some c) s (some (next v)) right room h =
          subst (λ (z : Byte). stored x z.queue < x.sizes.K * x.sizes.b) (some_inj (byte c.queue v) y h)
          (omega (arith, books.room c s, (books.record_keeps.coming_keeps c s).not-whole))

  no_5 : arrival_full x bytes.arrival bytes.request ≡ false
  no_5 = go bytes.arrival refl
    where
      go : (a : Option Byte) → bytes.arrival ≡ a → arrival_full x a bytes.request ≡ false
      go none e = refl
      go (some y) e =
          ap (λ (t : Bool). t && not (swaps x (some y) bytes.request))
          (ne_eqb (stored x y.queue) (x.sizes.K * x.sizes.b) (λ z. omega (arith, z, byte-finds_room y e)))

  -- 7 does not come: as many bytes wait first in the queue as byte requests are left.
  left-waits : r.left ≤ length ((stands_for x store).waiting r.asked)
  left-waits =
      omega (
        arith,
        books.left_is,
        ap length (books.waits r.asked),
        length-append (rest_of g r.asked) (join_all (g.whole r.asked) ++ part_of r.asked g.incoming),
        ap length rest_is,
      )
    where
      rest_is : rest_of g r.asked ≡ g.rest
      rest_is =
          ap (λ (q : ℕ). choose (eqb g.queue q) g.rest []) books.asked_is
          ∙ ap (λ (t : Bool). choose t g.rest []) (eqb_same g.queue)

  no_7 : nothing_to_take x bytes.arrival bytes.request ≡ false
  no_7 =
      by_test (ltb 0 r.left)
      (λ t. ap (λ (b : Bool). nothing_to_take x bytes.arrival (choose b (some r.asked) none)) t
      ∙ seven_exactly _ x store bytes.arrival r.asked books.record_keeps.asked-below store_fits kept.within
      ∙ ne_eqb (length (waiting_with (stands_for x store).waiting bytes.arrival r.asked)) 0
      (λ z. omega (
        arith,
        z,
        ltb-true 0 r.left t,
        left-waits,
        length-append ((stands_for x store).waiting r.asked) (values_of r.asked (arriving bytes.arrival)),
      )))
      (λ t. ap (λ (b : Bool). nothing_to_take x bytes.arrival (choose b (some r.asked) none)) t)

  -- So all of the call is left, and the slot is carried out of it.
  pub drops_nothing : halves_taken x bytes ≡ bytes
  drops_nothing = all_left x bytes no_5 no_7

  no_refusal : refusal design x store bytes ≡ 0
  no_refusal = sym (refusal-told design x store bytes) ∙ f.buffer_accepts

  pub whole_accepted : Accepted design x store bytes
  whole_accepted = subst (Accepted design x store) drops_nothing (accepted-facts design x store bytes no_refusal)

  pub carried_whole : slot design x store bytes ≡ carried_out 0 0 x store bytes
  carried_whole =
      ap (λ (n : ℕ). answer n x store bytes) no_refusal
      ∙ ap (λ (t : Bool). carried_out (when t 5) (when (request_drops x bytes) 7) x store (halves_taken x bytes)) no_5
      ∙ ap (λ (t : Bool). carried_out 0 (when t 7) x store (halves_taken x bytes)) not-dropped
      ∙ ap (carried_out 0 0 x store) drops_nothing
    where
      not-dropped : request_drops x bytes ≡ false
      not-dropped =
          ap (λ (a : Option Byte). nothing_to_take x a bytes.request) (arrival-stays x bytes no_5) ∙ no_7
