-- The packet layer's refusals by figures are the request's: with the figures of a state and of a record they are the
-- five that `packet_refusals` puts between 2 and the buffer's own. `number_as_paper` says it.
use mathlib.Core.Path.{◌≡◌, refl, ap, sym}
use mathlib.Core.Bool.{true}
use mathlib.Core.List.{List, [], ◌∷◌}
use mathlib.Core.Option.{Option, some, none}
use Prim.Native.Nat.{ℕ, zero, suc}
use lib.Dec.{leb}
use lib.ListN.{length, get_or}
use Rattle.model.specs.Basics.{choose, tabulate, when, first_refusal}
use Rattle.model.specs.State.{Byte, State}
use Rattle.model.specs.Slot.{arrival_unknown, request_unknown}
use Rattle.packets.specs.Packets.{most_listed, PacketArrival, start, next, PacketRecord, PacketCall, byte_in, byte_call}
use Rattle.packets.specs.Packets.{length_wrong, comes, no_place, no_room}
use Rattle.layout.specs.Entries.{counts_in}
use Rattle.layout.specs.Figures.{figures_of}
use Rattle.packet_layout.specs.Views.{list_in, record_in}
use Rattle.packet_layout.specs.declared.PacketRegs.{PacketRegs}
use Rattle.packet_refusals.specs.Says.{unknown_now, no_place_now, no_room_now, request_unknown_now, packet_number}

-- A list has as many lengths as its count says.
length-tabulate : {A : Type 0} (n : ℕ) (f : ℕ → A) → length (tabulate n f) ≡ n
length-tabulate zero f = refl
length-tabulate (suc n) f = ap suc (length-tabulate n (λ i. f (suc i)))

pub listed_is : (lengths listed : List ℕ) (q : ℕ) → counts_in listed q ≡ length (list_in lengths listed q)
unfolding counts_in list_in
listed_is lengths listed q = sym (length-tabulate (get_or listed q 0) _)

module _ (x : State) where
  unknown_as_paper : (o : Option Byte) → unknown_now x.sizes o ≡ arrival_unknown x o
  unknown_as_paper none = refl
  unknown_as_paper (some y) = refl

  room_as_paper : (arrival : Option PacketArrival) → no_room_now (figures_of x) arrival ≡ no_room x arrival
  room_as_paper none = refl
  room_as_paper (some (start q n v)) = refl
  room_as_paper (some (next v)) = refl

  request-as_paper : (request : Option ℕ) → request_unknown_now x.sizes request ≡ request_unknown x request
  request-as_paper none = refl
  request-as_paper (some q) = refl

place_as_paper : (r : PacketRecord) (listed : ℕ → ℕ) → ((q : ℕ) → listed q ≡ length (r.lengths q))
    → (arrival : Option PacketArrival) → no_place_now listed r.incoming arrival ≡ no_place r arrival
place_as_paper r listed h none = refl
place_as_paper r listed h (some (start q n v)) =
    ap (λ (k : ℕ). choose (comes r.incoming) true (leb most_listed k)) (h q)
place_as_paper r listed h (some (next v)) = refl

-- The five of them.
abbrev pub own_refusals : State → PacketRecord → PacketCall → List ℕ
own_refusals x r call =
    when (arrival_unknown x (byte_call r call).arrival) 4 ∷
    when (length_wrong r.incoming call.arrival) 20 ∷
    when (no_place r call.arrival) 21 ∷
    when (no_room x call.arrival) 22 ∷
    when (request_unknown x call.request) 6 ∷ []

pub number_as_paper : (x : State) (regs : PacketRegs) (lengths listed : List ℕ) (call : PacketCall)
    → packet_number (figures_of x) (counts_in listed) (record_in regs lengths listed).incoming call.arrival
    call.request
    ≡ first_refusal (own_refusals x (record_in regs lengths listed) call)
number_as_paper x regs lengths listed call =
    rw (
      unknown_as_paper x (byte_in (record_in regs lengths listed).incoming call.arrival),
      place_as_paper (record_in regs lengths listed) (counts_in listed) (listed_is lengths listed) call.arrival,
      room_as_paper x call.arrival,
      request-as_paper x call.request,
    )
