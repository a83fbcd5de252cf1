-- The refusals that the packet layer judges before the buffer (4, 20, 21, 22 and 6) by figures: those of the state, how
-- many lengths each list has, and the packet coming in. That they are the request's own is shown in proofs/Paper.antt.
use Rattle.std.specs.Prelude.{Bool, true, false, [], ◌∷◌, ℕ, ◌+◌, ◌-◌, ◌*◌, ◌<◌, ltb, leb}
use Rattle.std.proofs.Math.Option.{Option, some, none}
use Rattle.model.specs.Basics.{choose, when, first_refusal}
use Rattle.model.specs.Sizes.{Sizes}
use Rattle.model.specs.State.{Byte}
use Rattle.packets.specs.Packets.{most_listed, Coming, PacketArrival, start, next, byte_in, comes, length_wrong}
use Rattle.layout.specs.Figures.{Figures}
use Rattle.layout.specs.Lengths.{queue_places}

-- 4: the byte's queue is Q or more; a start names its queue, a next byte is of the packet coming in.
abbrev pub unknown_now : Sizes → Option Byte → Bool
unknown_now s none = false
unknown_now s (some y) = leb s.Q y.queue

abbrev pub arrival_unknown_now : Sizes → Option Coming → Option PacketArrival → Bool
arrival_unknown_now s c arrival = unknown_now s (byte_in c arrival)

-- A start is of a queue that has a place in the arrays.
abbrev pub StartIn : Option PacketArrival → Type 0
StartIn none = Unit {0}
StartIn (some (start q n v)) = q < queue_places
StartIn (some (next v)) = Unit {0}

-- 21: "at a start, the list holds 32 or another packet is still coming in".
abbrev pub no_place_now : (ℕ → ℕ) → Option Coming → Option PacketArrival → Bool
no_place_now listed c none = false
no_place_now listed c (some (start q n v)) = choose (comes c) true (leb most_listed (listed q))
no_place_now listed c (some (next v)) = false

-- 22: "at a start, the queue's free store, K × b less tail bytes and b × blocks, is below the length".
abbrev pub free_store_now : Figures → ℕ → ℕ
free_store_now f q = f.sizes.K * f.sizes.b - (f.tails q + f.sizes.b * f.blocks q)

abbrev pub no_room_now : Figures → Option PacketArrival → Bool
no_room_now f none = false
no_room_now f (some (start q n v)) = ltb (free_store_now f q) n
no_room_now f (some (next v)) = false

-- 6: the packet request's queue is Q or more.
abbrev pub request_unknown_now : Sizes → Option ℕ → Bool
request_unknown_now s none = false
request_unknown_now s (some q) = leb s.Q q

-- The first of them, in the request's order; 0 where none of them is. 20 goes by the packet coming in alone.
abbrev pub packet_number : Figures → (ℕ → ℕ) → Option Coming → Option PacketArrival → Option ℕ → ℕ
packet_number f listed c arrival request =
    first_refusal (
    when (arrival_unknown_now f.sizes c arrival) 4 ∷
    when (length_wrong c arrival) 20 ∷
    when (no_place_now listed c arrival) 21 ∷
    when (no_room_now f arrival) 22 ∷
    when (request_unknown_now f.sizes request) 6 ∷ [])
