-- What the operations on the packet layer's record promise: each says what the lists and the registers then hold by the
-- model's own definitions (document 02, 2.7). `lengths` and `listed` are the arrays as the function found them,
-- `lengths'` and `listed'` as it left them.
use Rattle.std.specs.Prelude.{◌≡◌, true, false, List, [], ◌∷◌, ◌++◌, ℕ, ◌≤◌, ◌<◌, eqb, drop, get_or}
use Rattle.std.proofs.Math.Option.{Option, some, none}
use Rattle.model.specs.Basics.{choose}
use Rattle.model.specs.Lists.{asks}
use Rattle.layout.specs.Lengths.{queue_places}
use Rattle.packets.specs.Packets.{most_listed, Coming, PacketRecord, record_keeps, PacketArrival, start, PacketCall}
use Rattle.packets.specs.Packets.{length_wrong, no_place, packet_taken, is_whole, entering, asked_after, left_after}
use Rattle.packet_layout.specs.declared.PacketRegs.{PacketRegs}
use Rattle.packet_layout.specs.Views.{list_in, incoming_of, record_in, ListsLong}

-- A list with a count over 32 would lie over the places of the queues behind it: what changes the list of queue q asks
-- that no queue before q has one.
abbrev pub ShortBefore : ℕ → List ℕ → Type 0
ShortBefore q listed = (p : ℕ) → p < q → get_or listed p 0 ≤ most_listed

-- A length has entered the list of queue q, as its newest.
pub record EnterSays (q size : ℕ) (lengths listed lengths' listed' : List ℕ) : Type 0 where
  pub lists_long : ListsLong lengths' listed'
  pub lists_are : (p : ℕ) → list_in lengths' listed' p ≡ list_in lengths listed p ++ choose (eqb q p) (size ∷ []) []

-- The oldest length has left the list of queue q.
pub record TakeSays (q : ℕ) (lengths listed : List ℕ) (oldest : ℕ) (lengths' listed' : List ℕ) : Type 0 where
  pub lists_long : ListsLong lengths' listed'
  pub oldest_is : oldest ≡ get_or (list_in lengths listed q) 0 0
  pub lists_are : (p : ℕ) → list_in lengths' listed' p ≡ drop (asks p (some q)) (list_in lengths listed p)

-- A packet request is of a queue below Q.
abbrev pub RequestBelow : ℕ → Option ℕ → Type 0
RequestBelow Q request = (q : ℕ) → request ≡ some q → q < Q

-- A packet that starts is of a queue below Q.
abbrev pub StartBelow : ℕ → Option PacketArrival → Type 0
StartBelow Q arrival = (q n v : ℕ) → arrival ≡ some (start q n v) → q < Q

-- What a layer knows of a slot that it accepts: the record keeps the rules, and 4, 20, 21 and 6 let the call pass.
pub record TurnFacts (r : PacketRecord) (call : PacketCall) : Type 0 where
  pub queues : ℕ
  pub queues_few : queues ≤ queue_places
  pub record_keeps : record_keeps queues r ≡ true
  pub start_below : StartBelow queues call.arrival
  pub length_right : length_wrong r.incoming call.arrival ≡ false
  pub place_there : no_place r call.arrival ≡ false
  pub request-below : RequestBelow queues call.request

-- What of it concerns the packet request: it is of a queue below some Q, and no queue below Q has a list over 32.
pub record RequestFits (listed : List ℕ) (request : Option ℕ) : Type 0 where
  pub queues : ℕ
  pub queues_few : queues ≤ queue_places
  pub lists_short : ShortBefore queues listed
  pub request-below : RequestBelow queues request

-- A byte request has been counted: so many are left of the packet asked for, and all else is as it was.
pub record LeftAs (left : ℕ) (regs regs' : PacketRegs) : Type 0 where
  pub incoming_same : incoming_of regs' ≡ incoming_of regs
  pub asked_same : regs'.asked ≡ regs.asked
  pub left_is : regs'.left ≡ left

-- The packet request has been taken or dropped, and a byte request counted.
pub record AskSays (r : PacketRecord) (request : Option ℕ) (number : ℕ) (regs : PacketRegs) (lengths' listed' : List ℕ)
    : Type 0 where
  pub lists_long : ListsLong lengths' listed'
  pub lists_are : (p : ℕ) → list_in lengths' listed' p ≡ drop (asks p (packet_taken r request)) (r.lengths p)
  pub incoming_same : incoming_of regs ≡ r.incoming
  pub asked_is : regs.asked ≡ asked_after r (packet_taken r request)
  pub left_is : regs.left ≡ left_after r (packet_taken r request) number

-- The packet coming in is not whole.
abbrev pub NotWhole : Option Coming → Type 0
NotWhole incoming = (c : Coming) → incoming ≡ some c → c.bytes_in < c.size

-- A call that asks for no packet.
abbrev pub arriving : Option PacketArrival → PacketCall
arriving arrival = record { arrival = arrival; request = none }

-- The packet coming in is now `incoming`, and the packet asked for is as it was.
pub record ComesAs (incoming : Option Coming) (regs regs' : PacketRegs) : Type 0 where
  pub incoming_is : incoming_of regs' ≡ incoming
  pub asked_same : regs'.asked ≡ regs.asked
  pub left-same : regs'.left ≡ regs.left

-- A whole packet is of a queue that there is, and its list has a place for it.
pub record PlaceFor (listed : List ℕ) (c : Coming) : Type 0 where
  pub queue_below : c.queue < queue_places
  pub lists_short : ShortBefore c.queue listed
  pub place_there : get_or listed c.queue 0 < most_listed

abbrev pub PlaceIfWhole : List ℕ → Option Coming → Type 0
PlaceIfWhole listed incoming = (c : Coming) → incoming ≡ some c → is_whole incoming ≡ true → PlaceFor listed c

-- The packet coming in has entered its list if it is whole.
pub record WholeSays (lengths listed : List ℕ) (regs regs' : PacketRegs) (lengths' listed' : List ℕ) : Type 0 where
  pub lists_long : ListsLong lengths' listed'
  pub lists_are : (p : ℕ) → list_in lengths' listed' p ≡ list_in lengths listed p ++ entering p (incoming_of regs)
  pub comes_as : ComesAs (choose (is_whole (incoming_of regs)) none (incoming_of regs)) regs regs'

-- The record is now `after`.
pub record TurnSays (after : PacketRecord) (regs : PacketRegs) (lengths' listed' : List ℕ) : Type 0 where
  pub lists_long : ListsLong lengths' listed'
  pub record_is : record_in regs lengths' listed' ≡ after
