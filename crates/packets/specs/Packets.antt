-- Document 02, 2.7, "Whole packets": a layer over the slot, with a record of its own beside the state. Packets come in
-- byte by byte, their lengths are listed, and a packet request becomes byte requests.
use Rattle.std.specs.Prelude.{Bool, true, false, ◌&&◌, not, List, [], ◌∷◌, ◌++◌, ℕ, zero, suc, ◌+◌, ◌-◌, ◌*◌, eqb, ltb, leb, length, drop, get_or}
use Rattle.std.proofs.Math.Option.{Option, some, none}
use Rattle.model.specs.Basics.{choose, between, all_true, all_of, all_below, when, first_refusal}
use Rattle.model.specs.Sizes.{Design, store_bytes}
use Rattle.model.specs.State.{Byte, byte, State, tail_bytes, blocks, keeps}
use Rattle.model.specs.Slot.{Call, arrival_unknown, request_unknown, Answer, refuse, slot}
use Rattle.model.specs.Lists.{asks}

-- "A packet has 1 to 9,016 bytes"; "a list of at most 32 for its queue".
abbrev pub longest_packet : ℕ
longest_packet = 9016

abbrev pub most_listed : ℕ
most_listed = 32

-- The packet coming in: its queue, its length, how many of its bytes are in.
pub record Coming : Type 0 where
  pub queue : ℕ
  pub size : ℕ
  pub bytes_in : ℕ

abbrev pub coming : ℕ → ℕ → ℕ → Coming
coming q n i = record { queue = q; size = n; bytes_in = i }

-- `lengths`: by queue, of the whole packets not yet asked for, oldest first. `incoming`: "One packet comes in at a
-- time". `asked` and `left`: the queue of the packet last asked for, and how many byte requests of it are left.
pub record PacketRecord : Type 0 where
  pub lengths : ℕ → List ℕ
  pub incoming : Option Coming
  pub asked : ℕ
  pub left : ℕ

abbrev pub fresh_record : PacketRecord
fresh_record = record { lengths = λ q. []; incoming = none; asked = 0; left = 0 }

-- "A record handed in with a list over 32 (over 31 for the queue of a packet coming in), a listed or coming length
-- outside the range, as many bytes in as the coming length or more, over 9,016 byte requests left, or a queue Q or more
-- breaks the rules". The queue last asked for is judged also where nothing is left of its packet, as a ring's first
-- block is where it holds none.
abbrev pub length_ok : ℕ → Bool
length_ok n = between 1 n longest_packet

abbrev pub coming_to : ℕ → Option Coming → ℕ
coming_to q none = 0
coming_to q (some c) = choose (eqb c.queue q) 1 0

abbrev pub list_ok : PacketRecord → ℕ → Bool
list_ok r q = leb (length (r.lengths q) + coming_to q r.incoming) most_listed && all_of length_ok (r.lengths q)

abbrev pub coming_ok : ℕ → Option Coming → Bool
coming_ok Q none = true
coming_ok Q (some c) = all_true (ltb c.queue Q ∷ length_ok c.size ∷ ltb c.bytes_in c.size ∷ [])

abbrev pub record_rules : ℕ → PacketRecord → List Bool
record_rules Q r =
    all_below Q (list_ok r) ∷
    coming_ok Q r.incoming ∷
    leb r.left longest_packet ∷
    ltb r.asked Q ∷ []

abbrev pub record_keeps : ℕ → PacketRecord → Bool
record_keeps Q r = all_true (record_rules Q r)

-- What a slot of the layer is asked: "its start brings queue, length and first byte, later slots a next byte"; and a
-- request of a packet of a queue.
pub data PacketArrival : Type 0 where
  start : (queue size value : ℕ) → PacketArrival
  next : (value : ℕ) → PacketArrival

pub record PacketCall : Type 0 where
  pub arrival : Option PacketArrival
  pub request : Option ℕ

-- The byte and the byte request that the layer hands to the buffer: a next byte is of the packet coming in, and the
-- byte requests that are left come one in each slot.
abbrev pub byte_in : Option Coming → Option PacketArrival → Option Byte
byte_in c none = none
byte_in c (some (start q n v)) = some (byte q v)
byte_in none (some (next v)) = none
byte_in (some c) (some (next v)) = some (byte c.queue v)

abbrev pub byte_asked : PacketRecord → Option ℕ
byte_asked r = choose (ltb 0 r.left) (some r.asked) none

abbrev pub byte_call : PacketRecord → PacketCall → Call
byte_call r call = record { arrival = byte_in r.incoming call.arrival; request = byte_asked r }

-- 20: "length outside the range, or a next byte with no packet coming in".
abbrev pub length_wrong : Option Coming → Option PacketArrival → Bool
length_wrong c none = false
length_wrong c (some (start q n v)) = not (length_ok n)
length_wrong none (some (next v)) = true
length_wrong (some c) (some (next v)) = false

-- 21: "at a start, the list holds 32 or another packet is still coming in".
abbrev pub comes : Option Coming → Bool
comes none = false
comes (some c) = true

abbrev pub no_place : PacketRecord → Option PacketArrival → Bool
no_place r none = false
no_place r (some (start q n v)) = choose (comes r.incoming) true (leb most_listed (length (r.lengths q)))
no_place r (some (next v)) = false

-- 22: "at a start, the queue's free store, K × b less tail bytes and b × blocks, is below the length".
abbrev pub free_store : State → ℕ → ℕ
free_store x q = x.sizes.K * x.sizes.b - (tail_bytes x q + x.sizes.b * blocks x q)

abbrev pub no_room : State → Option PacketArrival → Bool
no_room x none = false
no_room x (some (start q n v)) = ltb (free_store x q) n
no_room x (some (next v)) = false

-- "They are judged as the slot begins, in that order, after 4 and before 5": 4 looks at the byte, and so at a start's
-- queue; 6, which comes after 5, looks at the packet request. The buffer's own refusals come last: of them 3, 2, 4 and
-- 6 are ruled out by then, so that 8, 9 and 10 are left.
abbrev pub packet_refusals : Design → State → List ℕ → PacketRecord → PacketCall → List ℕ
packet_refusals design x store r call =
    when (not (keeps design x && record_keeps x.sizes.Q r)) 3 ∷
    when (ltb (length store) (store_bytes x.sizes)) 2 ∷
    when (arrival_unknown x (byte_call r call).arrival) 4 ∷
    when (length_wrong r.incoming call.arrival) 20 ∷
    when (no_place r call.arrival) 21 ∷
    when (no_room x call.arrival) 22 ∷
    when (request_unknown x call.request) 6 ∷
    (slot design x store (byte_call r call)).reply.number ∷ []

abbrev pub packet_refusal : Design → State → List ℕ → PacketRecord → PacketCall → ℕ
packet_refusal design x store r call = first_refusal (packet_refusals design x store r call)

-- "A packet request answers 7 where no whole packet stood before the slot, or this slot still makes a byte request of
-- an earlier one. That 7 drops the packet request only."
abbrev pub packet_drops : PacketRecord → Option ℕ → Bool
packet_drops r none = false
packet_drops r (some q) = choose (ltb 0 r.left) true (eqb (length (r.lengths q)) 0)

abbrev pub packet_taken : PacketRecord → Option ℕ → Option ℕ
packet_taken r request = choose (packet_drops r request) none request

-- The packet coming in with this slot's byte; "when its last byte is in", it is whole, and its length enters its list.
abbrev pub grown : Option Coming → Option PacketArrival → Option Coming
grown c none = c
grown c (some (start q n v)) = some (coming q n 1)
grown none (some (next v)) = none
grown (some c) (some (next v)) = some (coming c.queue c.size (c.bytes_in + 1))

abbrev pub is_whole : Option Coming → Bool
is_whole none = false
is_whole (some c) = leb c.size c.bytes_in

abbrev pub entering : ℕ → Option Coming → List ℕ
entering q none = []
entering q (some c) = choose (leb c.size c.bytes_in && eqb c.queue q) (c.size ∷ []) []

-- The record after an accepted slot, by the numbers of the buffer's halves: "A byte or byte request that 5 or 7 drops
-- is not counted in the record". A packet request that was taken "takes it out", the oldest length of its list, and
-- "becomes one byte request in each of the following accepted slots".
abbrev pub incoming_after : PacketRecord → PacketCall → ℕ → Option Coming
incoming_after r call zero = grown r.incoming call.arrival
incoming_after r call (suc n) = r.incoming

abbrev pub asked_after : PacketRecord → Option ℕ → ℕ
asked_after r none = r.asked
asked_after r (some q) = q

abbrev pub left_after : PacketRecord → Option ℕ → ℕ → ℕ
left_after r none zero = r.left - 1
left_after r none (suc n) = r.left
left_after r (some q) n = get_or (r.lengths q) 0 0

abbrev pub record_after : PacketRecord → PacketCall → (arrival_number request_number : ℕ) → PacketRecord
record_after r call arrival_number request_number =
    let c = incoming_after r call arrival_number in
    let request = packet_taken r call.request in
    record {
      lengths = λ q. drop (asks q request) (r.lengths q) ++ entering q c;
      incoming = choose (is_whole c) none c;
      asked = asked_after r request;
      left = left_after r request request_number;
    }

-- What a slot of the layer answers: the buffer's answer, the packet request's own number (7, or 0), the record. A slot
-- that was stopped "did not happen": state, store and record are as given.
pub record PacketAnswer : Type 0 where
  pub answer : Answer
  pub packet_number : ℕ
  pub packets : PacketRecord

abbrev pub packet_accept : Design → State → List ℕ → PacketRecord → PacketCall → PacketAnswer
packet_accept design x store r call =
    let a = slot design x store (byte_call r call) in
    record {
      answer = a;
      packet_number = when (packet_drops r call.request) 7;
      packets = record_after r call a.reply.arrival_number a.reply.request_number;
    }

abbrev pub packet_stop : ℕ → State → List ℕ → PacketRecord → PacketAnswer
packet_stop n x store r = record { answer = refuse n x store; packet_number = 0; packets = r }

abbrev pub packet_answer : ℕ → Design → State → List ℕ → PacketRecord → PacketCall → PacketAnswer
packet_answer zero design x store r call = packet_accept design x store r call
packet_answer (suc n) design x store r call = packet_stop (suc n) x store r

-- One slot of the layer.
abbrev pub packet_slot : Design → State → List ℕ → PacketRecord → PacketCall → PacketAnswer
packet_slot design x store r call = packet_answer (packet_refusal design x store r call) design x store r call
