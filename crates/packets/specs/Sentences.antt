-- What document 02, 2.7, says of one slot of the layer, sentence by sentence. The numbers stand here anew, so that a
-- wrong one in Packets contradicts them.
use Rattle.std.specs.Prelude.{◌≡◌, true, List, [], ◌∷◌, ◌++◌, ℕ, suc, ◌+◌, ◌*◌, ◌≤◌, ◌<◌, length, drop}
use Rattle.std.proofs.Math.Option.{Option, some, none}
use Rattle.model.specs.Basics.{All}
use Rattle.model.specs.Sizes.{Design, store_bytes}
use Rattle.model.specs.State.{byte, State, tail_bytes, blocks, keeps}
use Rattle.model.specs.Slot.{slot}
use Rattle.model.specs.Lists.{asks}
use Rattle.packets.specs.Packets.{Coming, coming, PacketRecord, record_keeps, PacketArrival, start, next}
use Rattle.packets.specs.Packets.{PacketCall}
use Rattle.packets.specs.Packets.{byte_call, packet_taken, PacketAnswer, packet_stop, packet_slot}

-- "A packet has 1 to 9,016 bytes."
pub record InRange (n : ℕ) : Type 0 where
  pub one_or_more : 1 ≤ n
  pub not_over : n ≤ 9016

-- A record that keeps the rules, in the request's order: no "list over 32 (over 31 for the queue of a packet coming
-- in), a listed or coming length outside the range, as many bytes in as the coming length or more, over 9,016 byte
-- requests left, or a queue Q or more".
pub record RecordStands (Q : ℕ) (r : PacketRecord) : Type 0 where
  pub lists_fit : (q : ℕ) → q < Q → length (r.lengths q) ≤ 32
  pub coming_fits : (c : Coming) → r.incoming ≡ some c → length (r.lengths c.queue) ≤ 31
  pub listed_in_range : (q : ℕ) → q < Q → All InRange (r.lengths q)
  pub coming_in_range : (c : Coming) → r.incoming ≡ some c → InRange c.size
  pub more_to_come : (c : Coming) → r.incoming ≡ some c → c.bytes_in < c.size
  pub left_in_range : r.left ≤ 9016
  pub coming_known : (c : Coming) → r.incoming ≡ some c → c.queue < Q
  pub asked-known : r.asked < Q

-- What may come in: nothing, a start of a known queue whose length is in the range, while no other packet comes in,
-- with fewer than 32 listed and as much free store as it is long, or a next byte of the packet coming in.
pub data MayComeIn (x : State) (r : PacketRecord) : Option PacketArrival → Type 0 where
  no_byte : MayComeIn x r none
  first_byte : (q n v : ℕ)
      → q < x.sizes.Q → InRange n → r.incoming ≡ none → length (r.lengths q) < 32
      → tail_bytes x q + x.sizes.b * blocks x q + n ≤ x.sizes.K * x.sizes.b
      → MayComeIn x r (some (start q n v))
  a_next_byte : (c : Coming) (v : ℕ) → r.incoming ≡ some c → MayComeIn x r (some (next v))

-- A slot's call from its two halves, and the number that it answers.
abbrev pub packet_call : Option PacketArrival → Option ℕ → PacketCall
packet_call arrival request = record { arrival = arrival; request = request }

abbrev pub answered : Design → State → List ℕ → PacketRecord → Option PacketArrival → Option ℕ → ℕ
answered design x store r arrival request =
    (packet_slot design x store r (packet_call arrival request)).answer.reply.number

-- State and record keep the rules, and the store is long enough.
pub record Stands (design : Design) (x : State) (store : List ℕ) (r : PacketRecord) : Type 0 where
  pub state_keeps : keeps design x ≡ true
  pub record_keeps : record_keeps x.sizes.Q r ≡ true
  pub store_long : store_bytes x.sizes ≤ length store

-- The numbers that stop a slot, in the order of judging: each where those before it do not come.
pub record StopsInOrder (design : Design) (x : State) (store : List ℕ) (r : PacketRecord) : Type 0 where
  pub three : (arrival : Option PacketArrival) (request : Option ℕ)
      → (keeps design x ≡ true → record_keeps x.sizes.Q r ≡ true → ⊥)
      → answered design x store r arrival request ≡ 3
  pub two : (arrival : Option PacketArrival) (request : Option ℕ)
      → keeps design x ≡ true → record_keeps x.sizes.Q r ≡ true → length store < store_bytes x.sizes
      → answered design x store r arrival request ≡ 2
  -- 4, of a start's queue.
  pub four : (q n v : ℕ) (request : Option ℕ) → Stands design x store r → x.sizes.Q ≤ q
      → answered design x store r (some (start q n v)) request ≡ 4
  -- "20, length outside the range, or a next byte with no packet coming in".
  pub twenty_length : (q n v : ℕ) (request : Option ℕ) → Stands design x store r
      → q < x.sizes.Q → (InRange n → ⊥)
      → answered design x store r (some (start q n v)) request ≡ 20
  pub twenty_next : (v : ℕ) (request : Option ℕ) → Stands design x store r → r.incoming ≡ none
      → answered design x store r (some (next v)) request ≡ 20
  -- "21, at a start, the list holds 32 or another packet is still coming in". The list is that of the record as handed
  -- in, whatever the slot asks for.
  pub twenty_one_list : (q n v : ℕ) (request : Option ℕ) → Stands design x store r
      → q < x.sizes.Q → InRange n → length (r.lengths q) ≡ 32
      → answered design x store r (some (start q n v)) request ≡ 21
  pub twenty_one_coming : (q n v : ℕ) (c : Coming) (request : Option ℕ) → Stands design x store r
      → q < x.sizes.Q → InRange n → r.incoming ≡ some c
      → answered design x store r (some (start q n v)) request ≡ 21
  -- "22, at a start, the queue's free store, K × b less tail bytes and b × blocks, is below the length".
  pub twenty_two : (q n v : ℕ) (request : Option ℕ) → Stands design x store r
      → q < x.sizes.Q → InRange n → r.incoming ≡ none → length (r.lengths q) < 32
      → x.sizes.K * x.sizes.b < tail_bytes x q + x.sizes.b * blocks x q + n
      → answered design x store r (some (start q n v)) request ≡ 22
  -- 6, of the packet request's queue, also where that request would be dropped.
  pub six : (arrival : Option PacketArrival) (q : ℕ) → Stands design x store r
      → MayComeIn x r arrival → x.sizes.Q ≤ q
      → answered design x store r arrival (some q) ≡ 6
  -- And else the buffer's own: 8, 9, 10, or 0.
  pub the_buffers : (arrival : Option PacketArrival) (request : Option ℕ) → Stands design x store r
      → MayComeIn x r arrival → ((q : ℕ) → request ≡ some q → q < x.sizes.Q)
      → answered design x store r arrival request
      ≡ (slot design x store (byte_call r (packet_call arrival request))).reply.number

-- What the layer hands to the buffer: a start's byte goes to its queue, a next byte to that of the packet coming in;
-- "one byte request in each of the following accepted slots".
pub record HandsOn (r : PacketRecord) (request : Option ℕ) : Type 0 where
  pub nothing_comes : (byte_call r (packet_call none request)).arrival ≡ none
  pub first_byte_comes : (q n v : ℕ) → (byte_call r (packet_call (some (start q n v)) request)).arrival ≡ some (byte q v)
  pub next_byte_comes : (c : Coming) (v : ℕ) → r.incoming ≡ some c
      → (byte_call r (packet_call (some (next v)) request)).arrival ≡ some (byte c.queue v)
  pub asks_while_left : (arrival : Option PacketArrival) (n : ℕ) → r.left ≡ suc n
      → (byte_call r (packet_call arrival request)).request ≡ some r.asked
  pub asks_no_more : (arrival : Option PacketArrival) → r.left ≡ 0
      → (byte_call r (packet_call arrival request)).request ≡ none

-- The packet request of an accepted slot: "7 where no whole packet stood before the slot, or this slot still makes a
-- byte request of an earlier one". Else "an accepted request takes it out", the oldest of its list.
pub record AsksPacket (r r' : PacketRecord) (request : Option ℕ) (packet_number request_number : ℕ) : Type 0 where
  pub seven_none_stood : (q : ℕ) → request ≡ some q → r.lengths q ≡ [] → packet_number ≡ 7
  pub seven_still_asks : (q : ℕ) → request ≡ some q → 1 ≤ r.left → packet_number ≡ 7
  pub zero_taken : (q n : ℕ) (ns : List ℕ) → request ≡ some q → r.left ≡ 0 → r.lengths q ≡ n ∷ ns
      → (packet_number ≡ 0) × (r'.asked ≡ q) × (r'.left ≡ n)
  pub zero_none : request ≡ none → packet_number ≡ 0
  -- Where none is taken, a byte request that was taken is one less to make, and one that 7 drops "is not counted".
  pub one_less : (n : ℕ) → r.left ≡ suc n → request_number ≡ 0 → (r'.left ≡ n) × (r'.asked ≡ r.asked)
  pub not_counted : (n : ℕ) → r.left ≡ suc n → (request_number ≡ 0 → ⊥)
      → (r'.left ≡ r.left) × (r'.asked ≡ r.asked)
  pub none_to_make : r.left ≡ 0 → packet_taken r request ≡ none → (r'.left ≡ 0) × (r'.asked ≡ r.asked)

-- The lists of an accepted slot, but for a length that enters: a packet request that was taken "takes it out", the
-- oldest of its queue, and no other list changes.
abbrev pub list_left : PacketRecord → Option ℕ → ℕ → List ℕ
list_left r request q = drop (asks q (packet_taken r request)) (r.lengths q)

abbrev pub ListsLeft : PacketRecord → Option ℕ → PacketRecord → Type 0
ListsLeft r request r' = (q : ℕ) → r'.lengths q ≡ list_left r request q

-- A length that enters, of packet queue p, stands behind the others of its list.
abbrev pub Enters : PacketRecord → Option ℕ → PacketRecord → (p n : ℕ) → Type 0
Enters r request r' p n =
    (r'.lengths p ≡ list_left r request p ++ n ∷ [])
    × ((q : ℕ) → (p ≡ q → ⊥) → r'.lengths q ≡ list_left r request q)

-- What comes in with an accepted slot: "when its last byte is in, its length enters a list", and before that one byte
-- more is in. "A byte .. that 5 .. drops is not counted in the record."
pub record ComesIn (r r' : PacketRecord) (arrival : Option PacketArrival) (request : Option ℕ) (arrival_number : ℕ)
    : Type 0 where
  pub nothing : arrival ≡ none → (r'.incoming ≡ r.incoming) × ListsLeft r request r'
  pub not_counted : (arrival_number ≡ 0 → ⊥) → (r'.incoming ≡ r.incoming) × ListsLeft r request r'
  pub first_of_more : (q n v : ℕ) → arrival ≡ some (start q n v) → arrival_number ≡ 0 → 1 < n
      → (r'.incoming ≡ some (coming q n 1)) × ListsLeft r request r'
  pub first_and_last : (q v : ℕ) → arrival ≡ some (start q 1 v) → arrival_number ≡ 0
      → (r'.incoming ≡ none) × Enters r request r' q 1
  pub one_more : (c : Coming) (v : ℕ) → r.incoming ≡ some c → arrival ≡ some (next v) → arrival_number ≡ 0
      → c.bytes_in + 1 < c.size
      → (r'.incoming ≡ some (coming c.queue c.size (c.bytes_in + 1))) × ListsLeft r request r'
  pub last_byte : (c : Coming) (v : ℕ) → r.incoming ≡ some c → arrival ≡ some (next v) → arrival_number ≡ 0
      → c.bytes_in + 1 ≡ c.size
      → (r'.incoming ≡ none) × Enters r request r' c.queue c.size

-- An accepted slot: the buffer's own answer of what it was handed, the packet request's number, the record, which keeps
-- its rules.
pub record RunsOn (design : Design) (x : State) (store : List ℕ) (r : PacketRecord) (call : PacketCall)
    (a : PacketAnswer) : Type 0 where
  pub the_buffers : a.answer ≡ slot design x store (byte_call r call)
  pub asks-packet :
      AsksPacket r a.packets call.request a.packet_number a.answer.reply.request_number
  pub comes-in : ComesIn r a.packets call.arrival call.request a.answer.reply.arrival_number
  pub still_keeps : record_keeps x.sizes.Q a.packets ≡ true

pub record PacketsSay (design : Design) : Type 0 where
  -- "A record handed in with .. breaks the rules and answers 3": both ways.
  pub record_stands : (Q : ℕ) (r : PacketRecord) → record_keeps Q r ≡ true → RecordStands Q r
  pub stands_record : (Q : ℕ) (r : PacketRecord) → RecordStands Q r → record_keeps Q r ≡ true
  -- "They are judged as the slot begins, in that order, after 4 and before 5".
  pub stops_in_order : (x : State) (store : List ℕ) (r : PacketRecord) → StopsInOrder design x store r
  -- "and the slot did not happen".
  pub did_not_happen :
      (x : State) (store : List ℕ) (r : PacketRecord) (call : PacketCall)
      → ((packet_slot design x store r call).answer.reply.number ≡ 0 → ⊥)
      → packet_slot design x store r call
      ≡ packet_stop (packet_slot design x store r call).answer.reply.number x store r
  pub hands_on : (r : PacketRecord) (request : Option ℕ) → HandsOn r request
  pub runs_on :
      (x : State) (store : List ℕ) (r : PacketRecord) (call : PacketCall)
      → (packet_slot design x store r call).answer.reply.number ≡ 0
      → RunsOn design x store r call (packet_slot design x store r call)
