-- Slots of the layer worked by hand, as one table with one theorem for all rows (`packet_examples_hold`): lists of
-- slots, from a state and a record, each slot beside what it is to answer.
use Rattle.std.specs.Prelude.{Bool, true, false, ◌&&◌, List, [], ◌∷◌, ℕ, eqb, get_or, replicate}
use Rattle.std.proofs.Math.Option.{Option, some, none}
use Rattle.model.specs.Basics.{all_true}
use Rattle.model.specs.Sizes.{sizes, paper, store_bytes}
use Rattle.model.specs.State.{Byte, byte, empty, owed, State, fresh}
use Rattle.model.specs.Examples.{made◌phase◌tail◌head◌cells◌blocks◌}
use Rattle.packets.specs.Packets.{Coming, coming, PacketRecord, fresh_record, start, next}
use Rattle.packets.specs.Packets.{PacketCall, PacketAnswer, packet_slot}

-- What a slot is to answer: it is accepted, and its packet request, if it has one, is taken, or gets 7; or it is
-- stopped. Each delivers nothing and drops no half of the buffer's, but for what it names: the byte that leaves; the
-- arrival's number and the byte request's; and the record that it leaves, by the lists of queues 0 and 1, the packet
-- coming in as queue, length and bytes in, or nothing, the queue last asked for and the byte requests left.
infix 80 ◌delivering◌
infix 75 ◌lists◌and◌partly◌asks◌more◌
pub data Outcome : Type 0 where
  taken : Outcome
  seven : Outcome
  stopped : ℕ → Outcome
  drops : ℕ → ℕ → Outcome → Outcome
  ◌delivering◌ : Outcome → Byte → Outcome
  ◌lists◌and◌partly◌asks◌more◌ : Outcome → List ℕ → List ℕ → List ℕ → ℕ → ℕ → Outcome

-- The halves of a call by name, each with or without a packet request.
infix 72 ◌asking◌
abbrev pub starts : ℕ → ℕ → ℕ → PacketCall
starts q n v = record { arrival = some (start q n v); request = none }

abbrev pub next_byte : ℕ → PacketCall
next_byte v = record { arrival = some (next v); request = none }

abbrev pub nothing : PacketCall
nothing = record { arrival = none; request = none }

abbrev pub ◌asking◌ : PacketCall → ℕ → PacketCall
call asking q = record { arrival = call.arrival; request = some q }

infix 70 ◌⇒◌
pub data Expected : Type 0 where
  ◌⇒◌ : PacketCall → Outcome → Expected

pub data PacketExample : Type 0 where
  slots : State → PacketRecord → List Expected → PacketExample

-- A record of two lists, of queues 0 and 1.
abbrev pub record_of : List ℕ → List ℕ → Option Coming → ℕ → ℕ → PacketRecord
record_of zeros ones incoming asked left = record {
  lengths = λ q. get_or (zeros ∷ ones ∷ []) q [];
  incoming = incoming;
  asked = asked;
  left = left;
}

-- Tests: two lists of numbers are the same; two bytes or none; the packet coming in as a list.
abbrev same_list : List ℕ → List ℕ → Bool
same_list [] [] = true
same_list [] (n ∷ ns) = false
same_list (m ∷ ms) [] = false
same_list (m ∷ ms) (n ∷ ns) = eqb m n && same_list ms ns

abbrev same_byte : Option Byte → Option Byte → Bool
same_byte none none = true
same_byte none (some y) = false
same_byte (some x) none = false
same_byte (some x) (some y) = eqb x.queue y.queue && eqb x.value y.value

abbrev coming_list : Option Coming → List ℕ
coming_list none = []
coming_list (some c) = c.queue ∷ c.size ∷ c.bytes_in ∷ []

abbrev answers : ℕ → ℕ → ℕ → ℕ → Option Byte → PacketAnswer → Bool
answers number packet_number arrival_number request_number delivered a = all_true (
    eqb a.answer.reply.number number ∷
    eqb a.packet_number packet_number ∷
    eqb a.answer.reply.arrival_number arrival_number ∷
    eqb a.answer.reply.request_number request_number ∷
    same_byte a.answer.reply.delivered delivered ∷ [])

-- An answer is this outcome, with these numbers of the buffer's halves and this delivery.
abbrev meets : Outcome → ℕ → ℕ → Option Byte → PacketAnswer → Bool
meets taken i j y a = answers 0 0 i j y a
meets seven i j y a = answers 0 7 i j y a
meets (stopped n) i j y a = answers n 0 i j y a
meets (drops m n outcome) i j y a = meets outcome m n y a
meets (outcome delivering x) i j y a = meets outcome i j (some x) a
meets (outcome lists zeros and ones partly c asks q more n) i j y a = all_true (
    meets outcome i j y a ∷
    same_list (a.packets.lengths 0) zeros ∷
    same_list (a.packets.lengths 1) ones ∷
    same_list (coming_list a.packets.incoming) c ∷
    eqb a.packets.asked q ∷
    eqb a.packets.left n ∷ [])

-- Each slot has its outcome, and gets state, store and record as the one before left them. The store is just long
-- enough.
abbrev all_meet : State → List ℕ → PacketRecord → List Expected → Bool
all_meet x store r [] = true
all_meet x store r ((call ⇒ outcome) ∷ expected) =
    let a = packet_slot paper x store r call in
    meets outcome 0 0 none a && all_meet a.answer.state a.answer.store a.packets expected

abbrev pub holds : PacketExample → Bool
holds (slots x r expected) = all_meet x (replicate (store_bytes x.sizes) 0) r expected

-- Q 2, b 2, K 3, so that L is 3 and a queue's store has 6 bytes.
abbrev pub small : State
small = fresh paper (sizes 2 2 3)

-- The same with four bytes of queue 0, a block and two in the tail, the last of which just came.
abbrev four_bytes : State
four_bytes =
    made (sizes 2 2 3) phase 0 tail (byte 0 67 ∷ byte 0 68 ∷ []) head [] cells (replicate 3 empty) blocks (1 ∷ 0 ∷ [])

-- The same with queue 0 full, of three blocks.
abbrev full_queue : State
full_queue = made (sizes 2 2 3) phase 0 tail [] head [] cells (replicate 3 empty) blocks (3 ∷ 0 ∷ [])

-- A packet of queue 0 coming in, two of its three bytes in.
abbrev two_of_three : PacketRecord
two_of_three = record_of [] [] (some (coming 0 3 2)) 0 0

abbrev pub packet_examples : List PacketExample
packet_examples =
    -- "When its last byte is in, its length enters a list"; "a packet request is accepted once the packet is fully in.
    -- It becomes one byte request in each of the following accepted slots"; "its bytes leave in as many successive
    -- accepted slots". The packet's last byte comes in slot 2, and it does not stand in that slot yet.
    slots small fresh_record
    (starts 0 3 65 ⇒ taken lists [] and [] partly (0 ∷ 3 ∷ 1 ∷ []) asks 0 more 0 ∷
    next_byte 66 asking 0 ⇒ seven lists [] and [] partly (0 ∷ 3 ∷ 2 ∷ []) asks 0 more 0 ∷
    next_byte 67 asking 0 ⇒ seven lists (3 ∷ []) and [] partly [] asks 0 more 0 ∷
    starts 0 1 70 asking 0 ⇒ taken lists (1 ∷ []) and [] partly [] asks 0 more 3 ∷
    nothing asking 0 ⇒ seven lists (1 ∷ []) and [] partly [] asks 0 more 2 ∷
    nothing asking 0 ⇒ seven lists (1 ∷ []) and [] partly [] asks 0 more 1 ∷
    nothing asking 0 ⇒ seven lists (1 ∷ []) and [] partly [] asks 0 more 0 ∷
    nothing asking 0 ⇒ taken delivering byte 0 65 lists [] and [] partly [] asks 0 more 1 ∷
    nothing asking 0 ⇒ seven delivering byte 0 66 lists [] and [] partly [] asks 0 more 0 ∷
    nothing asking 0 ⇒ seven delivering byte 0 67 ∷
    nothing ⇒ taken ∷
    nothing ⇒ taken delivering byte 0 70 ∷
    nothing ⇒ taken ∷ []) ∷
    -- "One byte request in each of the following accepted slots, with no other request between": while a packet of
    -- queue 0 is asked for, one of queue 1 that stands gets 7. "Its queue": each list has its own.
    slots small fresh_record
    (starts 0 2 65 ⇒ taken ∷
    next_byte 66 ⇒ taken ∷
    starts 1 1 75 asking 0 ⇒ taken lists [] and (1 ∷ []) partly [] asks 0 more 2 ∷
    nothing asking 1 ⇒ seven lists [] and (1 ∷ []) partly [] asks 0 more 1 ∷
    nothing asking 1 ⇒ seven ∷
    nothing asking 1 ⇒ taken lists [] and [] partly [] asks 1 more 1 ∷
    nothing ⇒ taken delivering byte 0 65 lists [] and [] partly [] asks 1 more 0 ∷
    nothing ⇒ taken delivering byte 0 66 ∷
    nothing ⇒ taken ∷
    nothing ⇒ taken delivering byte 1 75 ∷ []) ∷
    -- 4 before 20: a start with queue Q and length 0.
    slots small fresh_record (starts 2 0 65 ⇒ stopped 4 ∷ []) ∷
    -- "20, length outside the range", and before 21; the ends of the range.
    slots small two_of_three
    (starts 0 0 65 ⇒ stopped 20 ∷
    starts 0 9_017 65 ⇒ stopped 20 lists [] and [] partly (0 ∷ 3 ∷ 2 ∷ []) asks 0 more 0 ∷
    starts 0 9_016 65 ⇒ stopped 21 ∷ []) ∷
    -- "or a next byte with no packet coming in"; before 6.
    slots small fresh_record (next_byte 65 ⇒ stopped 20 ∷ next_byte 65 asking 2 ⇒ stopped 20 ∷ []) ∷
    -- "21, at a start, the list holds 32 or another packet is still coming in": also where this slot's request would
    -- take one out, and before 22.
    slots small two_of_three (starts 1 1 65 ⇒ stopped 21 ∷ []) ∷
    slots four_bytes (record_of (replicate 32 1) [] none 0 0)
    (starts 0 7 65 ⇒ stopped 21 ∷ starts 0 1 65 asking 0 ⇒ stopped 21 ∷ starts 1 1 65 asking 0 ⇒ taken ∷ []) ∷
    slots four_bytes (record_of (replicate 31 1) [] none 0 0) (starts 0 1 65 ⇒ taken ∷ starts 0 1 65 ⇒ stopped 21 ∷ []) ∷
    -- "22, at a start, the queue's free store .. is below the length": 6 less 4. It comes before 6.
    slots four_bytes fresh_record
    (starts 0 3 65 ⇒ stopped 22 ∷ starts 0 3 65 asking 2 ⇒ stopped 22 ∷ starts 1 6 65 asking 2 ⇒ stopped 6 ∷
    starts 0 2 65 ⇒ taken ∷ []) ∷
    slots small fresh_record (starts 1 7 65 ⇒ stopped 22 ∷ starts 1 6 65 ⇒ taken ∷ []) ∷
    -- 6, of a packet request, also where it would get 7.
    slots small (record_of [] [] none 0 2) (nothing asking 2 ⇒ stopped 6 ∷ []) ∷
    -- A record that breaks a rule answers 3: "as many bytes in as the coming length"; "a list over 32"; "over 31 for
    -- the queue of a packet coming in"; "a listed or coming length outside the range"; "over 9,016 byte requests left";
    -- "a queue Q or more", also that of the packet last asked for where nothing is left of it.
    slots small (record_of [] [] (some (coming 0 3 3)) 0 0) (nothing ⇒ stopped 3 ∷ []) ∷
    slots small (record_of [] (replicate 33 1) none 0 0) (nothing ⇒ stopped 3 ∷ []) ∷
    slots small (record_of [] (replicate 32 1) (some (coming 1 3 2)) 0 0) (nothing ⇒ stopped 3 ∷ []) ∷
    slots small (record_of [] (4 ∷ 0 ∷ []) none 0 0) (nothing ⇒ stopped 3 ∷ []) ∷
    slots small (record_of [] (4 ∷ 9_017 ∷ []) none 0 0) (nothing ⇒ stopped 3 ∷ []) ∷
    slots small (record_of [] [] (some (coming 0 0 0)) 0 0) (nothing ⇒ stopped 3 ∷ []) ∷
    slots small (record_of [] [] (some (coming 0 9_017 2)) 0 0) (nothing ⇒ stopped 3 ∷ []) ∷
    slots small (record_of [] [] none 0 9_017) (nothing ⇒ stopped 3 ∷ []) ∷
    slots small (record_of [] [] (some (coming 2 3 1)) 0 0) (nothing ⇒ stopped 3 ∷ []) ∷
    slots small (record_of [] [] none 2 0) (nothing ⇒ stopped 3 ∷ []) ∷
    -- The ends of those rules are kept: 32 listed, 31 with a packet coming in, 9,016, no byte in, none left.
    slots small (record_of (replicate 32 9_016) (replicate 31 1) (some (coming 1 9_016 0)) 1 9_016)
    (nothing ⇒ drops 0 7 taken ∷ []) ∷
    -- State and record are not tied to each other. "Two sevens": the byte request's and the packet request's, and the
    -- byte request "that .. 7 drops is not counted".
    slots small (record_of (5 ∷ []) [] none 1 4)
    (nothing asking 0 ⇒ drops 0 7 seven lists (5 ∷ []) and [] partly [] asks 1 more 4 ∷ []) ∷
    -- "A byte .. that 5 .. drops is not counted in the record": the last byte of a packet, at a full queue.
    slots full_queue two_of_three
    (next_byte 67 ⇒ drops 5 0 taken lists [] and [] partly (0 ∷ 3 ∷ 2 ∷ []) asks 0 more 0 ∷ []) ∷
    -- A stop of the buffer's own comes last, and hands the record back: 8.
    slots (made (sizes 1 2 1) phase 0 tail [] head [] cells (owed 0 ∷ empty ∷ []) blocks (1 ∷ []))
    (record_of (2 ∷ []) [] none 0 0)
    (nothing asking 0 ⇒ stopped 8 lists (2 ∷ []) and [] partly [] asks 0 more 0 ∷ []) ∷ []

-- Rows that do not hold. Each says one thing otherwise than the slot that it names.
abbrev pub false_packet_examples : List PacketExample
false_packet_examples =
    slots small fresh_record (starts 0 3 65 ⇒ seven ∷ []) ∷
    slots small fresh_record (starts 0 3 65 ⇒ stopped 22 ∷ []) ∷
    slots small fresh_record (starts 0 3 65 ⇒ drops 5 0 taken ∷ []) ∷
    slots small fresh_record (starts 0 3 65 ⇒ drops 0 7 taken ∷ []) ∷
    slots small fresh_record (starts 0 3 65 ⇒ taken delivering byte 0 65 ∷ []) ∷
    slots small fresh_record (starts 0 3 65 ⇒ taken ∷ nothing asking 0 ⇒ taken ∷ []) ∷
    slots small fresh_record (next_byte 65 ⇒ stopped 21 ∷ []) ∷
    slots small fresh_record (starts 0 3 65 ⇒ taken lists (3 ∷ []) and [] partly (0 ∷ 3 ∷ 1 ∷ []) asks 0 more 0 ∷ []) ∷
    slots small fresh_record (starts 0 3 65 ⇒ taken lists [] and (3 ∷ []) partly (0 ∷ 3 ∷ 1 ∷ []) asks 0 more 0 ∷ []) ∷
    slots small fresh_record (starts 0 3 65 ⇒ taken lists [] and [] partly [] asks 0 more 0 ∷ []) ∷
    slots small fresh_record (starts 0 3 65 ⇒ taken lists [] and [] partly (0 ∷ 3 ∷ 0 ∷ []) asks 0 more 0 ∷ []) ∷
    slots small fresh_record (starts 0 3 65 ⇒ taken lists [] and [] partly (0 ∷ 3 ∷ 1 ∷ []) asks 1 more 0 ∷ []) ∷
    slots small fresh_record (starts 0 3 65 ⇒ taken lists [] and [] partly (0 ∷ 3 ∷ 1 ∷ []) asks 0 more 1 ∷ []) ∷ []
