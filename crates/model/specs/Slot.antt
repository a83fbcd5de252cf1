-- Document 01, "One slot" and "What refusals hand back" (2 to 10): the five steps, the refusals, and the slot itself;
-- document 02, 2.1: which slots swap; 2.5: what is left of a call; 2.6: slots left at a read.
use Rattle.std.specs.Prelude.{Bool, false, ◌&&◌, not, List, [], ◌∷◌, ◌++◌, ℕ, zero, suc, ◌+◌, ◌-◌, ◌*◌, ◌%◌, max, eqb, ltb, leb, length, take, drop, set}
use Rattle.std.proofs.Math.Option.{Option, some, none}
use Rattle.std.proofs.Math.ListN.{get_elem?}
use Rattle.model.specs.Basics.{choose, update, all_true, when, first_refusal}
use Rattle.model.specs.Sizes.{Sizes, Design, tail_size, head_size, store_bytes, block_place}
use Rattle.model.specs.State.{Byte, byte, Cell, empty, held, owed, Ring, ring, State, values_of, count_of}
use Rattle.model.specs.State.{with_phase, with_tail, with_head, with_cells, with_rings, with_tail_mark, with_head_mark}
use Rattle.model.specs.State.{tail_bytes, head_bytes, owed_cells, ring_of, blocks, keeps}

-- "A slot may have one arrival (queue, byte) and one request (queue)."
pub record Call : Type 0 where
  pub arrival : Option Byte
  pub request : Option ℕ

-- A value as a byte of its queue.
abbrev pub as_byte : ℕ → Option ℕ → Option Byte
as_byte q none = none
as_byte q (some v) = some (byte q v)

-- The oldest byte of a queue in a cache; the cache without the n oldest of it.
abbrev pub oldest_of : ℕ → List Byte → Option ℕ
oldest_of q xs = get_elem? (values_of q xs) 0

abbrev pub without : ℕ → ℕ → List Byte → List Byte
without zero q xs = xs
without (suc n) q [] = []
without (suc n) q (x ∷ xs) = choose (eqb x.queue q) (without n q xs) (x ∷ without (suc n) q xs)

-- 1. "The oldest cell leaves." (There is none only with one cell fewer and b = 1.)
abbrev pub oldest_cell : List Cell → Cell
oldest_cell [] = empty
oldest_cell (cell ∷ cells) = cell

-- "Held delivers its own byte. Owed delivers the oldest head byte of its queue. Empty delivers nothing."
abbrev pub delivery_of : Cell → List Byte → Option Byte
delivery_of empty head = none
delivery_of (held q v) head = some (byte q v)
delivery_of (owed q) head = as_byte q (oldest_of q head)

abbrev pub head_without : Cell → List Byte → List Byte
head_without empty head = head
head_without (held q v) head = head
head_without (owed q) head = without 1 q head

abbrev pub delivery : State → Option Byte
delivery x = delivery_of (oldest_cell x.cells) x.head

abbrev pub after_delivery : State → State
after_delivery x =
    with_head (head_without (oldest_cell x.cells) x.head)
    (with_cells (drop 1 x.cells) x)

-- 2. "The arriving byte joins the tail." Of the tail's high mark request 2.8 says: "the tail is looked at just after
-- the arrival joins it", and the mark is "the greater of the old one and the new fill". Where nothing arrives, the
-- mark of a state that keeps the rules is at least the fill already.
abbrev pub arriving : Option Byte → List Byte
arriving none = []
arriving (some y) = y ∷ []

abbrev pub after_arrival : Option Byte → State → State
after_arrival arrival x =
    with_tail (x.tail ++ arriving arrival)
    (with_tail_mark (max x.tail_mark (length (x.tail ++ arriving arrival))) x)

-- 3. "The request takes the youngest cell. It is Owed if the queue's head bytes + b × blocks exceed its Owed cells.
-- Otherwise it is Held and takes the oldest tail byte of its queue. With no request the cell is empty." In an
-- accepted slot the test gives the same before and after step 1: an Owed cell that leaves takes a head byte with it.
abbrev pub is_owed : State → ℕ → Bool
is_owed x q = ltb (owed_cells x q) (head_bytes x q + x.sizes.b * blocks x q)

abbrev pub held_cell : ℕ → Option ℕ → Cell
held_cell q none = empty
held_cell q (some v) = held q v

abbrev pub youngest_cell : State → Option ℕ → Cell
youngest_cell x none = empty
youngest_cell x (some q) = choose (is_owed x q) (owed q) (held_cell q (oldest_of q x.tail))

abbrev pub tail_left : State → Option ℕ → List Byte
tail_left x none = x.tail
tail_left x (some q) = choose (is_owed x q) x.tail (without 1 q x.tail)

abbrev pub after_request : Option ℕ → State → State
after_request request x =
    with_tail (tail_left x request)
    (with_cells (x.cells ++ youngest_cell x request ∷ []) x)

-- 4. "If the phase is b - 1, two moves follow."
abbrev pub moves : State → Bool
moves x = eqb x.phase (x.sizes.b - 1)

-- "First a write: among queues with b tail bytes or more, the one with most (lowest number on a tie)." The queues 0
-- to n - 1 are looked at in turn, and a later one is taken only where it has more.
abbrev pub fuller : ℕ → (ℕ → ℕ) → ℕ → Option ℕ → Option ℕ
fuller b bytes q none = choose (leb b (bytes q)) (some q) none
fuller b bytes q (some p) = choose (ltb (bytes p) (bytes q)) (some q) (some p)

abbrev pub fullest : ℕ → (ℕ → ℕ) → ℕ → Option ℕ
fullest b bytes zero = none
fullest b bytes (suc n) = fuller b bytes n (fullest b bytes n)

abbrev pub queue_to_write : State → Option ℕ
queue_to_write x = choose (moves x) (fullest x.sizes.b (tail_bytes x) x.sizes.Q) none

-- ".. sends its b oldest to the next ring block": "each queue uses its K blocks as a ring from block 0".
abbrev pub next_block : State → ℕ → ℕ
next_block x q = ((ring_of x.rings q).first + (ring_of x.rings q).count) % x.sizes.K

-- The store with these values from this place on, all other bytes as they were.
abbrev pub placed : ℕ → List ℕ → List ℕ → List ℕ
placed place values store = take place store ++ (values ++ drop (place + length values) store)

abbrev pub tail_written : Option ℕ → State → List Byte
tail_written none x = x.tail
tail_written (some q) x = without x.sizes.b q x.tail

abbrev pub rings_written : Option ℕ → State → List Ring
rings_written none x = x.rings
rings_written (some q) x =
    set x.rings q (ring (ring_of x.rings q).first ((ring_of x.rings q).count + 1))

abbrev pub after_write : Option ℕ → State → State
after_write written x =
    with_tail (tail_written written x)
    (with_rings (rings_written written x) x)

abbrev pub store_written : Option ℕ → State → List ℕ → List ℕ
store_written none x store = store
store_written (some q) x store =
    placed (block_place x.sizes q (next_block x q)) (take x.sizes.b (values_of q x.tail)) store

-- "Then a read: scan the cells from the oldest and stop at the first Owed cell that its queue's head bytes do not
-- cover." Each Owed cell uses one of its queue's head bytes, its credits; the first that finds none left is the one.
abbrev pub refill_queue : (ℕ → ℕ) → List Cell → Option ℕ
refill_queue credits [] = none
refill_queue credits (empty ∷ cells) = refill_queue credits cells
refill_queue credits (held q v ∷ cells) = refill_queue credits cells
refill_queue credits (owed q ∷ cells) =
    choose (eqb (credits q) 0)
    (some q)
    (refill_queue (update credits q (credits q - 1)) cells)

abbrev pub queue_to_read : State → Option ℕ
queue_to_read x = choose (moves x) (refill_queue (head_bytes x) x.cells) none

-- Request 2.6: "The choice of the block to read must also say in how many slots the uncovered cell leaves, counted
-- after the slot's own delivery": its place among the cells of the same scan, the oldest being 1, since a cell that is
-- the oldest now leaves in the next slot. "0 where nothing is read": 0 is no place. A place, behind k more cells:
abbrev pub places_on : ℕ → ℕ → ℕ
places_on k zero = 0
places_on k (suc n) = suc n + k

abbrev pub refill_place : (ℕ → ℕ) → List Cell → ℕ
refill_place credits [] = 0
refill_place credits (empty ∷ cells) = places_on 1 (refill_place credits cells)
refill_place credits (held q v ∷ cells) = places_on 1 (refill_place credits cells)
refill_place credits (owed q ∷ cells) =
    choose (eqb (credits q) 0)
    1
    (places_on 1 (refill_place (update credits q (credits q - 1)) cells))

abbrev pub slots_to_refill : State → ℕ
slots_to_refill x = choose (moves x) (refill_place (head_bytes x) x.cells) 0

-- Queue and slots left as one choice, for the code that makes it: of a scan, and of a state.
pub record Refill : Type 0 where
  pub queue : Option ℕ
  pub slots_left : ℕ

abbrev pub refill_by : (ℕ → ℕ) → List Cell → Refill
refill_by credits cells = record { queue = refill_queue credits cells; slots_left = refill_place credits cells }

abbrev pub no_refill : Refill
no_refill = record { queue = none; slots_left = 0 }

abbrev pub refill_of : State → Refill
refill_of x = record { queue = queue_to_read x; slots_left = slots_to_refill x }

abbrev pub onward : ℕ → Refill → Refill
onward k r = record { queue = r.queue; slots_left = places_on k r.slots_left }

-- "That queue's first block goes to the head." "A block that was read frees its place for writing."
abbrev pub block_at : Sizes → List ℕ → ℕ → ℕ → List ℕ
block_at s store q k = take s.b (drop (block_place s q k) store)

abbrev pub bytes_for : ℕ → List ℕ → List Byte
bytes_for q [] = []
bytes_for q (v ∷ vs) = byte q v ∷ bytes_for q vs

abbrev pub head_read : Option ℕ → State → List ℕ → List Byte
head_read none x store = x.head
head_read (some q) x store =
    x.head ++ bytes_for q (block_at x.sizes store q (ring_of x.rings q).first)

abbrev pub rings_read : Option ℕ → State → List Ring
rings_read none x = x.rings
rings_read (some q) x =
    set x.rings q (ring (((ring_of x.rings q).first + 1) % x.sizes.K) ((ring_of x.rings q).count - 1))

-- "The head is looked at just after the read."
abbrev pub after_read : Option ℕ → State → List ℕ → State
after_read readQueue x store =
    with_head (head_read readQueue x store)
    (with_head_mark (max x.head_mark (length (head_read readQueue x store)))
    (with_rings (rings_read readQueue x) x))

-- 5. "The phase rises by one, and after b - 1 comes 0."
abbrev pub after_phase : State → State
after_phase x = with_phase (choose (moves x) 0 (x.phase + 1)) x

-- A queue with no space left: "tail bytes + b × blocks equal K × b".
abbrev pub is_full : State → ℕ → Bool
is_full x q = eqb (tail_bytes x q + x.sizes.b * blocks x q) (x.sizes.K * x.sizes.b)

-- Request 2.1: "Where the arrival's queue is full, the request is for that queue, the request would be Held, and the
-- tail already has a byte of it, take the request before the arrival." Judged on the state as handed in.
abbrev pub swap_tests : State → Byte → ℕ → List Bool
swap_tests x y q = is_full x y.queue ∷ eqb q y.queue ∷ not (is_owed x q) ∷ ltb 0 (tail_bytes x q) ∷ []

abbrev pub swaps : State → Option Byte → Option ℕ → Bool
swaps x none request = false
swaps x (some y) none = false
swaps x (some y) (some q) = all_true (swap_tests x y q)

-- The arrival joins early, before the request, or late, after it, where the slot swaps: one of the two is none.
abbrev pub early_arrival : State → Call → Option Byte
early_arrival x call = choose (swaps x call.arrival call.request) none call.arrival

abbrev pub late_arrival : State → Call → Option Byte
late_arrival x call = choose (swaps x call.arrival call.request) call.arrival none

-- The state along a slot: after the early arrival, after the request and the late arrival, after the write (with its
-- store), after the read.
abbrev pub joined : State → Call → State
joined x call = after_arrival (early_arrival x call) (after_delivery x)

abbrev pub asked : State → Call → State
asked x call = after_arrival (late_arrival x call) (after_request call.request (joined x call))

abbrev pub wrote : State → Call → State
wrote x call = after_write (queue_to_write (asked x call)) (asked x call)

abbrev pub wrote_store : State → List ℕ → Call → List ℕ
wrote_store x store call = store_written (queue_to_write (asked x call)) (asked x call) store

abbrev pub refilled : State → List ℕ → Call → State
refilled x store call = after_read (queue_to_read (wrote x call)) (wrote x call) (wrote_store x store call)

-- Refusals 4 to 9 "are judged on the state as handed in, before the oldest cell leaves".
-- 4: "Arrival queue Q or more."
abbrev pub arrival_unknown : State → Option Byte → Bool
arrival_unknown x none = false
arrival_unknown x (some y) = leb x.sizes.Q y.queue

-- 5: "Arrival queue's tail bytes + b × blocks equal K × b", but for a slot that swaps.
abbrev pub arrival_full : State → Option Byte → Option ℕ → Bool
arrival_full x none request = false
arrival_full x (some y) request = is_full x y.queue && not (swaps x (some y) request)

-- 6: "Request queue Q or more."
abbrev pub request_unknown : State → Option ℕ → Bool
request_unknown x none = false
request_unknown x (some q) = leb x.sizes.Q q

-- 7: "Request queue would take a tail byte and has none, this slot's arrival counted."
abbrev pub nothing_to_take : State → Option Byte → Option ℕ → Bool
nothing_to_take x arrival none = false
nothing_to_take x arrival (some q) = not (is_owed x q) && eqb (count_of q (x.tail ++ arriving arrival)) 0

-- 8: "Owed cell leaving, no head byte of its queue."
abbrev pub leaves_uncovered : Cell → State → Bool
leaves_uncovered empty x = false
leaves_uncovered (held q v) x = false
leaves_uncovered (owed q) x = eqb (head_bytes x q) 0

-- 9: "Tail full before the arrival"; where the slot swaps, "9 looks at the tail after the request".
abbrev pub tail_found : State → Option Byte → Option ℕ → List Byte
tail_found x arrival request = choose (swaps x arrival request) (tail_left x request) x.tail

abbrev pub tail_full : State → Option Byte → Option ℕ → Bool
tail_full x none request = false
tail_full x (some y) request = leb (tail_size x.sizes) (length (tail_found x (some y) request))

-- 10: "Head cannot take the block of step 4", "judged as step 4 finds the head".
abbrev pub head_full : State → Option ℕ → Bool
head_full x none = false
head_full x (some q) = ltb (head_size x.sizes) (length x.head + x.sizes.b)

-- Request 2.5: "5 and 7 refuse their half of the slot only. The slot runs without that half." "A dropped half is absent
-- for every later test, so 7 is judged without a dropped arrival." What is left of a call:
abbrev pub arrival_taken : State → Call → Option Byte
arrival_taken x call = choose (arrival_full x call.arrival call.request) none call.arrival

abbrev pub request_drops : State → Call → Bool
request_drops x call = nothing_to_take x (arrival_taken x call) call.request

abbrev pub halves_taken : State → Call → Call
halves_taken x call = record {
  arrival = arrival_taken x call;
  request = choose (request_drops x call) none call.request;
}

-- "Every other refusal still stops the slot and is then its only answer." "3 is judged before 2, since the sizes must
-- be good first; then the rest by number." 4 and 6 look at the call as it came, 9 and 10 at what is left of it.
abbrev pub refusals : Design → State → List ℕ → Call → List ℕ
refusals design x store call =
    let halves = halves_taken x call in
    when (not (keeps design x)) 3 ∷
    when (ltb (length store) (store_bytes x.sizes)) 2 ∷
    when (arrival_unknown x call.arrival) 4 ∷
    when (request_unknown x call.request) 6 ∷
    when (leaves_uncovered (oldest_cell x.cells) x) 8 ∷
    when (tail_full x halves.arrival halves.request) 9 ∷
    when (head_full (wrote x halves) (queue_to_read (wrote x halves))) 10 ∷ []

abbrev pub refusal : Design → State → List ℕ → Call → ℕ
refusal design x store call = first_refusal (refusals design x store call)

-- What a slot tells: "An accepted slot answers 0 with the delivery, the queue written and the queue read, or none for
-- each." And "each half has its own answer, so both numbers may come together": 5 or 0 for the arrival, 7 or 0 for the
-- request. At a read also in how many slots the cell leaves that it was for, "and 0 where nothing is read" (2.6).
pub record Reply : Type 0 where
  pub number : ℕ
  pub arrival_number : ℕ
  pub request_number : ℕ
  pub delivered : Option Byte
  pub written : Option ℕ
  pub read : Option ℕ
  pub slots_left : ℕ

-- A number, and nothing else to tell.
abbrev pub number_alone : ℕ → Reply
number_alone n = record {
  number = n;
  arrival_number = 0;
  request_number = 0;
  delivered = none;
  written = none;
  read = none;
  slots_left = 0;
}

-- The state goes into a slot and is handed back by it, and so is the store.
pub record Answer : Type 0 where
  pub reply : Reply
  pub state : State
  pub store : List ℕ

-- The five steps of a slot of which these halves are taken, with the numbers of those that are not.
abbrev pub carried_out : ℕ → ℕ → State → List ℕ → Call → Answer
carried_out arrival_number request_number x store call = record {
  reply = record {
    number = 0;
    arrival_number = arrival_number;
    request_number = request_number;
    delivered = delivery x;
    written = queue_to_write (asked x call);
    read = queue_to_read (wrote x call);
    slots_left = slots_to_refill (wrote x call);
  };
  state = after_phase (refilled x store call);
  store = wrote_store x store call;
}

abbrev pub accept : State → List ℕ → Call → Answer
accept x store call =
    carried_out (when (arrival_full x call.arrival call.request) 5) (when (request_drops x call) 7) x store
    (halves_taken x call)

-- "A refused slot did not happen: no cell moves, no phase passes." State and store are as given.
abbrev pub refuse : ℕ → State → List ℕ → Answer
refuse n x store = record { reply = number_alone n; state = x; store = store }

abbrev pub answer : ℕ → State → List ℕ → Call → Answer
answer zero x store call = accept x store call
answer (suc n) x store call = refuse (suc n) x store

-- One slot.
abbrev pub slot : Design → State → List ℕ → Call → Answer
slot design x store call = answer (refusal design x store call) x store call
