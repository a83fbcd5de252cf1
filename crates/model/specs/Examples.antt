-- Document 01, "Examples": C1 to C12 as one table. A row stands under the sentence that it renders and has the
-- sentence's numbers in the sentence's order; `holds` says what each kind of row claims.
use Rattle.std.specs.Prelude.{Bool, true, false, ◌&&◌, List, [], ◌∷◌, map, ℕ, ◌-◌, eqb, length, replicate, get_or}
use Rattle.std.proofs.Math.Option.{Option, some, none}
use Rattle.model.specs.Basics.{all_true}
use Rattle.model.specs.Sizes.{Sizes, sizes, lookahead, tail_size, head_size, store_bytes, Design, paper, one_fewer}
use Rattle.model.specs.Sizes.{paper_limits, sizing_number, sized_block}
use Rattle.model.specs.State.{Byte, byte, Cell, empty, held, owed, ring, State, fresh, making_number, owes}
use Rattle.model.specs.State.{with_phase, with_tail, with_head, with_cells, with_rings, with_tail_mark, with_head_mark}
use Rattle.model.specs.Slot.{Call, oldest_cell, Answer, slot}
use Rattle.model.specs.Calls.{arrival, request, both, idle}
use Rattle.model.specs.Lists as lists
use Rattle.model.specs.Arbiter.{choice, arbiter_slot}

-- What a slot is to answer. Each also says which block moves and what is delivered: none and nothing, but for what it
-- names.
infix 80 ◌delivering◌
infix 75 ◌fills◌and◌marks◌and◌
pub data Outcome : Type 0 where
  taken : Outcome
  -- Taken, and the block of this queue that moves; at a read, after the queue, in how many slots the cell leaves that
  -- the block was for.
  writes : ℕ → Outcome
  reads : ℕ → ℕ → Outcome
  -- Taken, and the youngest cell is Held, with this queue and byte.
  taken_held : ℕ → ℕ → Outcome
  -- An outcome of a slot of which a half or both are dropped, after the arrival's number and the request's.
  drops : ℕ → ℕ → Outcome → Outcome
  refused : ℕ → Outcome
  -- Refused with 8, and the cell that was to leave is Owed to this queue.
  misses : ℕ → Outcome
  -- An outcome, and the byte that is delivered with it.
  ◌delivering◌ : Outcome → Byte → Outcome
  -- An outcome, the fills of tail and head as the slot ends, and the two high marks, the tail's first.
  ◌fills◌and◌marks◌and◌ : Outcome → ℕ → ℕ → ℕ → ℕ → Outcome

-- A slot of a list beside the outcome that is expected of it. Of a slot in which the arbiter of request 2.2 chooses,
-- with an arrival or none: the outcome, the queue that it asks or none, and the last one asked after it.
infix 70 ◌⇒◌
infix 70 arbiter◌then◌asks◌last◌
pub data Expected : Type 0 where
  ◌⇒◌ : Call → Outcome → Expected
  arbiter◌then◌asks◌last◌ : Option Byte → Outcome → Option ℕ → ℕ → Expected

-- The kinds of row.
pub data Example : Type 0 where
  sizes_taken : (Q b K L : ℕ) → Example
  sizes_refused : (Q b K number : ℕ) → Example
  sizes_are : (Q b L tail head : ℕ) → Example
  block_is : (rate grade b : ℕ) → Example
  no_block : (rate grade number : ℕ) → Example
  -- A list of slots in a design, from a state.
  slots : Design → State → List Expected → Example
  -- The queue that the arbiter of request 2.2 chooses with this arrival or none, whatever comes of the slot.
  chooses : State → Option Byte → Option ℕ → Example

-- A made state, with what a sentence may name of it; blocks are by queue. The rest is as in a fresh state, but for the
-- marks: they must be at least the fills, and they are the fills.
infix 70 made◌phase◌tail◌head◌cells◌blocks◌
abbrev pub made◌phase◌tail◌head◌cells◌blocks◌ : Sizes → ℕ → List Byte → List Byte → List Cell → List ℕ → State
made s phase p tail ts head hs cells cs blocks ns =
    with_phase p
    (with_tail ts (with_tail_mark (length ts)
    (with_head hs (with_head_mark (length hs)
    (with_cells cs
    (with_rings (map (ring 0) ns)
    (fresh paper s)))))))

-- Tests: two numbers or none are the same, and two bytes or none; a cell is Held with this queue and byte; the
-- youngest of some cells.
abbrev same : Option ℕ → Option ℕ → Bool
same none none = true
same none (some n) = false
same (some m) none = false
same (some m) (some n) = eqb m n

abbrev same_byte : Option Byte → Option Byte → Bool
same_byte none none = true
same_byte none (some y) = false
same_byte (some x) none = false
same_byte (some x) (some y) = eqb x.queue y.queue && eqb x.value y.value

abbrev is_held : ℕ → ℕ → Cell → Bool
is_held q v empty = false
is_held q v (held p w) = eqb p q && eqb w v
is_held q v (owed p) = false

abbrev youngest_of : List Cell → Cell
youngest_of cs = get_or cs (length cs - 1) empty

-- A slot's answer has this number, these of its halves and this delivery; these are the queues written and read, and
-- the slots left at the read.
abbrev answers : ℕ → ℕ → ℕ → Option Byte → Option ℕ → Option ℕ → ℕ → Answer → Bool
answers number arrival_number request_number delivered written read slots_left a = all_true (
    eqb a.reply.number number ∷
    eqb a.reply.arrival_number arrival_number ∷
    eqb a.reply.request_number request_number ∷
    same_byte a.reply.delivered delivered ∷
    same a.reply.written written ∷
    same a.reply.read read ∷
    eqb a.reply.slots_left slots_left ∷ [])

-- An answer is this outcome, with these numbers of its halves and this delivery. A refused slot hands its state back as
-- given, so that the cell that was to leave is there still.
abbrev meets : Outcome → ℕ → ℕ → Option Byte → Answer → Bool
meets taken i j y a = answers 0 i j y none none 0 a
meets (writes q) i j y a = answers 0 i j y (some q) none 0 a
meets (reads q n) i j y a = answers 0 i j y none (some q) n a
meets (taken_held q v) i j y a = answers 0 i j y none none 0 a && is_held q v (youngest_of a.state.cells)
meets (drops m n outcome) i j y a = meets outcome m n y a
meets (refused n) i j y a = answers n i j y none none 0 a
meets (misses q) i j y a = answers 8 i j y none none 0 a && eqb (owes q (oldest_cell a.state.cells)) 1
meets (outcome delivering x) i j y a = meets outcome i j (some x) a
meets (outcome fills t and h marks m and n) i j y a = all_true (
    meets outcome i j y a ∷
    eqb (length a.state.tail) t ∷
    eqb (length a.state.head) h ∷
    eqb a.state.tail_mark m ∷
    eqb a.state.head_mark n ∷ [])

-- Each slot has its outcome, and gets state and store as the one before left them.
abbrev all_meet : Design → State → List ℕ → List Expected → Bool
all_meet design x store [] = true
all_meet design x store ((call ⇒ outcome) ∷ expected) =
    let a = slot design x store call in meets outcome 0 0 none a && all_meet design a.state a.store expected
all_meet design x store ((arbiter arrival then outcome asks q last n) ∷ expected) =
    let a = arbiter_slot design x store arrival in
    all_true (
    meets outcome 0 0 none a ∷
    same (lists.taken a.reply.number (choice x arrival)) q ∷
    eqb a.state.last_asked n ∷
    all_meet design a.state a.store expected ∷ [])

-- What rests on Q and b alone is taken with K 1. A list of slots gets a store that is just long enough.
abbrev pub holds : Example → Bool
holds (sizes_taken q b k l) = eqb (making_number paper (sizes q b k)) 0 && eqb (lookahead (sizes q b k)) l
holds (sizes_refused q b k n) = eqb (making_number paper (sizes q b k)) n
holds (sizes_are q b l t h) = all_true (
    eqb (lookahead (sizes q b 1)) l ∷
    eqb (tail_size (sizes q b 1)) t ∷
    eqb (head_size (sizes q b 1)) h ∷ [])
holds (block_is rate grade b) = eqb (sizing_number rate grade) 0 && same (sized_block rate grade) (some b)
holds (no_block rate grade n) = eqb (sizing_number rate grade) n && same (sized_block rate grade) none
holds (slots design x expected) = all_meet design x (replicate (store_bytes x.sizes) 0) expected
holds (chooses x arrival q) = same (choice x arrival) q

-- C1 to C12. Where a sentence names no K, it is 1. A made state keeps the rules and the store is long enough: 3 and 2
-- are judged first, and no row answers them.
abbrev pub examples : List Example
examples =
    -- C1: "Q 63, b 33, K 1 is taken, L 2,017."
    sizes_taken 63 33 1 2_017 ∷
    -- C2: "Q 64, b 33, K 1 answers 1."
    sizes_refused 64 33 1 1 ∷
    -- C3: "Q 4, b 3: L 9, tail 11, head 17."
    sizes_are 4 3 9 11 17 ∷
    -- C4: "Q 1, b 1: 1, 1, 1."
    sizes_are 1 1 1 1 1 ∷
    -- C5: "10 Gb/s, grade 9: b 125."
    block_is 10 9 125 ∷
    -- C6: "51 Gb/s, grade 1: 128."
    block_is 51 1 128 ∷
    -- C7: "52, grade 1: 11."
    no_block 52 1 11 ∷
    -- C8: "Q 1, b 2, K 1: two arrivals are taken, the third answers 5. Once the block has been read, it is taken."
    -- The second arrival completes the block. It is read on a request, and until it is read 5 stays, also in the slot
    -- that reads it. By request 2.5 the arrival alone is dropped.
    slots paper (fresh paper (sizes 1 2 1))
    (arrival 0 65 ⇒ taken ∷
    arrival 0 66 ⇒ writes 0 ∷
    arrival 0 67 ⇒ drops 5 0 taken ∷
    idle ⇒ taken ∷
    request 0 ⇒ taken ∷
    arrival 0 67 ⇒ drops 5 0 (reads 0 1) ∷
    arrival 0 67 ⇒ taken delivering byte 0 65 ∷ []) ∷
    -- C9: "empty queue, arrival and request of it in one slot: taken, Held." With b 1 the byte would be a block, and it
    -- does not go to slow store.
    slots paper (fresh paper (sizes 1 1 1))
    (both 0 65 0 ⇒ taken_held 0 65 ∷ []) ∷
    -- "The request without the arrival: 7." By request 2.5 the request alone is dropped.
    slots paper (fresh paper (sizes 1 1 1))
    (request 0 ⇒ drops 0 7 taken ∷ []) ∷
    -- The same where a byte is about to leave: it leaves in that slot.
    slots paper (fresh paper (sizes 1 1 1))
    (both 0 65 0 ⇒ taken_held 0 65 ∷ request 0 ⇒ drops 0 7 taken delivering byte 0 65 ∷ idle ⇒ taken ∷ []) ∷
    -- Both of queue 1, with bytes of queue 0 in either cache.
    slots paper (made (sizes 2 2 1) phase 0 tail (byte 0 66 ∷ []) head (byte 0 65 ∷ [])
    cells (replicate 3 empty) blocks (0 ∷ 0 ∷ []))
    (request 1 ⇒ drops 0 7 taken ∷
    both 1 67 1 ⇒ taken_held 1 67 ∷ []) ∷
    -- C10: "Q 2, b 2, a block of each queue stored, phase 0: request 1, then 0. The first read is of queue 1, the next
    -- of queue 0." The store holds zeros, and so do the bytes delivered.
    slots paper (made (sizes 2 2 1) phase 0 tail [] head [] cells (replicate 3 empty) blocks (1 ∷ 1 ∷ []))
    (request 1 ⇒ taken ∷ request 0 ⇒ reads 1 2 ∷ idle ⇒ taken ∷
    idle ⇒ reads 0 1 delivering byte 1 0 ∷ idle ⇒ taken delivering byte 0 0 ∷ []) ∷
    -- "With 2 cells instead of 3, queue 0 misses."
    slots (one_fewer paper_limits)
    (made (sizes 2 2 1) phase 0 tail [] head [] cells (replicate 2 empty) blocks (1 ∷ 1 ∷ []))
    (request 1 ⇒ taken ∷ request 0 ⇒ reads 1 1 ∷ idle ⇒ taken delivering byte 1 0 ∷ idle ⇒ misses 0 ∷ []) ∷
    -- Both from a fresh state, where arrivals store the blocks.
    slots paper (fresh paper (sizes 2 2 1))
    (arrival 0 65 ⇒ taken ∷ arrival 0 66 ⇒ writes 0 ∷ arrival 1 67 ⇒ taken ∷ arrival 1 68 ⇒ writes 1 ∷
    request 1 ⇒ taken ∷ request 0 ⇒ reads 1 2 ∷ idle ⇒ taken ∷
    idle ⇒ reads 0 1 delivering byte 1 67 ∷ idle ⇒ taken delivering byte 0 65 ∷ []) ∷
    slots (one_fewer paper_limits) (fresh (one_fewer paper_limits) (sizes 2 2 1))
    (arrival 0 65 ⇒ taken ∷ arrival 0 66 ⇒ writes 0 ∷ arrival 1 67 ⇒ taken ∷ arrival 1 68 ⇒ writes 1 ∷
    request 1 ⇒ taken ∷ request 0 ⇒ reads 1 1 ∷ idle ⇒ taken delivering byte 1 67 ∷ idle ⇒ misses 0 ∷ []) ∷
    -- C11: "a made state, Q 1, b 2, K 1, one block, empty head, oldest cell Owed and the other empty, idle slot: 8."
    -- It names no phase, so in both; a read in the same slot comes too late.
    slots paper (made (sizes 1 2 1) phase 0 tail [] head [] cells (owed 0 ∷ empty ∷ []) blocks (1 ∷ []))
    (idle ⇒ refused 8 ∷ []) ∷
    slots paper (made (sizes 1 2 1) phase 1 tail [] head [] cells (owed 0 ∷ empty ∷ []) blocks (1 ∷ []))
    (idle ⇒ refused 8 ∷ []) ∷
    -- C12: "made states. Q 1, b 2, K 2, three tail bytes, arrival: 9."
    -- In both phases; a write in the same slot comes too late.
    slots paper
    (made (sizes 1 2 2) phase 0 tail (replicate 3 (byte 0 65)) head [] cells (replicate 2 empty) blocks (0 ∷ []))
    (arrival 0 66 ⇒ refused 9 ∷ []) ∷
    slots paper
    (made (sizes 1 2 2) phase 1 tail (replicate 3 (byte 0 65)) head [] cells (replicate 2 empty) blocks (0 ∷ []))
    (arrival 0 66 ⇒ refused 9 ∷ []) ∷
    -- "Q 2, b 2, phase 1, four head bytes of queue 1, one block of queue 0, youngest cell Owed to 0 and the others
    -- empty, idle slot: 10."
    slots paper (made (sizes 2 2 1) phase 1 tail [] head (replicate 4 (byte 1 65))
    cells (empty ∷ empty ∷ owed 0 ∷ []) blocks (1 ∷ 0 ∷ []))
    (idle ⇒ refused 10 ∷ []) ∷ []
