-- Slots worked by hand, each with all that a step says: the nine of the README's table, and a refused one among them.
-- Q 2, b 2, K 4, so that L is 3 and the store has 16 bytes. Bytes a and b are of queue 0, x and y of queue 1. Then
-- where blocks lie in the store, and idle slots.
use Rattle.std.specs.Prelude.{◌≡◌, true, false, List, [], ◌∷◌, ℕ, take, replicate}
use Rattle.std.proofs.Math.Option.{Option, some, none}
use Rattle.model.specs.Basics.{update}
use Rattle.model.specs.Sizes.{Sizes, sizes, paper}
use Rattle.model.specs.State.{Byte, byte, Cell, empty, held, owed, ring, State, fresh, state_from}
use Rattle.model.specs.Slot.{Call}
use Rattle.model.specs.Calls.{arrival, request, both, idle}
use Rattle.model.specs.Lists.{Step, list_of, last_state, last_store, accepted, deliveries, arrivals_of, requests_of}
use Rattle.model.specs.Lists.{due_to_all}
use Rattle.model.specs.HighMarks.{greatest, tail_looks, head_looks}
use Rattle.model.specs.Idle.{quietly, leading_empties, move_due, quiet_of}

abbrev worked_sizes : Sizes
worked_sizes = sizes 2 2 4

abbrev a : Byte
a = byte 0 97

abbrev b : Byte
b = byte 0 98

abbrev x : Byte
x = byte 1 120

abbrev y : Byte
y = byte 1 121

-- The store as it is lent, and with the one block that is written: a and b, in block 0 of queue 0.
abbrev lent : List ℕ
lent = replicate 16 0

abbrev with_block : List ℕ
with_block = 97 ∷ 98 ∷ replicate 14 0

abbrev worked_calls : List Call
worked_calls =
    arrival 0 97 ∷
    arrival 0 98 ∷
    both 1 120 0 ∷
    both 1 121 1 ∷
    request 0 ∷
    both 2 99 0 ∷
    request 1 ∷
    idle ∷
    idle ∷
    idle ∷ []

-- A state: phase, tail, head, cells with the oldest first, queue 0's first block and block count, the two high marks.
-- Queue 1 has no block: its bytes travel in their cells. A caller's own requests leave the last one asked as a fresh
-- state has it.
infix 70 phase◌tail◌head◌cells◌first◌count◌marks◌and◌
abbrev phase◌tail◌head◌cells◌first◌count◌marks◌and◌ :
    ℕ → List Byte → List Byte → List Cell → ℕ → ℕ → ℕ → ℕ → State
phase p tail ts head hs cells cs first f count n marks t and h =
    state_from worked_sizes p ts hs cs (ring f n ∷ ring 0 0 ∷ []) t h 1

-- A step: its number, what it took, what it delivered, wrote and read, the slots left at the read, the fills of the
-- tail just after the arrival and of the head just after the read; store and state as it ends.
infix 70 number◌took◌and◌delivered◌wrote◌read◌left◌fills◌and◌store◌state◌
abbrev number◌took◌and◌delivered◌wrote◌read◌left◌fills◌and◌store◌state◌ :
    ℕ → Option Byte → Option ℕ → Option Byte → Option ℕ → Option ℕ → ℕ → ℕ → ℕ → List ℕ → State → Step
number n took ar and re delivered d wrote w read r left l fills t and h store st state s = record {
  reply = record {
    number = n;
    arrival_number = 0;
    request_number = 0;
    delivered = d;
    written = w;
    read = r;
    slots_left = l;
  };
  arrival = ar;
  request = re;
  state = s;
  store = st;
  joined_fill = t;
  read_fill = h;
}

abbrev worked_steps : List Step
worked_steps =
    -- 0: a arrives.
    number 0 took some a and none delivered none wrote none read none left 0 fills 1 and 0 store lent state
    (phase 1 tail (a ∷ []) head [] cells (empty ∷ empty ∷ empty ∷ []) first 0 count 0 marks 1 and 0) ∷
    -- 1: b arrives and completes the block, which is written.
    number 0 took some b and none delivered none wrote some 0 read none left 0 fills 2 and 0 store with_block state
    (phase 0 tail [] head [] cells (empty ∷ empty ∷ empty ∷ []) first 0 count 1 marks 2 and 0) ∷
    -- 2: x arrives, and queue 0 is asked: its byte is in the store, so that the cell is Owed.
    number 0 took some x and some 0 delivered none wrote none read none left 0 fills 1 and 0 store with_block state
    (phase 1 tail (x ∷ []) head [] cells (empty ∷ empty ∷ owed 0 ∷ []) first 0 count 1 marks 2 and 0) ∷
    -- 3: y arrives, and queue 1 is asked: x is in the tail and goes with its cell. The block is read, for the next but
    -- one to leave: in slot 5.
    number 0 took some y and some 1 delivered none wrote none read some 0 left 2 fills 2 and 2 store with_block state
    (phase 0 tail (y ∷ []) head (a ∷ b ∷ []) cells (empty ∷ owed 0 ∷ held 1 120 ∷ []) first 1 count 0 marks 2 and 2) ∷
    -- 4: queue 0 is asked.
    number 0 took none and some 0 delivered none wrote none read none left 0 fills 1 and 2 store with_block state
    (phase 1 tail (y ∷ []) head (a ∷ b ∷ []) cells (owed 0 ∷ held 1 120 ∷ owed 0 ∷ []) first 1 count 0 marks 2 and 2) ∷
    -- A byte of queue 2 arrives, and there is none such. The slot did not happen: it took nothing, and a stays.
    number 4 took none and none delivered none wrote none read none left 0 fills 1 and 2 store with_block state
    (phase 1 tail (y ∷ []) head (a ∷ b ∷ []) cells (owed 0 ∷ held 1 120 ∷ owed 0 ∷ []) first 1 count 0 marks 2 and 2) ∷
    -- 5: queue 1 is asked, and a leaves.
    number 0 took none and some 1 delivered some a wrote none read none left 0 fills 1 and 1 store with_block state
    (phase 0 tail [] head (b ∷ []) cells (held 1 120 ∷ owed 0 ∷ held 1 121 ∷ []) first 1 count 0 marks 2 and 2) ∷
    -- 6, 7 and 8: x, b and y leave.
    number 0 took none and none delivered some x wrote none read none left 0 fills 0 and 1 store with_block state
    (phase 1 tail [] head (b ∷ []) cells (owed 0 ∷ held 1 121 ∷ empty ∷ []) first 1 count 0 marks 2 and 2) ∷
    number 0 took none and none delivered some b wrote none read none left 0 fills 0 and 0 store with_block state
    (phase 0 tail [] head [] cells (held 1 121 ∷ empty ∷ empty ∷ []) first 1 count 0 marks 2 and 2) ∷
    number 0 took none and none delivered some y wrote none read none left 0 fills 0 and 0 store with_block state
    (phase 1 tail [] head [] cells (empty ∷ empty ∷ empty ∷ []) first 1 count 0 marks 2 and 2) ∷ []

-- What the definitions give of these slots is what was worked by hand: the fresh state, each step, the state that the
-- first four leave and the store in the end; of the accepted ones the deliveries, what is due to each, queue 0's
-- arrivals, queue 1's requests, and the fills as the caches are looked at.
pub record WorkedSlots : Type 0 where
  pub fresh-is :
      fresh paper worked_sizes
      ≡ (phase 0 tail [] head [] cells (empty ∷ empty ∷ empty ∷ []) first 0 count 0 marks 0 and 0)
  pub steps_are : list_of paper worked_sizes lent worked_calls ≡ worked_steps
  pub state_left :
      last_state paper (fresh paper worked_sizes) lent (take 4 worked_calls)
      ≡ (phase 0 tail (y ∷ []) head (a ∷ b ∷ []) cells (empty ∷ owed 0 ∷ held 1 120 ∷ []) first 1 count 0 marks 2 and 2)
  pub store_left : last_store paper (fresh paper worked_sizes) lent worked_calls ≡ with_block
  pub deliveries_are :
      deliveries (accepted worked_steps)
      ≡ (none ∷ none ∷ none ∷ none ∷ none ∷ some a ∷ some x ∷ some b ∷ some y ∷ [])
  pub due_are :
      due_to_all (accepted worked_steps)
      ≡ (none ∷ none ∷ some a ∷ some x ∷ some b ∷ some y ∷ none ∷ none ∷ none ∷ [])
  pub arrivals_are : arrivals_of 0 (accepted worked_steps) ≡ (97 ∷ 98 ∷ [])
  pub requests_are : requests_of 1 (accepted worked_steps) ≡ 2
  pub tail_looks_are : tail_looks (accepted worked_steps) ≡ (1 ∷ 2 ∷ 1 ∷ 2 ∷ 1 ∷ 1 ∷ 0 ∷ 0 ∷ 0 ∷ [])
  pub head_looks_are : head_looks (accepted worked_steps) ≡ (0 ∷ 0 ∷ 0 ∷ 2 ∷ 2 ∷ 1 ∷ 1 ∷ 0 ∷ 0 ∷ [])
  pub greatest_is : greatest (1 ∷ 3 ∷ 2 ∷ []) ≡ 3

-- Blocks in the store, with Q 2, b 2, K 2 and a byte beyond: block 0 of queue 1 is at place 4, its block 1 at place 6,
-- block 0 of queue 0 at place 0. Then block 0 of queue 1 is read, and its next one comes there.
abbrev pub block_slots : List Call
block_slots =
    arrival 1 65 ∷ arrival 1 66 ∷
    arrival 1 67 ∷ arrival 1 68 ∷
    arrival 0 69 ∷ arrival 0 70 ∷
    request 1 ∷ idle ∷
    arrival 1 71 ∷ arrival 1 72 ∷ []

pub record WorkedBlocks : Type 0 where
  pub three_written :
      last_store paper (fresh paper (sizes 2 2 2)) (replicate 9 0) (take 6 block_slots)
      ≡ (69 ∷ 70 ∷ 0 ∷ 0 ∷ 65 ∷ 66 ∷ 67 ∷ 68 ∷ 0 ∷ [])
  pub ring_turned :
      last_store paper (fresh paper (sizes 2 2 2)) (replicate 9 0) block_slots
      ≡ (69 ∷ 70 ∷ 0 ∷ 0 ∷ 71 ∷ 72 ∷ 67 ∷ 68 ∷ 0 ∷ [])

-- Idle slots. Two cells lead; a move is due where a queue has a block of tail bytes or an Owed cell is uncovered. Of n
-- idle slots those are quiet in which an empty cell leaves and no move is due; where all cells are empty, every one.
abbrev only_queue1 : ℕ → ℕ → ℕ
only_queue1 n = update (λ q. 0) 1 n

pub record WorkedIdle : Type 0 where
  pub two_lead : leading_empties (empty ∷ empty ∷ held 1 120 ∷ empty ∷ []) ≡ 2
  pub write_due : move_due worked_sizes (only_queue1 2) (only_queue1 0) [] ≡ true
  pub no_write_due : move_due worked_sizes (only_queue1 1) (only_queue1 0) [] ≡ false
  pub read_due : move_due worked_sizes (only_queue1 0) (only_queue1 1) (owed 1 ∷ owed 0 ∷ []) ≡ true
  pub no_read_due : move_due worked_sizes (only_queue1 0) (only_queue1 1) (owed 1 ∷ held 0 97 ∷ []) ≡ false
  pub before_the_move : quiet_of (sizes 2 4 1) 1 7 true 9 ≡ 2
  pub before_a_cell : quiet_of (sizes 2 4 1) 0 2 true 9 ≡ 2
  pub no_move_due : quiet_of (sizes 2 4 1) 1 6 false 9 ≡ 6
  pub all_empty : quiet_of (sizes 2 4 1) 1 7 false 9 ≡ 9
  pub no_more_than_asked : quiet_of (sizes 2 4 1) 1 6 false 5 ≡ 5
  pub passed :
      quietly 3 (phase 1 tail (y ∷ []) head [] cells (empty ∷ empty ∷ empty ∷ []) first 1 count 0 marks 2 and 2)
      ≡ (phase 0 tail (y ∷ []) head [] cells (empty ∷ empty ∷ empty ∷ []) first 1 count 0 marks 2 and 2)
  pub shifted :
      quietly 1 (phase 0 tail [] head (b ∷ []) cells (empty ∷ held 1 121 ∷ owed 0 ∷ []) first 1 count 0 marks 2 and 2)
      ≡ (phase 1 tail [] head (b ∷ []) cells (held 1 121 ∷ owed 0 ∷ empty ∷ []) first 1 count 0 marks 2 and 2)
