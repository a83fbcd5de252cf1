-- What the buffer promises, by the model's own definitions: the making of a state, and one slot.
use Rattle.std.specs.Prelude.{◌≡◌, true, List, ℕ, ◌<◌, ◌≤◌, length, get_or, Result, IfOk}
use Rattle.model.specs.Basics.{choose}
use Rattle.model.specs.Sizes.{sizes, paper, store_bytes}
use Rattle.model.specs.State.{State, empty, fresh, making_number, keeps}
use Rattle.model.specs.Slot.{Call, halves_taken, Answer, slot}
use Rattle.model.specs.Lists.{Promised}
use Rattle.layout.specs.Lengths.{cell_places}
use Rattle.layout.specs.Calls.{call_in, reply_in, number_in}
use Rattle.layout.specs.declared.Refusal.{Refusal}
use Rattle.layout.specs.Entries.{cell_of}
use Rattle.layout.specs.Views.{Arrays, arrays, state_in}
use Rattle.layout.specs.Fresh.{fresh_regs, fresh_arrays}
use Rattle.buffer.specs.declared.State as code
use Rattle.buffer.specs.declared.Judged.{Judged}
use Rattle.buffer.specs.declared.Slotted.{Slotted}

-- The state of the paper that a record holds. "Places past a fill or past cell L are no part of the state."
abbrev pub arrays_of : code.State → Arrays
arrays_of s = arrays s.tail s.head s.cells s.firsts s.stored

abbrev pub state_of : code.State → State
state_of s = state_in s.regs (arrays_of s)

-- A fresh record, every field of it.
abbrev pub fresh_state : ℕ → ℕ → ℕ → code.State
fresh_state q b k = record {
  regs = fresh_regs q b k;
  tail = fresh_arrays.tail;
  head = fresh_arrays.head;
  cells = fresh_arrays.cells;
  firsts = fresh_arrays.firsts;
  stored = fresh_arrays.stored;
}

-- A state as it was made: the fresh one, the paper's and the record itself, every field. "A fresh state has all L cells
-- empty from the start": each place of the array is.
pub record IsMade (q b k : ℕ) (s : code.State) : Type 0 where
  pub record_is : s ≡ fresh_state q b k
  pub fresh-is : state_of s ≡ fresh paper (sizes q b k)
  pub cells_empty : (i : ℕ) → i < cell_places → cell_of (get_or s.cells i 0) ≡ empty

-- "A making of a state checks 1 only." Accepted sizes give the fresh state; sizes outside the limits give 1.
pub record MakeSays (q b k : ℕ) (r : Result code.State Refusal) : Type 0 where
  pub number_is : number_in r ≡ making_number paper (sizes q b k)
  pub made_is : IfOk r (λ s. IsMade q b k s)

-- The numbers of the halves that a slot drops, or 0.
abbrev pub arrival_number_judged : Judged → ℕ
arrival_number_judged j = choose j.arrival_dropped 5 0

abbrev pub request_number_judged : Judged → ℕ
request_number_judged j = choose j.request_dropped 7 0

-- What is judged of a slot that is not refused: the numbers of its halves, and what is left of them.
pub record IsJudged (x : State) (bytes : ℕ) (call : Call) (j : Judged) : Type 0 where
  pub arrival-number_is : (store : List ℕ) → length store ≡ bytes
      → arrival_number_judged j ≡ (slot paper x store call).reply.arrival_number
  pub request-number_is : (store : List ℕ) → length store ≡ bytes
      → request_number_judged j ≡ (slot paper x store call).reply.request_number
  pub left_is : call_in j.call ≡ halves_taken x call

-- What judging a slot promises, of any state and any store of so many bytes: the very number that the slot answers, and
-- of a slot that goes on what it takes. `can_step`: where the number is neither 3 nor 2, the state keeps the rules and
-- the store is long enough.
pub record JudgeSays (x : State) (bytes : ℕ) (call : Call) (r : Result Judged Refusal) : Type 0 where
  pub number_is : (store : List ℕ) → length store ≡ bytes → number_in r ≡ (slot paper x store call).reply.number
  pub judged_is : IfOk r (λ j. IsJudged x bytes call j)
  pub can_step : (number_in r ≡ 3 → ⊥) → (number_in r ≡ 2 → ⊥) → (keeps paper x ≡ true) × (store_bytes x.sizes ≤ bytes)

-- A slot's answer in the model's terms.
abbrev pub answer_of : Slotted → List ℕ → Answer
answer_of r store = record { reply = reply_in r.reply; state = state_of r.state; store = store }

-- One slot: the answer, the whole state with its high marks and the whole store are those of the model's slot. On a
-- refusal the very record comes back, places past a fill included.
pub record SlotSays (s : code.State) (store : List ℕ) (call : Call) (r : Slotted) (store' : List ℕ) : Type 0 where
  pub promised : Promised paper (state_of s) store call (answer_of r store')
  pub as_given : ((reply_in r.reply).number ≡ 0 → ⊥) → r.state ≡ s

-- The same of a step, and that what it leaves can be stepped again.
pub record StepSays (s : code.State) (store : List ℕ) (call : Call) (r : Slotted) (store' : List ℕ) : Type 0 where
  pub says : SlotSays s store call r store'
  pub kept : keeps paper (state_of r.state) ≡ true
  pub same-sizes : (state_of r.state).sizes ≡ (state_of s).sizes
  pub same_length : length store' ≡ length store
