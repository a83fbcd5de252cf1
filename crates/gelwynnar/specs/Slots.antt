-- What slots promise whose state lies in arrays that a C caller lends, by the model's own slot.
use Rattle.std.specs.Prelude.{◌≡◌, true, false, List, ℕ, zero, suc, ◌-◌, ◌≤◌, length}
use Rattle.std.proofs.Math.Option.{Option, some, none}
use Rattle.model.specs.Basics.{All}
use Rattle.model.specs.Sizes.{sizes, paper_limits, accepts, paper, store_bytes}
use Rattle.model.specs.State.{Byte, State, fresh, making_number}
use Rattle.model.specs.Slot as model
use Rattle.model.specs.Slot.{Call, slot}
use Rattle.model.specs.Calls.{idles}
use Rattle.model.specs.Lists.{run, last_state, last_store}
use Rattle.model.specs.Idle.{QuietStep, stretch_length, last_answer}
use Rattle.layout.specs.Counts.{ByQueue}
use Rattle.layout.specs.declared.Regs.{Regs}
use Rattle.layout.specs.Views.{Arrays, regs_in, state_in}
use Rattle.layout.specs.Fresh.{fresh_regs, fresh_arrays, fresh_counts}
use Rattle.slot_in_place.specs.Says.{Ready}
use Rattle.gelwynnar.specs.declared.slots.Answer.{Answer}
use Rattle.gelwynnar.specs.declared.slots.Judgement.{Judgement}
use Rattle.gelwynnar.specs.declared.slots.Stretched.{Stretched}

-- An answer as numbers: 1 and its queue where there is one, else 0 and 0.
abbrev pub flag : {A : Type 0} → Option A → ℕ
flag none = 0
flag (some y) = 1

abbrev pub queue_told : Option ℕ → ℕ
queue_told none = 0
queue_told (some q) = q

abbrev pub delivery_told : Option Byte → ℕ
delivery_told none = 0
delivery_told (some y) = y.queue

abbrev pub value_told : Option Byte → ℕ
value_told none = 0
value_told (some y) = y.value

-- Which halves were dropped: 1 the arrival, 2 the request, 3 both.
abbrev pub dropped_told : ℕ → ℕ → ℕ
dropped_told zero zero = 0
dropped_told (suc m) zero = 1
dropped_told zero (suc n) = 2
dropped_told (suc m) (suc n) = 3

abbrev pub told : model.Reply → Answer
told r = record {
  number = r.number;
  dropped = dropped_told r.arrival_number r.request_number;
  delivers = flag r.delivered;
  writes = flag r.written;
  reads = flag r.read;
  value = value_told r.delivered;
  queue = delivery_told r.delivered;
  written = queue_told r.written;
  read = queue_told r.read;
  slots_left = r.slots_left;
}

-- "A making of a state checks 1 only." Accepted sizes give the fresh state, ready for slots with every store that is
-- long enough; with any other, all is as it came.
pub record OpenSays (q b k r : ℕ) (regs : List ℕ) (m : Arrays) (counts : ByQueue) (regs' : List ℕ) (m' : Arrays)
    (counts' : ByQueue) : Type 0 where
  pub number_is : r ≡ making_number paper (sizes q b k)
  pub fresh-is : accepts paper_limits (sizes q b k) ≡ true → state_in (regs_in regs') m' ≡ fresh paper (sizes q b k)
  pub places_are : accepts paper_limits (sizes q b k) ≡ true
      → (regs_in regs' ≡ fresh_regs q b k) × (m' ≡ fresh_arrays) × (counts' ≡ fresh_counts)
  pub ready : accepts paper_limits (sizes q b k) ≡ true
      → (store : List ℕ) → store_bytes (sizes q b k) ≤ length store → Ready (regs_in regs') m' counts' store
  pub as_given : accepts paper_limits (sizes q b k) ≡ false → (regs' ≡ regs) × (m' ≡ m) × (counts' ≡ counts)

-- One slot: the answer, the whole state and the whole store are those of the model's slot. On a refusal the registers
-- and the arrays are as they came, places past a fill included.
pub record SlotLentSays (regs : Regs) (m : Arrays) (store : List ℕ) (call : Call) (r : Answer) (regs' : Regs)
    (m' : Arrays) (store' : List ℕ) : Type 0 where
  pub answer-is : r ≡ told (slot paper (state_in regs m) store call).reply
  pub state_is : state_in regs' m' ≡ (slot paper (state_in regs m) store call).state
  pub store_is : store' ≡ (slot paper (state_in regs m) store call).store
  pub as_given : (r.number ≡ 0 → ⊥) → (regs' ≡ regs) × (m' ≡ m)

-- What a slot would answer, with any store of so many bytes: its number, and which halves it would drop.
pub record JudgeLentSays (x : State) (bytes : ℕ) (call : Call) (r : Judgement) : Type 0 where
  pub number_is : (store : List ℕ) → length store ≡ bytes → r.number ≡ (slot paper x store call).reply.number
  pub dropped_is : (store : List ℕ) → length store ≡ bytes
      → r.dropped
      ≡ dropped_told (slot paper x store call).reply.arrival_number (slot paper x store call).reply.request_number

-- One stretch of at most n idle slots: how many passed, all but the last being quiet, what the last of them answered,
-- the whole state and the whole store as they leave them.
pub record IdleLentSays (x : State) (store : List ℕ) (n : ℕ) (r : Stretched) (x' : State) (store' : List ℕ)
    : Type 0 where
  pub passed_is : r.passed ≡ stretch_length paper x store n
  pub quiet_first : All QuietStep (run paper x store (idles (r.passed - 1)))
  pub last_is : r.last ≡ told (last_answer paper x store r.passed).reply
  pub state_is : x' ≡ last_state paper x store (idles r.passed)
  pub store_is : store' ≡ last_store paper x store (idles r.passed)
