-- Refusals 4 to 10 by the figures of a state, before anything moves. That they are the paper's own is shown where they
-- are put together (crates/slot_plan/proofs/PaperPlan.antt).
use Rattle.std.specs.Prelude.{◌≡◌, Bool, false, ◌&&◌, not, List, [], ◌∷◌, ℕ, ◌+◌, ◌-◌, ◌*◌, eqb, ltb, leb}
use Rattle.std.specs.Prelude.{Result, Ok, Err, IfOk, IfErr}
use Rattle.std.proofs.Math.Option.{Option, some, none}
use Rattle.model.specs.Basics.{choose, all_true, when, first_refusal}
use Rattle.model.specs.Sizes.{Sizes, tail_size, head_size}
use Rattle.model.specs.State.{Byte, Cell, empty, held, owed}
use Rattle.model.specs.Slot.{Call}
use Rattle.layout.specs.Calls.{call_in, number_of, number_in}
use Rattle.layout.specs.declared.Refusal.{Refusal}
use Rattle.layout.specs.Figures.{Figures}
use Rattle.slot_refusals.specs.declared.ArrivalJudged.{ArrivalJudged}
use Rattle.slot_refusals.specs.declared.Verdict.{Verdict}

-- Whether the request takes an Owed cell.
abbrev pub owes_now : Figures → Option ℕ → Bool
owes_now f none = false
owes_now f (some q) = choose (leb f.sizes.Q q) false (ltb (f.owed q) (f.heads q + f.sizes.b * f.blocks q))

-- Whether this slot's arrival is of a queue.
abbrev pub arrives_at : Option Byte → ℕ → Bool
arrives_at none q = false
arrives_at (some y) q = eqb y.queue q

-- A queue with no space left: "tail bytes + b × blocks equal K × b".
abbrev pub queue_full_now : Figures → ℕ → Bool
queue_full_now f q = eqb (f.tails q + f.sizes.b * f.blocks q) (f.sizes.K * f.sizes.b)

-- Whether the request is for this queue.
abbrev pub asks_for : Option ℕ → ℕ → Bool
asks_for none q = false
asks_for (some p) q = eqb p q

-- Whether the request makes room in a queue: it is for that queue and would be Held, and the tail already has a byte of
-- it.
abbrev pub room_tests_now : (ℕ → ℕ) → Bool → Option ℕ → ℕ → List Bool
room_tests_now tails owing request q = asks_for request q ∷ not owing ∷ ltb 0 (tails q) ∷ []

-- Request 2.1, whether the slot takes its request before its arrival: the arrival is of a known queue, which is full,
-- and the request makes room in it.
abbrev pub swap_tests_now : Figures → Bool → Byte → Option ℕ → List Bool
swap_tests_now f owing y request =
    ltb y.queue f.sizes.Q ∷ queue_full_now f y.queue ∷ room_tests_now f.tails owing request y.queue

abbrev pub swaps_now : Figures → Bool → Option Byte → Option ℕ → Bool
swaps_now f owing none request = false
swaps_now f owing (some y) request = all_true (swap_tests_now f owing y request)

-- 4: "Arrival queue Q or more." 5: "Arrival queue's tail bytes + b × blocks equal K × b", but for a slot that swaps.
abbrev pub arrival_number : Figures → Bool → Option Byte → ℕ
arrival_number f swapping none = 0
arrival_number f swapping (some y) =
    choose (leb f.sizes.Q y.queue) 4 (when (queue_full_now f y.queue && not swapping) 5)

-- What is judged of an arrival: 4, 5 or none, and whether the slot swaps, which it does not where 4 stops it.
abbrev pub arrival_told : Result ArrivalJudged Refusal → ℕ
arrival_told (Ok j) = choose j.dropped 5 0
arrival_told (Err refusal) = number_of refusal

abbrev pub swaps_told : Result ArrivalJudged Refusal → Bool
swaps_told (Ok j) = j.swaps
swaps_told (Err refusal) = false

pub record ArrivalSays (f : Figures) (owing : Bool) (call : Call) (r : Result ArrivalJudged Refusal) : Type 0 where
  pub swaps-is : swaps_told r ≡ swaps_now f owing call.arrival call.request
  pub number_is : arrival_told r ≡ arrival_number f (swaps_told r) call.arrival
  pub stops-is : IfErr r (λ refusal. number_of refusal ≡ 4)

-- 6: "Request queue Q or more." 7: "Request queue would take a tail byte and has none, this slot's arrival counted."
abbrev pub request_number : Figures → Bool → Option Byte → Option ℕ → ℕ
request_number f owing arrival none = 0
request_number f owing arrival (some q) =
    choose (leb f.sizes.Q q) 6
    (choose owing 0 (choose (arrives_at arrival q) 0 (when (eqb (f.tails q) 0) 7)))

-- What is judged of a request: 6, 7 or none.
abbrev pub request_told : Result Bool Refusal → ℕ
request_told (Ok dropped) = choose dropped 7 0
request_told (Err refusal) = number_of refusal

-- 8: "Owed cell leaving, no head byte of its queue."
abbrev pub leaving_number : (ℕ → ℕ) → Cell → ℕ
leaving_number heads empty = 0
leaving_number heads (held q v) = 0
leaving_number heads (owed q) = when (eqb (heads q) 0) 8

-- 9: "Tail full before the arrival"; where the slot swaps the request has taken a byte by then.
abbrev pub tail_number : Sizes → ℕ → Bool → Option Byte → ℕ
tail_number s fill swapping none = 0
tail_number s fill swapping (some y) = when (leb (tail_size s) (fill - choose swapping 1 0)) 9

-- Request 2.5, "5 and 7 refuse their half of the slot only": what is left of an arrival and of a request that were
-- judged so.
abbrev pub arrival_left : ℕ → Option Byte → Option Byte
arrival_left number arrival = choose (eqb number 5) none arrival

abbrev pub request_left : ℕ → Option ℕ → Option ℕ
request_left number request = choose (eqb number 7) none request

-- "7 is judged without a dropped arrival": the numbers of a call's arrival and of its request, and what is left of it.
abbrev pub arrival_found : Figures → Bool → Call → ℕ
arrival_found f owing call = arrival_number f (swaps_now f owing call.arrival call.request) call.arrival

abbrev pub request_found : Figures → Bool → Call → ℕ
request_found f owing call =
    request_number f owing (arrival_left (arrival_found f owing call) call.arrival) call.request

abbrev pub left_now : Figures → Bool → Call → Call
left_now f owing call = record {
  arrival = arrival_left (arrival_found f owing call) call.arrival;
  request = request_left (request_found f owing call) call.request;
}

-- "Every other refusal still stops the slot": 4, 6, 8 and 9, the first of them. 9 looks at what is left of the arrival.
abbrev pub early_number : Figures → Bool → Cell → Call → ℕ
early_number f owing cell call =
    first_refusal (
    when (eqb (arrival_found f owing call) 4) 4 ∷
    when (eqb (request_found f owing call) 6) 6 ∷
    leaving_number f.heads cell ∷
    tail_number f.sizes f.fill (swaps_now f owing call.arrival call.request) (left_now f owing call).arrival ∷
    [])

-- What is judged before the read: the number that stops the slot, and of a slot that goes on the numbers of its halves,
-- what is left of them, and whether it swaps.
pub record IsVerdict (f : Figures) (owing : Bool) (call : Call) (v : Verdict) : Type 0 where
  pub arrival-number_is : choose v.arrival_dropped 5 0 ≡ arrival_found f owing call
  pub request-number_is : choose v.request_dropped 7 0 ≡ request_found f owing call
  pub left_is : call_in v.call ≡ left_now f owing call
  pub swaps-is : v.swaps ≡ swaps_now f owing call.arrival call.request

pub record EarlySays (f : Figures) (owing : Bool) (cell : Cell) (call : Call) (r : Result Verdict Refusal) : Type 0 where
  pub number_is : number_in r ≡ early_number f owing cell call
  pub verdict_is : IfOk r (IsVerdict f owing call)

-- 10: "Head cannot take the block of step 4": a leaving Owed cell has taken a byte.
abbrev pub takes_byte : Cell → ℕ
takes_byte empty = 0
takes_byte (held q v) = 0
takes_byte (owed q) = 1

abbrev pub full_now : Sizes → ℕ → Cell → Option ℕ → Bool
full_now s fill cell none = false
full_now s fill cell (some q) = ltb (head_size s) (fill - takes_byte cell + s.b)
