-- What a slot will do, by the figures of a state and before anything moves. That it is what the paper's steps find on
-- their way is in proofs/PaperPlan.antt.
use Rattle.std.specs.Prelude.{◌≡◌, Bool, List, [], ◌∷◌, ◌++◌, ℕ, ◌-◌, eqb, drop, Result, IfOk}
use Rattle.std.proofs.Math.Option.{Option, none}
use Rattle.model.specs.Basics.{choose, when, first_refusal}
use Rattle.model.specs.Sizes.{Sizes}
use Rattle.model.specs.State.{Cell}
use Rattle.model.specs.Slot.{Call, oldest_cell, fullest, Refill, refill_by, no_refill}
use Rattle.layout.specs.Calls.{chosen_in, refill_in, call_in, number_in}
use Rattle.layout.specs.declared.Refusal.{Refusal}
use Rattle.layout.specs.Figures.{Figures, new_cell}
use Rattle.lookahead.specs.Says.{spent}
use Rattle.slot_counts.specs.Says.{tails_asked}
use Rattle.slot_refusals.specs.Says.{owes_now, swaps_now, arrival_found, request_found, left_now, early_number, full_now}
use Rattle.slot_plan.specs.declared.Plan.{Plan}

-- The queue that the slot will write, by the tail bytes that its write finds.
abbrev pub write_now : ℕ → Sizes → (ℕ → ℕ) → Option ℕ
write_now phase s tails = choose (eqb phase (s.b - 1)) (fullest s.b tails s.Q) none

-- The queue that the slot will read, and in how many slots the cell leaves that it is for: the scan goes over the cells
-- without the oldest and with the new one.
abbrev pub read_now : ℕ → Sizes → (ℕ → ℕ) → List Cell → Bool → Option ℕ → Refill
read_now phase s heads cells owing request =
    choose (eqb phase (s.b - 1))
    (refill_by (spent heads (oldest_cell cells)) (drop 1 cells ++ new_cell owing request ∷ []))
    no_refill

-- Whether the slot takes its request before its arrival.
abbrev pub swaps_of : Figures → Call → Bool
swaps_of f call = swaps_now f (owes_now f call.request) call.arrival call.request

-- What is left of a call, its dropped halves taken away.
abbrev pub left_of : Figures → Call → Call
left_of f call = left_now f (owes_now f call.request) call

-- The numbers of the halves that a plan drops, or 0.
abbrev pub arrival_number_of : Plan → ℕ
arrival_number_of p = choose p.arrival_dropped 5 0

abbrev pub request_number_of : Plan → ℕ
request_number_of p = choose p.request_dropped 7 0

-- What a slot will do: the number that stops it, or 0; of a slot that goes on the numbers of its halves, what is left
-- of them, and what it does with that.
pub record IsPlan (f : Figures) (phase : ℕ) (cells : List Cell) (call : Call) (p : Plan) : Type 0 where
  pub arrival-number_is : arrival_number_of p ≡ arrival_found f (owes_now f call.request) call
  pub request-number_is : request_number_of p ≡ request_found f (owes_now f call.request) call
  pub left_is : call_in p.call ≡ left_of f call
  pub owes_is : p.owes ≡ owes_now f call.request
  pub swaps-is : p.swaps ≡ swaps_of f call
  pub written_is : chosen_in p.written
      ≡ write_now phase f.sizes (tails_asked (owes_now f call.request) (left_of f call) f.tails)
  pub read_is : refill_in p.refill
      ≡ read_now phase f.sizes f.heads cells (owes_now f call.request) (left_of f call).request

pub record PlanSays (f : Figures) (phase fill : ℕ) (cells : List Cell) (call : Call) (r : Result Plan Refusal) : Type 0
  where
    pub number_is : number_in r ≡
        first_refusal (
        early_number f (owes_now f call.request) (oldest_cell cells) call ∷
        when (full_now f.sizes fill (oldest_cell cells)
        (read_now phase f.sizes f.heads cells (owes_now f call.request) (left_of f call).request).queue) 10 ∷ [])
    pub plan_is : IfOk r (IsPlan f phase cells call)
