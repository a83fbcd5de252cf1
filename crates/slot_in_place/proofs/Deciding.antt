-- What judging by figures decides is what the model's slot finds: its refusal, the cell that its request takes, the
-- queues that it writes and reads. Where the slot is accepted, every count that a step takes from is there.
use mathlib.Core.Path.{◌≡◌, ap, sym, ◌∙◌, subst}
use mathlib.Core.Bool.{Bool, false}
use mathlib.Core.List.{List}
use mathlib.Core.Option.{some}
use Rattle.std.specs.Prelude.{Result, Ok}
use Prim.Native.Nat.{ℕ, ◌+◌, ◌<◌, ◌≤◌}
use native.Mathlib.Omega.{arith}
use lib.ListN.{length, get_or}
use Rattle.model.specs.Basics.{choose}
use Rattle.model.specs.Sizes.{paper, lookahead}
use Rattle.model.specs.State.{Byte, Cell, owed, State, count_of, owes, owed_of}
use Rattle.model.specs.Slot.{Call, oldest_cell, arriving, is_owed, swaps, early_arrival, joined, asked, wrote}
use Rattle.model.specs.Slot.{queue_to_write, queue_to_read, slots_to_refill, Refill, refill_of}
use Rattle.model.specs.Slot.{halves_taken, refusal, carried_out, accept, answer, slot}
use Rattle.model.proofs.basics.Tests.{eqb_same}
use Rattle.model.proofs.basics.Bytes.{count_append}
use Rattle.model.proofs.basics.Cells.{owed_below}
use Rattle.model.proofs.one_slot.StepsKeepRules.{owed_oldest}
use Rattle.model.proofs.one_slot.Swap.{early_few}
use Rattle.model.proofs.one_slot.Halves.{left-once}
use Rattle.model.proofs.one_slot.Accepted.{Judged, accepted-facts, left-accepted}
use Rattle.model.proofs.one_slot.Kept.{read_taken, rules-written}
use Rattle.model.proofs.delay.IdealSlot.{held_before}
use Rattle.layout.specs.Lengths.{queue_places}
use Rattle.layout.specs.Entries.{counts_in, cell_of}
use Rattle.layout.specs.Calls.{chosen_in, refill_in, call_in, number_in}
use Rattle.layout.specs.declared.Refusal.{Refusal}
use Rattle.layout.specs.declared.Regs.{Regs}
use Rattle.layout.specs.Views.{Arrays, state_in}
use Rattle.layout.specs.Figures.{Figures, figures_of, figures_in}
use Rattle.layout.specs.Counts.{ByQueue, Tallies}
use Rattle.slot_counts.specs.Says.{tails_asked, TurnSays}
use Rattle.slot_counts.proofs.Kept.{tails_found, tallies_kept}
use Rattle.slot_plan.specs.declared.Plan.{Plan}
use Rattle.slot_plan.specs.Says.{write_now, arrival_number_of, request_number_of, IsPlan, PlanSays}
use Rattle.slot_plan.proofs.Writes.{write_has_block}
use Rattle.slot_plan.proofs.PaperPlan.{plan_refusal, plan_left, plan_arrival_number, plan_request_number, plan_owes}
use Rattle.slot_plan.proofs.PaperPlan.{plan_swaps, plan_written, plan_read}
use Rattle.slot_steps.proofs.Moving.{oldest_cell_lem}
use Rattle.slot_in_place.specs.Says.{Decided, Ready}
use Rattle.slot_in_place.proofs.Compose.{uncovered-owed}
use Rattle.slot_in_place.proofs.Standing as standing

module _ {regs : Regs} {m : Arrays} {counts : ByQueue} {store : List ℕ} (r : Ready regs m counts store)
    (call : Call) where
  abbrev x : State
  x = state_in regs m

  pub oldest : oldest_cell x.cells ≡ cell_of (get_or m.cells 0 0)
  oldest =
      oldest_cell_lem (lookahead x.sizes) m.cells (omega arith)
      (omega (arith, standing.cells_inside r, r.long.cells_long))

  abbrev Says : Result Plan Refusal → Type 0
  Says result = PlanSays (figures_in regs counts m.stored) regs.phase regs.head_fill x.cells call result

  by_figures : {result : Result Plan Refusal} → Says result
      → PlanSays (figures_of x) x.phase (length x.head) x.cells call result
  by_figures {result} says =
      subst (λ (n : ℕ). PlanSays (figures_of x) x.phase n x.cells call result)
      (sym (standing.head_long r))
      (subst (λ (f : Figures). PlanSays f x.phase regs.head_fill x.cells call result)
      (standing.figures_are r) says)

  pub number_is : {result : Result Plan Refusal} → Says result → number_in result ≡ refusal paper x store call
  number_is says = (by_figures says).number_is ∙ plan_refusal x store call r.kept r.store_long

  -- A slot that goes on, as it is planned.
  module _ {plan : Plan} (says : Says (Ok plan)) where
    planned : IsPlan (figures_of x) x.phase x.cells call plan
    planned = (by_figures says).plan_is

    accepted : refusal paper x store call ≡ 0
    accepted = sym (number_is says)

    -- What is left of the call, and the numbers of what is not.
    abbrev left : Call
    left = halves_taken x call

    pub left_is : call_in plan.call ≡ left
    left_is = planned.left_is ∙ plan_left x store call r.kept accepted

    pub halves_told :
        (arrival_number_of plan ≡ (accept x store call).reply.arrival_number)
        × (request_number_of plan ≡ (accept x store call).reply.request_number)
    halves_told = (
      planned.arrival-number_is ∙ plan_arrival_number x store call r.kept accepted,
      planned.request-number_is ∙ plan_request_number x store call r.kept accepted,
    )

    owed_is : (q : ℕ) → left.request ≡ some q → plan.owes ≡ is_owed (joined x left) q
    owed_is q s = planned.owes_is ∙ plan_owes x store call r.kept accepted q s

    swaps-is : plan.swaps ≡ swaps x left.arrival left.request
    swaps-is = planned.swaps-is ∙ plan_swaps x store call r.kept accepted

    refill_is : refill_in plan.refill ≡ refill_of (wrote x left)
    refill_is = planned.read_is ∙ plan_read x store call r.kept accepted

    read_is : (refill_in plan.refill).queue ≡ queue_to_read (wrote x left)
    read_is = ap (λ (f : Refill). f.queue) refill_is

    written_is : chosen_in plan.written ≡ queue_to_write (asked x left)
    written_is = planned.written_is ∙ plan_written x store call r.kept accepted

    judged : Judged paper x store left
    judged = (accepted-facts paper x store call accepted).judged

    decided_left : Decided x store left plan.owes plan.swaps (chosen_in plan.written)
        (refill_in plan.refill).queue
    decided_left = record {
      all_taken = left-once x call;
      accepted = left-accepted paper x store call accepted;
      owed_is = owed_is;
      swaps-is = swaps-is;
      written_is = written_is;
      read_is = read_is;
    }

    -- What the counts are asked for.
    pub leaving_there : (q : ℕ) → cell_of (get_or m.cells 0 0) ≡ owed q
        → (q < queue_places) × (1 ≤ counts_in counts.heads q) × (1 ≤ counts_in counts.owing q)
    leaving_there q e = (
      omega (arith, below, (standing.limits r).q_high),
      omega (
        arith,
        r.tallies.heads_are.count_is q,
        uncovered-owed (oldest_cell x.cells) x q judged.covered
            (oldest ∙ e),
      ),
      omega (arith, r.tallies.owed_are.count_is q, there),
    )
      where
        there : 1 ≤ owed_of q x.cells
        there =
            omega (
              arith,
              owed_oldest x.cells q,
              ap (owes q) (oldest ∙ e),
              ap {B = ℕ} (λ (t : Bool). choose t 1 0) (eqb_same q),
            )

        below : q < regs.queues
        below = owed_below regs.queues x.cells q judged.kept.within.cells_below there

    arrival-there : (y : Byte) → left.arrival ≡ some y → y.queue < queue_places
    arrival-there y s =
        omega (arith, judged.arrival-known y s, (standing.limits r).q_high)

    request-there : (q : ℕ) → left.request ≡ some q → q < queue_places
    request-there q s =
        omega (arith, judged.request_ok q s, (standing.limits r).q_high)

    byte-there : (q : ℕ) → left.request ≡ some q → plan.owes ≡ false
        → 1 ≤ counts_in counts.tails q + count_of q (arriving left.arrival)
    byte-there q s f =
        omega (
          arith,
          judged.byte-there q s
              (held_before paper x store left (omega arith) judged q (sym (owed_is q s) ∙ f)),
          count_append q x.tail (arriving (early_arrival x left)),
          early_few x left q,
          r.tallies.tails_are.count_is q,
        )

    -- The tail bytes that the write finds are the counted ones.
    block_there : (q : ℕ) → chosen_in plan.written ≡ some q
        → (q < queue_places) × (regs.block ≤ tails_asked plan.owes left (counts_in counts.tails) q)
    block_there q e =
        let has = write_has_block x.phase x.sizes (tails_asked plan.owes left (counts_in counts.tails)) q
        (ap (write_now x.phase x.sizes) (tails_found x left owed_is r.tallies.tails_are.count_is)
        ∙ sym written_is ∙ e) in
        (omega (arith, has.0, (standing.limits r).q_high), has.1)

    pub read_there : (q : ℕ) → (refill_in plan.refill).queue ≡ some q → q < queue_places
    read_there q e =
        omega (
          arith,
          (read_taken (lookahead x.sizes) (wrote x left) (rules-written paper x store left (omega arith) judged) q
              (sym read_is ∙ e)).0,
          (standing.limits r).q_high,
        )

    -- The same of the halves as the plan has them.
    abbrev taken : Call
    taken = call_in plan.call

    pub halves_there :
        ((y : Byte) → taken.arrival ≡ some y → y.queue < queue_places)
        × ((q : ℕ) → taken.request ≡ some q → q < queue_places)
        × ((q : ℕ) → taken.request ≡ some q → plan.owes ≡ false
        → 1 ≤ counts_in counts.tails q + count_of q (arriving taken.arrival))
        × ((q : ℕ) → chosen_in plan.written ≡ some q
        → (q < queue_places) × (regs.block ≤ tails_asked plan.owes taken (counts_in counts.tails) q))
    halves_there =
        subst (λ (c : Call).
        ((y : Byte) → c.arrival ≡ some y → y.queue < queue_places)
        × ((q : ℕ) → c.request ≡ some q → q < queue_places)
        × ((q : ℕ) → c.request ≡ some q → plan.owes ≡ false
        → 1 ≤ counts_in counts.tails q + count_of q (arriving c.arrival))
        × ((q : ℕ) → chosen_in plan.written ≡ some q
        → (q < queue_places) × (regs.block ≤ tails_asked plan.owes c (counts_in counts.tails) q)))
        (sym left_is) (arrival-there, request-there, byte-there, block_there)

    pub decided : Decided x store taken plan.owes plan.swaps (chosen_in plan.written)
        (refill_in plan.refill).queue
    decided =
        subst (λ (c : Call). Decided x store c plan.owes plan.swaps (chosen_in plan.written)
        (refill_in plan.refill).queue) (sym left_is) decided_left

    -- What a read tells beside its queue.
    pub slots_left_is : (refill_in plan.refill).slots_left ≡ slots_to_refill (wrote x taken)
    slots_left_is =
        ap (λ (f : Refill). f.slots_left) refill_is
        ∙ sym (ap (λ (c : Call). slots_to_refill (wrote x c)) left_is)

    -- The slot is what is carried out of them.
    pub carries : carried_out (arrival_number_of plan) (request_number_of plan) x store taken
        ≡ slot paper x store call
    carries =
        ap (carried_out (arrival_number_of plan) (request_number_of plan) x store) left_is
        ∙ ap (λ (n : ℕ). carried_out n (request_number_of plan) x store left) halves_told.0
        ∙ ap (λ (n : ℕ). carried_out (accept x store call).reply.arrival_number n x store left) halves_told.1
        ∙ ap (λ (n : ℕ). answer n x store call) (sym accepted)

    -- The counts, turned, are those of the state that the slot leaves.
    pub counted : {counts' : ByQueue}
        → TurnSays x.sizes (cell_of (get_or m.cells 0 0)) taken plan.owes (chosen_in plan.written)
        (refill_in plan.refill).queue counts counts'
        → Tallies (carried_out 0 0 x store taken).state counts'
    counted {counts'} turned =
        subst (λ (c : Call). Tallies (carried_out 0 0 x store c).state counts') (sym left_is)
        (tallies_kept x store left judged r.tallies owed_is written_is read_is
        (subst (λ (c : Cell). TurnSays x.sizes c left plan.owes (chosen_in plan.written)
        (refill_in plan.refill).queue counts counts') (sym oldest)
        (subst (λ (c : Call). TurnSays x.sizes (cell_of (get_or m.cells 0 0)) c plan.owes
        (chosen_in plan.written) (refill_in plan.refill).queue counts counts') left_is turned)))
