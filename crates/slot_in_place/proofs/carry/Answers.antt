-- `carry` meets its contract: each step finds what it asks, and what the steps leave is what the model's accepted slot
-- leaves.
use mathlib.Core.Path.{◌≡◌, ap, sym, ◌∙◌, subst}
use mathlib.Core.Bool.{Bool}
use mathlib.Core.List.{List}
use mathlib.Core.Option.{Option}
use Prim.Native.Nat.{ℕ}
use borrow.Author.Rules.{rules}
use borrow.Author.Tests.{tests}
use Rattle.model.specs.Slot.{Call}
use Rattle.model.specs.State.{State}
use Rattle.layout.specs.Calls.{chosen_in, refill_in}
use Rattle.slot_in_place.specs.Says.{Decided}
use native.Mathlib.Omega.{arith}
use lib.ListN.{length}
use Rattle.layout.proofs.Entries.{bytes-length}
use Rattle.layout.specs.Views.{arrays}
use Rattle.slot_in_place.proofs.Compose as steps
use Rattle.slot_in_place.proofs.carry.Goals as goal

-- The queue that is read, as the code takes it out of the plan.
read_by : {read queue : Option ℕ} → read ≡ queue → {x : State} {store : List ℕ} {call : Call} {owes swaps : Bool}
    {written : Option ℕ} → Decided x store call owes swaps written queue → Decided x store call owes swaps written read
read_by e {x} {store} {call} {owes} {swaps} {written} d =
    subst (λ (q : Option ℕ). Decided x store call owes swaps written q) (sym e) d

pub deliver-gave-requires : goal.deliver-gave-requires
deliver-gave-requires c =
    let m = arrays c.args.tail.now c.args.head.now c.args.cells.now c.args.firsts.now c.args.stored.now in
    let d = c.requires.1 in (
      omega (arith, steps.head_in c.args.regs m c.requires.0 d),
      steps.byte-to_deliver c.args.regs m c.requires.0 d,
    )

pub arrive-joined-requires : goal.arrive-joined-requires
arrive-joined-requires c =
    let m = arrays c.args.tail.now c.args.head.now c.args.cells.now c.args.firsts.now c.args.stored.now in
    let inside = steps.tail_in c.args.regs m c.requires.0 c.requires.1 in
    (omega (arith, inside), λ y e. inside)

pub ask-asked-requires : goal.ask-asked-requires
ask-asked-requires c =
    let m = arrays c.args.tail.now c.args.head.now c.args.cells.now c.args.firsts.now c.args.stored.now in
    let s1 = c.deliver-gave.ensures in
    let early = c.early_arrival-early.ensures in
    let s2 = c.arrive-joined.ensures in (
      steps.joined_in c.args.regs m c.requires.0 c.requires.1 early s1 s2,
      steps.byte-to_hold c.args.regs m c.requires.0 c.requires.1 early s1 s2,
    )

pub arrive-filled-requires : goal.arrive-filled-requires
arrive-filled-requires c =
    let m = arrays c.args.tail.now c.args.head.now c.args.cells.now c.args.firsts.now c.args.stored.now in
    let s1 = c.deliver-gave.ensures in
    let early = c.early_arrival-early.ensures in
    let s2 = c.arrive-joined.ensures in
    let s3 = c.ask-asked.ensures in
    let s4 = c.shift.ensures in (
      steps.asked_in c.args.regs m c.requires.0 c.requires.1 early s1 s2 s3 s4,
      steps.late_in c.args.regs m c.requires.0 c.requires.1 early s1 s2 s3 s4
          c.late_arrival-late.ensures,
    )

pub write-tail_fill-requires : goal.write-tail_fill-requires
write-tail_fill-requires c =
    let m = arrays c.args.tail.now c.args.head.now c.args.cells.now c.args.firsts.now c.args.stored.now in
    let s1 = c.deliver-gave.ensures in
    let early = c.early_arrival-early.ensures in
    let s2 = c.arrive-joined.ensures in
    let s3 = c.ask-asked.ensures in
    let s4 = c.shift.ensures in
    let late = c.late_arrival-late.ensures in
    let s5 = c.arrive-filled.ensures in
    let d = c.requires.1 in (
      steps.filled_in c.args.regs m c.requires.0 d early s1 s2 s3 s4 late s5,
      steps.sizes-ok c.args.regs m c.requires.0 d,
      (steps.judged c.args.regs m c.requires.0 d).store_long,
      steps.block_to_write c.args.regs m c.requires.0 d early s1 s2 s3 s4 late s5,
    )

pub read-head_fill-requires : goal.read-head_fill-requires
read-head_fill-requires c =
    let m = arrays c.args.tail.now c.args.head.now c.args.cells.now c.args.firsts.now c.args.stored.now in
    let s1 = c.deliver-gave.ensures in
    let early = c.early_arrival-early.ensures in
    let s2 = c.arrive-joined.ensures in
    let s3 = c.ask-asked.ensures in
    let s4 = c.shift.ensures in
    let late = c.late_arrival-late.ensures in
    let s5 = c.arrive-filled.ensures in
    let s6 = c.write-tail_fill.ensures in
    let is : chosen_in c.map-read.result ≡ (refill_in c.args.plan.refill).queue = search (rules, tests) in
    let d = read_by is c.requires.1 in (
      steps.head_still_in c.args.regs m c.requires.0 d early s1 s2 s3 s4 late s5 s6,
      steps.sizes-ok c.args.regs m c.requires.0 d,
      omega (
        arith,
        (steps.judged c.args.regs m c.requires.0 d).store_long,
        steps.same_store c.args.regs m c.requires.0 d early s1 s2 s3 s4 late s5 s6,
      ),
      steps.block_to_read c.args.regs m c.requires.0 d early s1 s2 s3 s4 late s5 s6,
    )

pub returns : goal.returns
returns c =
    let m = arrays c.args.tail.now c.args.head.now c.args.cells.now c.args.firsts.now c.args.stored.now in
    let s1 = c.deliver-gave.ensures in
    let early = c.early_arrival-early.ensures in
    let s2 = c.arrive-joined.ensures in
    let s3 = c.ask-asked.ensures in
    let s4 = c.shift.ensures in
    let late = c.late_arrival-late.ensures in
    let s5 = c.arrive-filled.ensures in
    let s6 = c.write-tail_fill.ensures in
    let s7 = c.read-head_fill.ensures in
    let is : chosen_in c.map-read.result ≡ (refill_in c.args.plan.refill).queue = search (rules, tests) in
    let d = read_by is c.requires.1 in
    let head-is = steps.head_2 c.args.regs m c.requires.0 d early s1 s2 s3 s4 late s5 s6 s7 in
    record {
      state_is = steps.state_after_lem c.args.regs m c.requires.0 d early s1 s2 s3 s4 late s5 s6 s7
          c.next_phase.ensures
          c.max.ensures
          c.max-2.ensures
          (steps.joined_length c.args.regs m c.requires.0 d early s1 s2)
          (sym (bytes-length _ _ s7.fits) ∙ ap length head-is);
      delivery_is = steps.delivered c.args.regs m c.requires.0 d early s1 s2;
      store_is = steps.store_1 c.args.regs m c.requires.0 d early s1 s2 s3 s4 late s5 s6;
      long = record {
        tail_long = s6.same_length ∙ s5.same_length ∙ s3.same_length ∙ s2.same_length ∙ c.requires.0.tail_long;
        head_long = s7.same_length ∙ s1.same_length ∙ c.requires.0.head_long;
        cells_long = s4.same_length ∙ c.requires.0.cells_long;
        firsts_long = s7.firsts_long ∙ c.requires.0.firsts_long;
        stored_long = s7.stored_long ∙ s6.stored_long ∙ c.requires.0.stored_long;
      };
    }
