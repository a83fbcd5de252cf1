-- `slot_rules::judge_rules` meets its contract: it fails where the numbers or a queue number do, and else the queues
-- decide.
use mathlib.Core.Path.{sym, ◌∙◌}
use native.Mathlib.Omega.{arith}
use Rattle.model.proofs.basics.Tests.{true_not_false}
use Rattle.layout.specs.Lengths.{queue_places}
use Rattle.layout.specs.Counts.{by_queue, Tallies}
use Rattle.layout.specs.Views.{Arrays, arrays, state_in}
use Rattle.layout.proofs.Ranges.{InLimits, in_limits}
use Rattle.slot_rules.proofs.Numbers.{Fit, fit_facts, tail_within, head_within, cells_within}
use Rattle.slot_rules.proofs.Judging.{Known, bytes-wider, cells_wider, numbers-fail, tail_fails, head_fails, cells_fail}
use Rattle.slot_rules.proofs.Judging.{queues_decide}
use Rattle.slot_rules.proofs.judge_rules.Goals as goal
use Rattle.slot_rules.proofs.judge_rules.Goals.{Start, Else-not-all_below, After-queues_keep}
use Rattle.slot_rules.proofs.judge_rules.Goals.{then-all_below, else-all_below, then-all_below-2, else-all_below-2}

abbrev memory : Start → Arrays
memory s = arrays s.args.tail.now s.args.head.now s.args.cells.now s.args.firsts.now s.args.stored.now

fit : (c : Else-not-all_below) → Fit c.args.regs
fit c = fit_facts c.args.regs (sym c.regs_keep.ensures ∙ c.if-not-regs_keep.false)

limits : (c : Else-not-all_below) → InLimits c.args.regs
limits c = in_limits c.args.regs (fit c).sizes-ok

-- Where the test of the queue numbers passes, each of its three parts does.
known : (c : Else-not-all_below)
    → Known (state_in c.args.regs (arrays c.args.tail.now c.args.head.now c.args.cells.now c.args.firsts.now c.args.stored.now))
known c =
    elim c.if-all_below-2.branch [
      | then-all_below-2 w ↦ elim c.if-all_below.branch [
        | then-all_below v ↦ record {
          tail_below = sym c.all_below.ensures ∙ v.if-all_below.true;
          head_below = sym v.all_below-then-all_below.ensures ∙ sym v.value-is ∙ w.if-all_below-2.true;
          cells_below = sym w.all_below-then-all_below-2.ensures ∙ sym w.value-is ∙ c.if-not-all_below.false;
        }
        | else-all_below v ↦ absurd (true_not_false _ w.if-all_below-2.true (v.value-is ∙ v.if-all_below.false))
      ]
      | else-all_below-2 w ↦ absurd (true_not_false _ c.if-not-all_below.false (w.value-is ∙ w.if-all_below-2.false))
    ]

pub returns-then-not-regs_keep : goal.returns-then-not-regs_keep
returns-then-not-regs_keep c =
    numbers-fail c.args.regs (memory (goal.at.returns-then-not-regs_keep c).Start) c.requires
    (sym c.regs_keep.ensures ∙ c.if-not-regs_keep.true)

pub returns-then-not-all_below : goal.returns-then-not-all_below
returns-then-not-all_below c =
    let m = memory (goal.at.returns-then-not-all_below c).Start in elim c.if-all_below-2.branch [
      | then-all_below-2 w ↦ cells_fail c.args.regs m c.requires
          (sym w.all_below-then-all_below-2.ensures ∙ sym w.value-is ∙ c.if-not-all_below.true)
      | else-all_below-2 w ↦ elim c.if-all_below.branch [
        | then-all_below v ↦ head_fails c.args.regs m c.requires
            (sym v.all_below-then-all_below.ensures ∙ sym v.value-is ∙ w.if-all_below-2.false)
        | else-all_below v ↦ tail_fails c.args.regs m c.requires (sym c.all_below.ensures ∙ v.if-all_below.false)
      ]
    ]

pub tally-requires : goal.tally-requires
tally-requires c =
    let before = (goal.at.tally-requires c).Else-not-all_below in
    let regs = c.args.regs in
    let within = tail_within regs (fit before) in (
      omega (arith, within),
      omega (arith, within, c.requires.tail_long),
      bytes-wider regs.queues queue_places (limits before).q_high _ (known before).tail_below,
    )

pub tally-requires-2 : goal.tally-requires-2
tally-requires-2 c =
    let before = (goal.at.tally-requires-2 c).Else-not-all_below in
    let regs = c.args.regs in
    let within = head_within regs (fit before) in (
      omega (arith, within),
      omega (arith, within, c.requires.head_long),
      bytes-wider regs.queues queue_places (limits before).q_high _ (known before).head_below,
    )

pub tally_owed-requires : goal.tally_owed-requires
tally_owed-requires c =
    let before = (goal.at.tally_owed-requires c).Else-not-all_below in
    let regs = c.args.regs in
    let within = cells_within regs (fit before) in (
      within,
      omega (arith, within, c.requires.cells_long),
      cells_wider regs.queues queue_places (limits before).q_high (state_in regs (memory (goal.at.tally_owed-requires c).Start)).cells
          (known before).cells_below,
    )

-- The counts that were taken are the state's, and the queues' test by them decides.
counted : (c : After-queues_keep)
    → Tallies (state_in c.args.regs (arrays c.args.tail.now c.args.head.now c.args.cells.now c.args.firsts.now c.args.stored.now))
    (by_queue c.tally.result c.tally-2.result c.tally_owed.result)
counted c = record {
  tails_are = c.tally.ensures;
  heads_are = c.tally-2.ensures;
  owed_are = c.tally_owed.ensures;
}

pub returns-then-not-queues_keep : goal.returns-then-not-queues_keep
returns-then-not-queues_keep c =
    let at = goal.at.returns-then-not-queues_keep c in
    sym (queues_decide c.args.regs (memory at.Start) c.requires (fit at.Else-not-all_below) (known at.Else-not-all_below)
    (counted at.After-queues_keep) c.queues_keep.result c.queues_keep.ensures)
    ∙ c.if-not-queues_keep.true

pub returns : goal.returns
returns c =
    let at = goal.at.returns c in
    let counts = counted at.After-queues_keep in (
      sym (queues_decide c.args.regs (memory at.Start) c.requires (fit at.Else-not-all_below) (known at.Else-not-all_below)
          counts c.queues_keep.result c.queues_keep.ensures)
          ∙ c.if-not-queues_keep.false,
      counts,
    )
