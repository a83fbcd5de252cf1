-- `plan` meets its contract: what is judged of every slot holds of this one, and where 3 and 2 are ruled out it is
-- decided with the counts that judging took.
use mathlib.Core.Path.{◌≡◌}
use mathlib.Core.Bool.{true}
use native.Mathlib.Omega.{arith}
use borrow.Author.Rules.{rules}
use borrow.Author.Tests.{tests}
use Rattle.std.specs.Prelude.{Some}
use Rattle.layout.specs.Calls.{call_in}
use Rattle.layout.specs.Views.{arrays, sizes_in, state_in}
use Rattle.slot_rules.specs.Says.{RulesSays}
use Rattle.slot_in_place.proofs.Standing as standing
use Rattle.slot_checked.specs.Says.{state_number}
use Rattle.slot_checked.proofs.Planned.{ready_with_some, plan_decided}
use Rattle.slot_checked.proofs.plan.Goals as goal

pub decide-requires : goal.decide-requires
decide-requires c =
    let a = c.args in
    let m = arrays a.tail.now a.head.now a.cells.now a.firsts.now a.stored.now in
    let says : RulesSays (state_in a.regs m) (Some c.unwrap.result) = search (rules, tests) in
    let number : 0 ≡ state_number true (sizes_in a.regs) a.bytes = search (rules, tests) in
    let r = ready_with_some a.regs m c.requires a.bytes says number in
    let v = standing.kept r in (
      v.sizes-ok,
      v.phase_ok,
      omega (arith, standing.head_in r),
      standing.cells_known r,
      standing.tails_small r,
    )

pub returns : goal.returns
returns c =
    let a = c.args in
    let m = arrays a.tail.now a.head.now a.cells.now a.firsts.now a.stored.now in
    let says : RulesSays (state_in a.regs m) (Some c.unwrap.result) = search (rules, tests) in
    let number : 0 ≡ state_number true (sizes_in a.regs) a.bytes = search (rules, tests) in
    plan_decided a.regs m c.requires a.bytes says number (call_in a.call) c.decide.ensures
