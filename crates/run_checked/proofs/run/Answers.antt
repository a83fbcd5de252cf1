-- `run` meets its contract: what is judged of every slot holds of each in the list, and where 3 and 2 are ruled out the
-- list is run in place.
use Rattle.std.proofs.Common.{◌≡◌, ◌++◌, length, drop, replicate, refl, rules, tests}
use Rattle.layout.specs.Views.{arrays, regs_in, state_in}
use Rattle.layout.proofs.Refusals.{refusal_is_some}
use Rattle.slot_checked.proofs.Judging.{judged_state}
use Rattle.slot_checked.proofs.Clearing.{ready_counted, leaves_refused, leaves_ready, judged_lent}
use Rattle.run_checked.proofs.Runs.{part_fits, ran_refused, ran_in_place}
use Rattle.run_checked.proofs.run.Goals as goal

pub returns-in-Err : goal.returns-in-Err
returns-in-Err c =
    let a = c.args in
    let memory = arrays a.tail.now a.head.now a.cells.now a.firsts.now a.stored.now in
    let regs = regs_in a.regs.now in
    let x = state_in regs memory in
    let says = judged_lent c.regs_in-before.ensures memory a.store.now c.in-Err.ensures in
    let refused = refusal_is_some c.in-Err.refusal in
    let n = c.min-n.result in
    let filled : c.fill.new.self ++ drop n a.answers.now ≡ replicate n c.reply_word.result ++ drop n a.answers.now =
    search (rules, tests) in (
      ran_refused x a.calls.now a.answers.now a.store.now c.min-n.ensures
          (judged_state x (length a.store.now) says.0) refused c.reply_word.ensures filled,
      says.0,
      leaves_refused regs memory a.store.now says.0 says.1 refused,
    )

pub run_calls-requires : goal.run_calls-requires
run_calls-requires c =
    let a = c.args in
    let memory = arrays a.tail.now a.head.now a.cells.now a.firsts.now a.stored.now in
    let regs = regs_in a.regs.now in
    let says = judged_lent c.regs_in-before.ensures memory a.store.now c.in_default.ensures in (
      ready_counted regs memory a.store.now
          (judged_state (state_in regs memory) (length a.store.now) says.0) refl says.1 c.requires,
      part_fits a.calls.now a.answers.now _ c.min-n.ensures,
    )

pub returns : goal.returns
returns c =
    let a = c.args in
    let memory = arrays a.tail.now a.head.now a.cells.now a.firsts.now a.stored.now in
    let regs = regs_in a.regs.now in
    let says = judged_lent c.regs_in-before.ensures memory a.store.now c.in_default.ensures in
    let end = c.run_calls.ensures in (
      ran_in_place (state_in regs memory) a.calls.now a.answers.now a.store.now c.min-n.ensures end.0 end.1.kept,
      says.0,
      leaves_ready regs memory a.store.now says.0 refl end.1,
    )
