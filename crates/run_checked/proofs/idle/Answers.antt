-- `idle` meets its contract: where no slot is asked for, nothing is; what is judged of every slot holds of an idle one;
-- and where 3 and 2 are ruled out they are passed on in place.
use Rattle.std.proofs.Common.{length, refl}
use Rattle.layout.specs.Views.{arrays, state_in}
use Rattle.layout.proofs.Refusals.{refusal_is_some}
use Rattle.slot_checked.proofs.Judging.{judged_state}
use Rattle.slot_checked.proofs.Clearing.{ready_counted, leaves_same, leaves_refused, leaves_ready}
use Rattle.idle_in_place.proofs.Stretches.{nothing_told}
use Rattle.run_checked.proofs.Idling.{none_idled, not-idled}
use Rattle.run_checked.proofs.idle.Goals as goal

pub returns-then-n-eq0 : goal.returns-then-n-eq0
returns-then-n-eq0 c =
    let a = c.args in
    let memory = arrays a.tail.now a.head.now a.cells.now a.firsts.now a.stored.now in
    let says = c.judge_state-judged.ensures in (
      none_idled _ a.store.now a.n c.if-n-eq0.true (nothing_told c.default.result c.default.ensures),
      leaves_same a.regs memory a.store.now says.0 says.1 c.requires,
    )

pub returns-in-Err : goal.returns-in-Err
returns-in-Err c =
    let a = c.args in
    let memory = arrays a.tail.now a.head.now a.cells.now a.firsts.now a.stored.now in
    let says = c.in-Err.ensures in (
      not-idled (state_in a.regs memory) a.store.now a.n
          (judged_state (state_in a.regs memory) (length a.store.now) says.0) c.if-n-eq0.false,
      leaves_refused a.regs memory a.store.now says.0 says.1 (refusal_is_some c.in-Err.refusal),
    )

pub pass-requires : goal.pass-requires
pass-requires c =
    let a = c.args in
    let memory = arrays a.tail.now a.head.now a.cells.now a.firsts.now a.stored.now in
    let says = c.in_default.ensures in
    ready_counted a.regs memory a.store.now (judged_state (state_in a.regs memory) (length a.store.now) says.0)
    refl says.1 c.requires

pub returns : goal.returns
returns c =
    let a = c.args in
    let memory = arrays a.tail.now a.head.now a.cells.now a.firsts.now a.stored.now in
    let says = c.pass.ensures in
    let judged = c.in_default.ensures in (
      record {
        stretch = says.stretch;
        state_is = says.state_is;
        store_is = says.store_is;
        kept = λ e. says.ready.kept;
      },
      leaves_ready a.regs memory a.store.now judged.0 refl says.ready,
    )
