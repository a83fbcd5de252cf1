-- `run_commands` meets its contract: what the reader takes at the place is the next command of what is left, and a
-- reading that is refused does not come.
use Rattle.std.proofs.Common.{arith, rules}
use Rattle.std.proofs.lemmas.List.{take_rest}
use Rattle.script_slots.proofs.Going.{going_starts, next_room, going_on, going_ends}
use Rattle.script_runner.proofs.Left.{no_calls_left, none_refused, next_command}
use Rattle.script_runner.proofs.run_commands.Goals as goal

pub loop-at-init : goal.loop-at-init
loop-at-init c = (going_starts c.requires.0 c.requires.1, c.requires.2)

pub run_command-reached-requires : goal.run_command-reached-requires
run_command-reached-requires c =
    let next =
    next_command c.args.script.now c.loop-at.at (omega arith) c.loop-at.invariant.1 _ _
    (rw take_rest at c.in-Ok.ensures) in
    (c.loop-at.invariant.0.ready, next_room c.loop-at.invariant.0 _ _ next.calls_are)

pub overflow_add-at : goal.overflow_add-at
overflow_add-at c =
    let next =
    next_command c.args.script.now c.loop-at.at (omega arith) c.loop-at.invariant.1 _ _
    (rw take_rest at c.in-Ok.ensures) in
    omega (arith, next.within)

pub loop-at-smaller : goal.loop-at-smaller
loop-at-smaller c =
    let next =
    next_command c.args.script.now c.loop-at.at (omega arith) c.loop-at.invariant.1 _ _
    (rw take_rest at c.in-Ok.ensures) in
    omega (arith, next.some_bytes, next.within)

pub loop-at-preserved : goal.loop-at-preserved
loop-at-preserved c =
    let next =
    next_command c.args.script.now c.loop-at.at (omega arith) c.loop-at.invariant.1 _ _
    (rw take_rest at c.in-Ok.ensures) in (
      going_on c.loop-at.invariant.0 next.calls_are c.run_command-reached.ensures (search rules) (search rules),
      next.good_behind,
    )

pub returns-in-Err : goal.returns-in-Err
returns-in-Err c =
    absurd (none_refused c.args.script.now c.loop-at.at (omega arith) c.loop-at.invariant.1 _
    (rw take_rest at c.in-Err.ensures))

pub returns : goal.returns
returns c =
    going_ends c.loop-at.invariant.0 (no_calls_left c.args.script.now c.loop-at.at (omega (arith, c.loop-at-test.false)))
