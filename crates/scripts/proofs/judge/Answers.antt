-- `judge` meets its contract: what the reader answers at the place is one turn of the judge.
use Rattle.std.proofs.Common.{arith, sym, ◌∙◌}
use Rattle.std.proofs.lemmas.List.{take_rest}
use Rattle.script_commands.proofs.Judging.{moves-on}
use Rattle.scripts.proofs.Turns.{judge-starts, judge-refuses, judge-goes_on, judge-ends, judge-follows}
use Rattle.scripts.proofs.judge.Goals as goal

pub loop-refusal-init : goal.loop-refusal-init
loop-refusal-init c = judge-starts c.args.script.now

pub returns-in-Err : goal.returns-in-Err
returns-in-Err c = judge-refuses c.loop-refusal.invariant (rw take_rest at c.in-Err.ensures)

pub overflow_add-next : goal.overflow_add-next
overflow_add-next c =
    omega (arith, (moves-on _ c.args.script.now c.loop-refusal.at _ _ (sym (rw take_rest at c.in-Ok.ensures))).1)

pub returns-then-next-script : goal.returns-then-next-script
returns-then-next-script c =
    judge-follows c.loop-refusal.invariant (rw take_rest at c.in-Ok.ensures) (sym c.is_end.ensures ∙ c.if-is_end.true)
    c.if-next-script.true

pub returns-then-is_end : goal.returns-then-is_end
returns-then-is_end c =
    judge-ends c.loop-refusal.invariant (rw take_rest at c.in-Ok.ensures) (sym c.is_end.ensures ∙ c.if-is_end.true)
    c.if-next-script.false

pub loop-refusal-smaller : goal.loop-refusal-smaller
loop-refusal-smaller c =
    let moved = moves-on _ c.args.script.now c.loop-refusal.at _ _ (sym (rw take_rest at c.in-Ok.ensures)) in
    omega (arith, moved.0, moved.1)

pub loop-refusal-preserved : goal.loop-refusal-preserved
loop-refusal-preserved c =
    judge-goes_on c.loop-refusal.invariant (rw take_rest at c.in-Ok.ensures) (sym c.is_end.ensures ∙ c.if-is_end.false)
