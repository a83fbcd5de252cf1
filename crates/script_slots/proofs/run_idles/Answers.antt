-- `run_idles` meets its contract: each stretch is run and printed as some of the idle slots that are left.
use Rattle.std.proofs.Common.{◌≤◌, arith, refl, rules}
use Rattle.script_slots.proofs.Going.{going_starts, going_on, going_ends}
use Rattle.script_slots.proofs.Answers.{idles-left, no_idles, before_fits, stretch_answer_fits, stretch_runs}
use Rattle.script_slots.proofs.run_idles.Goals as goal

pub loop-left-init : goal.loop-left-init
loop-left-init c = going_starts c.requires.0 c.requires.1

pub overflow_sub-before_last : goal.overflow_sub-before_last
overflow_sub-before_last c =
    let some_left : 1 ≤ c.loop-left.left = omega arith in
    omega (arith, c.pass-stretch.ensures.stretch.passed_is, some_left)

pub overflow_add-before_last : goal.overflow_add-before_last
overflow_add-before_last c =
    let some_left : 1 ≤ c.loop-left.left = omega arith in
    omega (arith, before_fits c.pass-stretch.ensures some_left c.loop-left.invariant.room)

pub put_answer-put-requires : goal.put_answer-put-requires
put_answer-put-requires c =
    let some_left : 1 ≤ c.loop-left.left = omega arith in
    stretch_answer_fits c.pass-stretch.ensures some_left c.loop-left.invariant.room

pub overflow_sub-left : goal.overflow_sub-left
overflow_sub-left c = omega (arith, c.pass-stretch.ensures.stretch.passed_is)

pub loop-left-smaller : goal.loop-left-smaller
loop-left-smaller c =
    let some_left : 1 ≤ c.loop-left.left = omega arith in
    omega (arith, c.pass-stretch.ensures.stretch.passed_is, some_left)

pub loop-left-preserved : goal.loop-left-preserved
loop-left-preserved c =
    let some_left : 1 ≤ c.loop-left.left = omega arith in
    let says = c.pass-stretch.ensures in
    let parts =
    idles-left c.loop-left.left c.pass-stretch.result.passed (omega (arith, says.stretch.passed_is)) in
    going_on c.loop-left.invariant parts
    (stretch_runs says some_left c.loop-left.reached.slots c.put_answer-put.ensures refl refl refl)
    (search rules) (search rules)

pub returns : goal.returns
returns c =
    going_ends c.loop-left.invariant (no_idles c.loop-left.left (omega (arith, c.loop-left-test.false)))
