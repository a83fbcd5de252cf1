-- `past_empties` meets its contract: before cell i all cells from `from` on are empty, and two numbers whose sum is below
-- that of a Held cell are both below it; the measure is the number of cells left.
use native.Mathlib.Omega.{arith}
use Rattle.lookahead.proofs.Turns.{empty_so_far, empty_two_more}
use Rattle.lookahead.proofs.past_empties.Goals as goal
use Rattle.lookahead.proofs.past_empties.Goals.{After-shared_slice_known-in-loop-i-1}

pub loop-i-init : goal.loop-i-init
loop-i-init c = empty_so_far c.requires.0

pub returns-then-c-next : goal.returns-then-c-next
returns-then-c-next c = c.loop-i.invariant

pub loop-i-preserved : goal.loop-i-preserved
loop-i-preserved c =
    let inv = c.loop-i.invariant in
    empty_two_more inv (omega arith) (omega (arith, c.if-c-next.false))

pub returns : goal.returns
returns c = c.loop-i.invariant
