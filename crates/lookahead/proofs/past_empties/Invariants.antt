-- `past_empties` meets its contract: before cell i all cells from `from` on are empty, and two numbers whose sum is below
-- that of a Held cell are both below it; the measure is the number of cells left.
use Prim.Native.Nat.{◌-◌}
use Rattle.lookahead.specs.Says.{EmptyTo}
use Rattle.lookahead.proofs.past_empties.Given as goal

abbrev pub invariant-loop-i : goal.invariant-loop-i
invariant-loop-i l = EmptyTo l.from l.i l.l l.cells

abbrev pub decreases-loop-i : goal.decreases-loop-i
decreases-loop-i l = l.l - l.i
