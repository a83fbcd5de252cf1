-- `scan` meets its contract: before cell i the scan of the cells from `from` on answers as that of the cells from i on
-- with the credits left, whatever follows; the measure is the number of cells left.
use Prim.Native.Nat.{◌-◌}
use Rattle.lookahead.proofs.Turns.{ScannedTo}
use Rattle.lookahead.proofs.scan.Given as goal

abbrev pub invariant-loop-i : goal.invariant-loop-i
invariant-loop-i l = ScannedTo l.i l.from l.l l.cells l.initial.left l.left

abbrev pub decreases-loop-i : goal.decreases-loop-i
decreases-loop-i l = l.l - l.i
