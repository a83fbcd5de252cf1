-- `scan` meets its contract: before cell i it answers as the scan of the cells from i on with the credits left.
use Rattle.std.proofs.Common.{length}
use Rattle.buffer_choices.proofs.Scanning.{ScannedTo}
use Rattle.buffer_choices.proofs.scan.Given as goal

abbrev pub invariant-loop-i : goal.invariant-loop-i
invariant-loop-i l = ScannedTo l.i (length l.cells) l.cells l.fn.credits l.left
