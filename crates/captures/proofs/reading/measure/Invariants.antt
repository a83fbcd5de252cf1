-- The frames before what is left have been counted; the measure is what is left of the records.
use lib.ListN.{length}
use Rattle.captures.proofs.Counted.{MeasuredTo}
use Rattle.captures.proofs.reading.measure.Given as goal

abbrev pub invariant-loop-rest : goal.invariant-loop-rest
invariant-loop-rest l = MeasuredTo l.records l.rest l.bytes

abbrev pub decreases-loop-rest : goal.decreases-loop-rest
decreases-loop-rest l = length l.rest
