-- The frames before what is left of the records stand written; the measure is what is left of the records.
use lib.ListN.{length}
use Rattle.captures.proofs.Written.{WrittenTo}
use Rattle.captures.proofs.writing.write_frames.Given as goal

abbrev pub invariant-loop-rest : goal.invariant-loop-rest
invariant-loop-rest l = WrittenTo l.records l.initial.output l.rest l.to l.output

abbrev pub decreases-loop-rest : goal.decreases-loop-rest
decreases-loop-rest l = length l.rest
