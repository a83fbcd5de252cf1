-- Before turn i the arrivals of i bytes stand at the start of the output.
use Rattle.captures.proofs.Arrived.{ArrivedTo}
use Rattle.captures.proofs.writing.write_frame.Given as goal

abbrev pub invariant-loop-i : goal.invariant-loop-i
invariant-loop-i l = ArrivedTo l.queue l.i l.frame l.initial.output l.output
