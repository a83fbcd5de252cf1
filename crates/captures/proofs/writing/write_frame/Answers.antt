-- `write_frame` meets its contract: an arrival more stands behind those so far.
use Rattle.std.proofs.Common.{arith}
use Rattle.captures.proofs.Arrived.{arrivals-go_on}
use Rattle.captures.proofs.writing.write_frame.Goals as goal

pub loop-i-preserved : goal.loop-i-preserved
loop-i-preserved c = arrivals-go_on c.loop-i.invariant c.requires (omega arith) c.write.ensures
