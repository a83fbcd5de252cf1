-- `packet_record::drops` meets its contract: byte requests that are left decide, and else whether the list has none.
use mathlib.Core.Path.{ap}
use native.Mathlib.Omega.{arith}
use borrow.Author.Tests.{le-ltb}
use Rattle.packet_layout.specs.Views.{request_of}
use Rattle.packet_record.proofs.Lists.{list_length}
use Rattle.packet_record.proofs.drops.Goals as goal

pub bounds-listed-queue : goal.bounds-listed-queue
bounds-listed-queue c = c.requires c.in-Some.queue (ap request_of c.in-Some.is)

pub returns-else-regs-gt0 : goal.returns-else-regs-gt0
returns-else-regs-gt0 c = λ lengths. rw (
  c.in-Some.is,
  le-ltb 0 c.args.regs.left (omega (arith, c.if-regs-gt0.false)),
  list_length lengths c.args.listed.now c.in-Some.queue,
)
