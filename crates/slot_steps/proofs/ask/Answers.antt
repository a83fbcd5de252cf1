-- `slot_steps::ask` meets its contract: a request that is not Owed finds a tail byte of its queue.
use mathlib.Core.Path.{ap}
use native.Mathlib.Omega.{arith}
use Rattle.layout.specs.Calls.{request_in}
use Rattle.slot_steps.proofs.Fills.{count_in_fill}
use Rattle.slot_steps.proofs.Asking.{asks_none, asks-owed, asks-held}
use Rattle.slot_steps.proofs.ask.Goals as goal

pub returns-in_default : goal.returns-in_default
returns-in_default c = rw c.in_default.is (asks_none c.args.fill c.args.tail.now c.args.owes)

pub returns-then-owes : goal.returns-then-owes
returns-then-owes c =
    let asked = c.in-Some in
    rw (asked.is, c.if-owes.true) (asks-owed c.args.fill c.args.tail.now asked.queue (omega arith))

pub overflow_sub-result : goal.overflow_sub-result
overflow_sub-result c =
    let a = c.args in
    let asked = c.in-Some in
    omega (
      arith,
      c.requires.1 asked.queue (ap request_in asked.is) c.if-owes.false,
      count_in_fill asked.queue a.fill a.tail.now c.requires.0,
    )

pub returns : goal.returns
returns c =
    let a = c.args in
    let asked = c.in-Some in
    let took = c.take_oldest-value in
    rw (asked.is, c.if-owes.false)
    (asks-held a.fill a.tail.now asked.queue took.result took.new.entries (omega arith) (omega arith) took.ensures)
