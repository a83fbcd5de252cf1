-- `command_of` meets its contract: each arm takes the operands of its row, which the bytes are enough for.
use Rattle.std.proofs.Common.{arith, ap}
use Rattle.script_commands.specs.Commands.{sizes, arrive, ask, both, idles, kind_of}
use Rattle.script_codes.proofs.command_of.Goals as goal

pub bounds-operands-0 : goal.bounds-operands-0
bounds-operands-0 c = omega (arith, c.requires.within sizes (ap kind_of c.in-16.is))

pub bounds-operands-1 : goal.bounds-operands-1
bounds-operands-1 c = omega (arith, c.requires.within sizes (ap kind_of c.in-16.is))

pub bounds-operands-2 : goal.bounds-operands-2
bounds-operands-2 c = omega (arith, c.requires.within sizes (ap kind_of c.in-16.is))

pub bounds-operands-0-in-1 : goal.bounds-operands-0-in-1
bounds-operands-0-in-1 c = omega (arith, c.requires.within arrive (ap kind_of c.in-1.is))

pub bounds-operands-1-in-1 : goal.bounds-operands-1-in-1
bounds-operands-1-in-1 c = omega (arith, c.requires.within arrive (ap kind_of c.in-1.is))

pub bounds-operands-0-in-2 : goal.bounds-operands-0-in-2
bounds-operands-0-in-2 c = omega (arith, c.requires.within ask (ap kind_of c.in-2.is))

pub bounds-operands-0-in-3 : goal.bounds-operands-0-in-3
bounds-operands-0-in-3 c = omega (arith, c.requires.within both (ap kind_of c.in-3.is))

pub bounds-operands-1-in-3 : goal.bounds-operands-1-in-3
bounds-operands-1-in-3 c = omega (arith, c.requires.within both (ap kind_of c.in-3.is))

pub bounds-operands-2-in-3 : goal.bounds-operands-2-in-3
bounds-operands-2-in-3 c = omega (arith, c.requires.within both (ap kind_of c.in-3.is))

pub bounds-operands-0-in-4 : goal.bounds-operands-0-in-4
bounds-operands-0-in-4 c = omega (arith, c.requires.within idles (ap kind_of c.in-4.is))

pub bounds-operands-1-in-4 : goal.bounds-operands-1-in-4
bounds-operands-1-in-4 c = omega (arith, c.requires.within idles (ap kind_of c.in-4.is))
