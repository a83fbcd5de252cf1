-- `script_write` meets its contract: numbers that name no command are refused, the rest is the writer's answer.
use Rattle.c_scripts.proofs.Writing.{named-written}
use Rattle.c_scripts.proofs.script_write.Goals as goal

pub returns-in-Ok : goal.returns-in-Ok
returns-in-Ok c = rw c.into.ensures (named-written c.args.command c.args.output.now c.in-Ok.ensures c.write.ensures)
