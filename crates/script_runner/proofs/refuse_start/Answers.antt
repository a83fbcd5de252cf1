-- `refuse_start` meets its contract: one line behind the other.
use Rattle.layout.specs.Calls.{number_of}
use Rattle.script_lines.specs.Lines.{refusal, ending}
use Rattle.script_runner.proofs.Prints.{puts_two}
use Rattle.script_runner.proofs.refuse_start.Goals as goal

pub returns : goal.returns
returns c =
    puts_two (refusal 0 (number_of c.args.reason)) (ending 0) c.args.output.now c.requires
    (rw c.from.ensures at c.put_refusal-behind.ensures) c.put_ending.ensures
