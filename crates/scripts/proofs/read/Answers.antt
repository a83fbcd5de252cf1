-- `read` meets its contract: a command is returned where no refusal's condition holds.
use Rattle.std.proofs.Common.{arith, sym, ap, ◌∙◌}
use Rattle.script_commands.specs.Scripts.{read_command}
use Rattle.scripts.proofs.Answers.{takes}
use Rattle.scripts.proofs.read.Goals as goal

pub returns : goal.returns
returns c =
    let split = rw c.in_ok-code.ensures.ok_part at c.split_first.ensures.cases in
    takes c.args.first _ _ c.in_ok-code.operands.now _ (sym c.in_ok-length.ensures.ok_part ∙ c.command_length.ensures)
    c.if-out_of_place.ensures (omega (arith, split.1, c.if-rest-length.false)) c.command_of.ensures
    ∙ ap (read_command c.args.first) (sym split.0)
