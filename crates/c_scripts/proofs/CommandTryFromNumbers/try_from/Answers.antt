-- `try_from` meets its contract: numbers that are other than those of the command do not fit it.
use Rattle.std.proofs.Common.{sym, ap, ◌∙◌}
use Rattle.c_scripts.specs.Says.{cut_in}
use Rattle.c_scripts.proofs.Writing.{unfitting}
use Rattle.c_scripts.proofs.CommandTryFromNumbers.try_from.Goals as goal

pub returns-then-ne : goal.returns-then-ne
returns-then-ne c =
    unfitting c.args.numbers c.in_ok-command.command c.from.result
    (ap cut_in (sym c.in_ok-command.ensures.ok_part) ∙ c.command_cut.ensures) c.from.ensures
    (sym c.if-ne.true ∙ c.ne.ensures)
