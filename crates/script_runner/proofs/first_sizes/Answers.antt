-- `first_sizes` meets its contract: the reader takes the first command of a good script, and that command is sizes.
use Rattle.std.proofs.Common.{refl, sym, ◌∙◌, ap}
use Rattle.script_commands.specs.declared.Command as enum
use Rattle.script_commands.specs.Scripts.{taken}
use Rattle.script_commands.specs.Values.{command_in}
use Rattle.script_runner.proofs.Left.{first_not_refused, first_sizes}
use Rattle.script_runner.proofs.first_sizes.Goals as goal

pub unreachable-requires : goal.unreachable-requires
unreachable-requires c = absurd (first_not_refused c.args.script.now c.requires _ c.in_default.ensures)

pub returns : goal.returns
returns c =
    first_sizes c.args.script.now c.requires c.in-Sizes.queues c.in-Sizes.block c.in-Sizes.depth c.in-Ok.length _
    (ap (λ (z : enum.Command). taken (command_in z) c.in-Ok.length) (sym c.in-Sizes.is) ∙ c.in-Ok.ensures)
    refl refl refl refl
