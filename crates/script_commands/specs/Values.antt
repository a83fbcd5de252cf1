-- The command that a value of the enum stands for.
use Rattle.std.specs.Prelude.{[], ◌∷◌}
use Rattle.script_commands.specs.declared.Command as code
use Rattle.script_commands.specs.declared.Command.TheVariants.{Sizes, Idle, Arrive, Ask, Both, Idles, End}
use Rattle.script_commands.specs.Commands.{Command, command, sizes, idle, arrive, ask, both, idles, end}

abbrev pub command_in : code.Command → Command
command_in (Sizes q b k) = command sizes (q ∷ b ∷ k ∷ [])
command_in Idle = command idle []
command_in (Arrive q v) = command arrive (q ∷ v ∷ [])
command_in (Ask q) = command ask (q ∷ [])
command_in (Both q v p) = command both (q ∷ v ∷ p ∷ [])
command_in (Idles n) = command idles (n ∷ [])
command_in End = command end []
