-- The command that a value of the enum stands for tells the value: `command_of` finds it again, so that two values of
-- one command are the same.
use mathlib.Core.Path.{◌≡◌, refl, ap, sym, ◌∙◌}
use mathlib.Core.List.{List, [], ◌∷◌, map}
use Prim.Native.Nat.{ℕ}
use lib.ListN.{get_or}
use Rattle.script_commands.specs.declared.Command as code
use Rattle.script_commands.specs.declared.Command.TheVariants.{Sizes, Idle, Arrive, Ask, Both, Idles, End}
use Rattle.script_commands.specs.Commands.{Kind, sizes, idle, arrive, ask, both, idles, end, Command}
use Rattle.script_commands.specs.Values.{command_in}

abbrev value_of : Kind → List ℕ → code.Command
value_of sizes vs = Sizes (get_or vs 0 0) (get_or vs 1 0) (get_or vs 2 0)
value_of idle vs = Idle
value_of arrive vs = Arrive (get_or vs 0 0) (get_or vs 1 0)
value_of ask vs = Ask (get_or vs 0 0)
value_of both vs = Both (get_or vs 0 0) (get_or vs 1 0) (get_or vs 2 0)
value_of idles vs = Idles (get_or vs 0 0)
value_of end vs = End

abbrev command_of : Command → code.Command
command_of c = value_of c.kind c.operands

value_back : (c : code.Command) → command_of (command_in c) ≡ c
value_back (Sizes q b k) = refl
value_back Idle = refl
value_back (Arrive q v) = refl
value_back (Ask q) = refl
value_back (Both q v p) = refl
value_back (Idles n) = refl
value_back End = refl

values-back : (cs : List code.Command) → map command_of (map command_in cs) ≡ cs
values-back [] = refl
values-back (c ∷ cs) = rw (value_back c, values-back cs)

pub command-inj : (c d : code.Command) → command_in c ≡ command_in d → c ≡ d
command-inj c d e = sym (value_back c) ∙ ap command_of e ∙ value_back d

pub commands_inj : (cs ds : List code.Command) → map command_in cs ≡ map command_in ds → cs ≡ ds
commands_inj cs ds e = sym (values-back cs) ∙ ap (map command_of) e ∙ values-back ds
