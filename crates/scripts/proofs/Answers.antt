-- The reader takes a command where no refusal's condition holds: its code is a known one, in its place, with bytes
-- enough for its operands.
use Rattle.std.specs.Prelude as rust
use Rattle.std.specs.Prelude.{Some, None}
use mathlib.Core.Path.{◌≡◌, sym, ap, ◌∙◌}
use mathlib.Core.Bool.{Bool, false}
use mathlib.Core.List.{List, ◌∷◌}
use mathlib.Core.Option.{Option}
use Prim.Native.Nat.{ℕ, ◌+◌, ◌≤◌}
use native.Mathlib.Omega.{arith}
use lib.ListN.{length}
use Rattle.model.proofs.basics.Tests.{by_option}
use Rattle.script_commands.specs.Commands.{Kind, row, kind_of, widths}
use Rattle.script_commands.specs.Scripts.{taken, read_code, read_command}
use Rattle.script_commands.specs.Values.{command_in}
use Rattle.script_commands.specs.declared.Command as enum
use Rattle.script_commands.proofs.Judging.{reads_taken}
use Rattle.script_codes.specs.Says.{length_of, PlaceSays, CommandSays}

some_not_none : (n : ℕ) → ◌≡◌ {A = rust.Option ℕ} (Some n) None → ⊥
some_not_none n e = let z : ◌≡◌ {A = ℕ} 0 1 = cc in omega arith

some_same : (n m : ℕ) → ◌≡◌ {A = rust.Option ℕ} (Some n) (Some m) → n ≡ m
some_same n m e = cc

pub takes : (first : Bool) (code n : ℕ) (operands : List ℕ) (c : enum.Command)
    → Some n ≡ length_of (kind_of code) → PlaceSays code first false → n ≤ length (code ∷ operands)
    → CommandSays code operands c
    → taken (command_in c) n ≡ read_command first (code ∷ operands)
takes first code n operands c known in_place long is-command = by_option (kind_of code)
    (λ e. absurd (some_not_none n (known ∙ ap length_of e)))
    (λ k e.
    let is_n : n ≡ 1 + widths (row k).operands = some_same n _ (known ∙ ap length_of e) in
    sym (ap (λ (found : Option Kind). read_code first found operands) e
    ∙ reads_taken first k operands (sym (in_place.place_is k e)) (omega (arith, is_n, long))
    ∙ rw (is-command.command_is k e, is_n)))
