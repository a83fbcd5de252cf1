-- The answers of the script functions for C and C++, by the paper's definitions of scripts: commands go in and out as
-- numbers.
use Rattle.std.specs.Prelude as rust
use Rattle.std.specs.Prelude.{◌≡◌, Result, Some, None, Ok, Err, Bool, true, false, not, ◌&&◌, List, [], ◌∷◌}
use Rattle.std.specs.Prelude.{ℕ, ◌%◌, ◌≤◌, eqb, ltb, length, take, get_or}
use Rattle.std.proofs.Math.Option.{Option, some, none}
use Rattle.model.specs.Basics.{choose, when, first_refusal}
use Rattle.script_commands.specs.declared.Command as code
use Rattle.script_commands.specs.Commands.{Operand, width, bound, Kind, row, kind_of, Command, command}
use Rattle.script_commands.specs.Scripts.{Reading, refused, taken, out_of_place, read_command, Script, command_bytes}
use Rattle.script_commands.specs.Values.{command_in}
use Rattle.script_codes.specs.Says.{put_over}
use Rattle.scripts.specs.declared.Refusal.{Refusal}
use Rattle.scripts.specs.Says.{number_of}
use Rattle.script_lines.specs.Lines.{text}
use Rattle.script_text.specs.Run.{script_lines, script_store}
use Rattle.script_runner.specs.Says.{short}
use Rattle.c_scripts.specs.declared.Numbers.{Numbers}
use Rattle.c_scripts.specs.declared.Fault.{Fault}
use Rattle.c_scripts.specs.declared.NumbersRead.{NumbersRead}
use Rattle.c_scripts.specs.declared.NumbersPut.{NumbersPut}

-- The number and the offset of a script that was judged.
abbrev pub fault_of : Script → Fault
fault_of script = record { offset = script.offset; number = script.number }

-- A command as numbers: the code of its row, and its operands in the row's order, 0 for each that it does not have.
abbrev pub numbers_of : Command → Numbers
numbers_of c = record {
  code = (row c.kind).code;
  one = get_or c.operands 0 0;
  two = get_or c.operands 1 0;
  three = get_or c.operands 2 0;
}

abbrev pub no_numbers : Numbers
no_numbers = record { code = 0; one = 0; two = 0; three = 0 }

-- A reading as numbers.
abbrev pub reading_of : Reading → NumbersRead
reading_of (taken c n) = record { length = n; command = numbers_of c; number = 0 }
reading_of (refused n) = record { length = 0; command = no_numbers; number = n }

-- `first` other than 0 means first.
abbrev pub is_first : ℕ → Bool
is_first first = not (eqb first 0)

-- The three numbers beside the code.
abbrev pub given : Numbers → List ℕ
given n = n.one ∷ n.two ∷ n.three ∷ []

-- They fit a row's operands: each is within the width of its operand, and the ones behind these are 0.
abbrev pub fitting : List Operand → List ℕ → Bool
fitting [] [] = true
fitting [] (v ∷ values) = eqb v 0 && fitting [] values
fitting (o ∷ os) [] = false
fitting (o ∷ os) (v ∷ values) = ltb v (bound (width o)) && fitting os values

-- The command of a kind with the first of the numbers as its operands, and its bytes.
abbrev pub command_for : Kind → Numbers → Command
command_for k n = command k (take (length (row k).operands) (given n))

abbrev pub bytes_for : Option Kind → Numbers → List ℕ
bytes_for none n = []
bytes_for (some k) n = command_bytes (command_for k n)

-- The command that numbers name, or the number that refuses them: 12 for a code of no row, as the reader has it; 16 for
-- numbers that do not fit the command.
abbrev pub named_number : Option Kind → Numbers → ℕ
named_number none n = 12
named_number (some k) n = when (not (fitting (row k).operands (given n))) 16

abbrev pub named_command : Option Kind → Numbers → Option Command
named_command none n = none
named_command (some k) n = choose (fitting (row k).operands (given n)) (some (command_for k n)) none

abbrev pub named_number_in : Result code.Command Refusal → ℕ
named_number_in (Ok c) = 0
named_number_in (Err e) = number_of e

abbrev pub named_in : Result code.Command Refusal → Option Command
named_in (Ok c) = some (command_in c)
named_in (Err e) = none

pub record CommandNamed (n : Numbers) (r : Result code.Command Refusal) : Type 0 where
  pub number_is : named_number_in r ≡ named_number (kind_of n.code) n
  pub command_is : named_in r ≡ named_command (kind_of n.code) n

-- A writer's answer as numbers.
abbrev pub put_of : Result ℕ Refusal → NumbersPut
put_of (Ok n) = record { length = n; number = 0 }
put_of (Err e) = record { length = 0; number = number_of e }

-- 12 for a code of no row, as the reader has it; 16 for numbers that do not fit the command; and the paper's own 16,
-- "output rest too short for the command".
abbrev pub write_refusals : Kind → Numbers → List ℕ → List ℕ
write_refusals k n output =
    when (not (fitting (row k).operands (given n))) 16 ∷
    when (ltb (length output) (length (bytes_for (some k) n))) 16 ∷ []

abbrev pub write_number : Option Kind → Numbers → List ℕ → ℕ
write_number none n output = 12
write_number (some k) n output = first_refusal (write_refusals k n output)

-- "The writer changes no byte beyond the command it wrote"; on a refusal "output untouched".
pub record NumbersWritten (n : Numbers) (output : List ℕ) (r : NumbersPut) (output' : List ℕ) : Type 0 where
  pub number_is : r.number ≡ write_number (kind_of n.code) n output
  pub length-is : r.length ≡ choose (eqb r.number 0) (length (bytes_for (kind_of n.code) n)) 0
  pub output_is : output' ≡ choose (eqb r.number 0) (put_over (bytes_for (kind_of n.code) n) output) output

-- "A command we wrote reads back as itself", over calls of the two functions: with its length, where it stands in
-- order, and whatever follows it.
abbrev pub NumbersBack : Type 0
NumbersBack =
    (n : Numbers) (output output' : List ℕ) (w : NumbersPut) (first : ℕ) (r : NumbersRead) (k : Kind)
    → NumbersWritten n output w output' → w.number ≡ 0
    → kind_of n.code ≡ some k → out_of_place (is_first first) k ≡ false
    → r ≡ reading_of (read_command (is_first first) output')
    → r ≡ record { length = w.length; command = n; number = 0 }

-- Any bytes as a script, on any store: how many bytes of the defined text stand at the start of the output, with
-- nothing else changed there, and the store as the script leaves it; or 0, with nothing changed, where the output is
-- shorter than `output_bound` of the script's length. No script prints nothing, so that 0 tells of nothing else.
pub record ScriptRan (script store output : List ℕ) (r : ℕ) (store' output' : List ℕ) : Type 0 where
  pub printed_is : r ≡ choose (short script output) 0 (length (text (script_lines script store)))
  pub output_is : output' ≡ choose (short script output) output (put_over (text (script_lines script store)) output)
  pub store_is : store' ≡ choose (short script output) store (script_store script store)
  pub some_printed : short script output ≡ false → 1 ≤ r

-- The code's way to the command of numbers: cut each operand to its width, and see whether anything was cut off.
abbrev pub cut : List Operand → List ℕ → List ℕ
cut [] values = []
cut (o ∷ os) [] = []
cut (o ∷ os) (v ∷ values) = v % bound (width o) ∷ cut os values

abbrev pub cut_command : Option Kind → Numbers → Option Command
cut_command none n = none
cut_command (some k) n = some (command k (cut (row k).operands (given n)))

abbrev pub cut_in : rust.Option code.Command → Option Command
cut_in (Some c) = some (command_in c)
cut_in None = none
