-- What reading, judging and writing promise, by the definitions of scripts.
use Rattle.std.specs.Prelude.{◌≡◌, Bool, List, ◌++◌, ℕ, ltb, length, drop, ⊤, Result, Ok, Err}
use Rattle.model.specs.Basics.{choose, when}
use Rattle.script_commands.specs.declared.Command as code
use Rattle.script_commands.specs.Commands.{OperandsFit}
use Rattle.script_commands.specs.Scripts.{Reading, refused, taken, judge, command_bytes}
use Rattle.script_commands.specs.Values.{command_in}
use Rattle.scripts.specs.declared.Fault.{Fault}
use Rattle.scripts.specs.declared.Refusal.{Refusal}
use Rattle.scripts.specs.declared.Refusal.TheVariants.{UnknownCode, CutShort, OutOfPlace, WrongEnd, DoesNotFit}

-- The paper's number of a refusal.
abbrev pub number_of : Refusal → ℕ
number_of UnknownCode = 12
number_of CutShort = 13
number_of OutOfPlace = 14
number_of WrongEnd = 15
number_of DoesNotFit = 16

-- The paper's number, or the command with its length, for each case of a reader's answer.
abbrev pub reading_in : Result (code.Command × ℕ) Refusal → Reading
reading_in (Ok t) = taken (command_in t.0) t.1
reading_in (Err e) = refused (number_of e)

-- A judge's answer: the paper's number, and the offset of its place; 0 of a good script.
abbrev pub fault_number_in : Result ⊤ Fault → ℕ
fault_number_in (Ok x) = 0
fault_number_in (Err f) = number_of f.refusal

abbrev pub fault_offset_in : Result ⊤ Fault → ℕ
fault_offset_in (Ok x) = 0
fault_offset_in (Err f) = f.offset

-- A whole script judged: 0, or the number and the offset of its place.
pub record ScriptJudged (script : List ℕ) (r : Result ⊤ Fault) : Type 0 where
  pub number_is : fault_number_in r ≡ (judge script).number
  pub offset_is : fault_offset_in r ≡ (judge script).offset

-- The bytes of a command.
abbrev pub command_bytes_in : code.Command → List ℕ
command_bytes_in c = command_bytes (command_in c)

-- "16: Writer: output rest too short for the command"
abbrev pub too_short : code.Command → List ℕ → Bool
too_short c output = ltb (length output) (length (command_bytes_in c))

-- A writer's answer: the paper's number, and how many bytes were written; 0 of a command that was not.
abbrev pub written_number_in : Result ℕ Refusal → ℕ
written_number_in (Ok n) = 0
written_number_in (Err e) = number_of e

abbrev pub written_length_in : Result ℕ Refusal → ℕ
written_length_in (Ok n) = n
written_length_in (Err e) = 0

-- "The writer changes no byte beyond the command it wrote"; on 16 "output untouched". That the operands fit their
-- widths is what the types of the command's fields give, and what reading it back rests on.
pub record CommandWritten (c : code.Command) (output : List ℕ) (r : Result ℕ Refusal) (output' : List ℕ) : Type 0 where
  pub fits : OperandsFit (command_in c)
  pub number_is : written_number_in r ≡ when (too_short c output) 16
  pub length-is : written_length_in r ≡ choose (too_short c output) 0 (length (command_bytes_in c))
  pub output_is : output' ≡ choose (too_short c output) output
      (command_bytes_in c ++ drop (length (command_bytes_in c)) output)
