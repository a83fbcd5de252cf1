-- Document 01, "Scripts" and refusals 12 to 16: reading one command, judging a whole script, writing one command.
use Rattle.std.specs.Prelude.{◌≡◌, Bool, true, false, not, List, [], ◌∷◌, ◌++◌, ℕ, zero, suc, ◌+◌, ltb, length, drop}
use Rattle.std.proofs.Math.Option.{Option, some, none}
use Rattle.model.specs.Basics.{choose}
use Rattle.script_commands.specs.Commands.{Kind, Command, command, row, is_sizes, is_end, kind_of, widths}
use Rattle.script_commands.specs.Commands.{operands_in, operand_bytes}

-- What the reader answers where a command is due: a refusal's number, or the command and how many bytes it has.
pub data Reading : Type 0 where
  refused : ℕ → Reading
  taken : Command → ℕ → Reading

-- "First command other than sizes, or sizes again"
abbrev pub out_of_place : Bool → Kind → Bool
out_of_place true k = not (is_sizes k)
out_of_place false k = is_sizes k

-- A command of a known kind, by the bytes that follow its code: 14 before 13.
abbrev pub read_known : Bool → Kind → List ℕ → Reading
read_known first k bytes =
    choose (out_of_place first k)
    (refused 14)
    (choose (ltb (length bytes) (widths (row k).operands))
    (refused 13)
    (taken (command k (operands_in (row k).operands bytes)) (1 + widths (row k).operands)))

-- "At a command byte 12 comes before 14".
abbrev pub read_code : Bool → Option Kind → List ℕ → Reading
read_code first none bytes = refused 12
read_code first (some k) bytes = read_known first k bytes

-- One command from what is left of a script; `first` says whether it is to be the script's first. "15: bytes run out
-- where a command is due".
abbrev pub read_command : Bool → List ℕ → Reading
read_command first [] = refused 15
read_command first (code ∷ bytes) = read_code first (kind_of code) bytes

-- A script judged: its commands, up to the fault where there is one; 0, or the fault's number and the offset of its
-- place.
pub record Script : Type 0 where
  pub commands : List Command
  pub number : ℕ
  pub offset : ℕ

-- The bytes after a command, which is the last one read where it is the end: "15: bytes .. follow the end".
abbrev pub after_end : ℕ → List ℕ → Script
after_end offset [] = record { commands = []; number = 0; offset = 0 }
after_end offset (x ∷ bytes) = record { commands = []; number = 15; offset = offset }

abbrev pub with_command : Command → Script → Script
with_command c s = record { commands = c ∷ s.commands; number = s.number; offset = s.offset }

-- What a reading at an offset makes of the script from there on; `rest` is the script after so many bytes.
abbrev pub go_on : Reading → ℕ → List ℕ → (ℕ → Script) → Script
go_on (refused n) offset bytes rest = record { commands = []; number = n; offset = offset }
go_on (taken c n) offset bytes rest =
    with_command c (choose (is_end c.kind) (after_end (offset + n) (drop n bytes)) (rest n))

-- "The whole script is judged, left to right", as the reader goes on from command to command. A command has a byte or
-- more, so that one more step than there are bytes is enough; `judge-is_reading` (proofs/Judging.antt) has no such
-- count.
abbrev pub judge_within : ℕ → Bool → ℕ → List ℕ → Script
judge_within zero first offset bytes = record { commands = []; number = 15; offset = offset }
judge_within (suc steps) first offset bytes =
    go_on (read_command first bytes) offset bytes (λ n. judge_within steps false (offset + n) (drop n bytes))

unfoldable pub judge_from : Bool → ℕ → List ℕ → Script
judge_from first offset bytes = judge_within (suc (length bytes)) first offset bytes

-- "Offsets count from 0."
unfoldable pub judge : List ℕ → Script
judge script = judge_from true 0 script

-- The bytes of a command: its code and its operands.
abbrev pub command_bytes : Command → List ℕ
command_bytes c = (row c.kind).code ∷ operand_bytes (row c.kind).operands c.operands

abbrev pub script_bytes : List Command → List ℕ
script_bytes [] = []
script_bytes (c ∷ cs) = command_bytes c ++ script_bytes cs

-- Commands in order: sizes first and nowhere else, the end last and nowhere else.
pub data InOrder : Bool → List Command → Type 0 where
  ends : {first : Bool} {c : Command}
      → out_of_place first c.kind ≡ false → is_end c.kind ≡ true → InOrder first (c ∷ [])
  goes_on : {first : Bool} {c : Command} {cs : List Command}
      → out_of_place first c.kind ≡ false → is_end c.kind ≡ false → InOrder false cs → InOrder first (c ∷ cs)
