-- Scripts judged, computed: the listing of document 01 with its commands, and one script for each way to fail with the
-- number and the offset of its place. Bytes are in hex, as in the paper.
use mathlib.Core.Path.{◌≡◌, refl}
use mathlib.Core.List.{List, [], ◌∷◌, map}
use Prim.Native.Nat.{ℕ}
use native.Mathlib.Omega.{arith}
use Rattle.script_commands.specs.declared.Command as code
use Rattle.script_commands.specs.declared.Command.TheVariants.{Sizes, Idle, Arrive, Ask, Both, Idles, End}
use Rattle.script_commands.specs.Commands.{OperandsFit}
use Rattle.script_commands.specs.Scripts.{Script, judge_from, judge, script_bytes}
use Rattle.script_commands.specs.Values.{command_in}

-- "Input (hex) 10 01 02 02 03 00 41 00 01 00 42 02 00 02 00 01 00 43 01 00 44 00 02 00 04 02 00 05": a command a line.
abbrev pub listing : List ℕ
listing =
    0x10 ∷ 0x01 ∷ 0x02 ∷ 0x02 ∷
    0x03 ∷ 0x00 ∷ 0x41 ∷ 0x00 ∷
    0x01 ∷ 0x00 ∷ 0x42 ∷
    0x02 ∷ 0x00 ∷
    0x02 ∷ 0x00 ∷
    0x01 ∷ 0x00 ∷ 0x43 ∷
    0x01 ∷ 0x00 ∷ 0x44 ∷
    0x00 ∷
    0x02 ∷ 0x00 ∷
    0x04 ∷ 0x02 ∷ 0x00 ∷
    0x05 ∷ []

abbrev pub listed : List code.Command
listed =
    Sizes 1 2 2 ∷
    Both 0 65 0 ∷
    Arrive 0 66 ∷
    Ask 0 ∷
    Ask 0 ∷
    Arrive 0 67 ∷
    Arrive 0 68 ∷
    Idle ∷
    Ask 0 ∷
    Idles 2 ∷
    End ∷ []

-- All operands different, to tell their places; 10 02 as a count is 16 + 256 × 2.
abbrev pub distinct : List ℕ
distinct =
    0x10 ∷ 0x01 ∷ 0x02 ∷ 0x03 ∷
    0x03 ∷ 0x04 ∷ 0x05 ∷ 0x06 ∷
    0x01 ∷ 0x07 ∷ 0x08 ∷
    0x04 ∷ 0x10 ∷ 0x02 ∷
    0x05 ∷ []

abbrev pub distinctly : List code.Command
distinctly =
    Sizes 1 2 3 ∷
    Both 4 5 6 ∷
    Arrive 7 8 ∷
    Idles 528 ∷
    End ∷ []

-- Both are good scripts of those commands, and those commands are written so.
abbrev good : List code.Command → Script
good cs = record { commands = map command_in cs; number = 0; offset = 0 }

pub listings_good : (judge listing ≡ good listed) × (judge distinct ≡ good distinctly)
unfolding judge judge_from
listings_good = (refl, refl)

pub listings_written :
    (script_bytes (map command_in listed) ≡ listing) × (script_bytes (map command_in distinctly) ≡ distinct)
listings_written = (refl, refl)

-- "Operands of one byte each unless said": the greatest operands fit, and so are among those that read back.
pub greatest-fit : OperandsFit (command_in (Both 255 255 255)) × OperandsFit (command_in (Idles 65535))
greatest-fit = ((omega arith, (omega arith, (omega arith, tt))), (omega arith, tt))

-- A script and what is to come of it: a refusal's number and its offset, 0 and 0 for a good script.
record Example : Type 0 where
  script : List ℕ
  number : ℕ
  offset : ℕ

abbrev judges : List ℕ → ℕ → ℕ → Example
judges script number offset = record { script = script; number = number; offset = offset }

abbrev examples : List Example
examples =
    -- Good: sizes and the end; sizes of 0 read well.
    judges (0x10 ∷ 0x01 ∷ 0x02 ∷ 0x02 ∷ 0x05 ∷ []) 0 0 ∷
    judges (0x10 ∷ 0x00 ∷ 0x00 ∷ 0x00 ∷ 0x05 ∷ []) 0 0 ∷
    -- 12, "unknown command": the first, where it comes before 14; a later one; the first of two faults.
    judges (0x06 ∷ []) 12 0 ∷
    judges (0x10 ∷ 0x01 ∷ 0x02 ∷ 0x02 ∷ 0x00 ∷ 0xff ∷ []) 12 5 ∷
    judges (0x10 ∷ 0x01 ∷ 0x02 ∷ 0x02 ∷ 0x06 ∷ 0x10 ∷ []) 12 4 ∷
    -- 13, "operands cut short", at its command byte: the first sizes, an arrival with a request, a count.
    judges (0x10 ∷ 0x01 ∷ 0x02 ∷ []) 13 0 ∷
    judges (0x10 ∷ 0x01 ∷ 0x02 ∷ 0x02 ∷ 0x00 ∷ 0x03 ∷ 0x00 ∷ 0x41 ∷ []) 13 5 ∷
    judges (0x10 ∷ 0x01 ∷ 0x02 ∷ 0x02 ∷ 0x04 ∷ 0x01 ∷ []) 13 4 ∷
    -- 14, "first command other than sizes": the end, a request, a request cut short.
    judges (0x05 ∷ []) 14 0 ∷
    judges (0x02 ∷ 0x00 ∷ []) 14 0 ∷
    judges (0x02 ∷ []) 14 0 ∷
    -- 14, "or sizes again": with its operands, cut short.
    judges (0x10 ∷ 0x01 ∷ 0x02 ∷ 0x02 ∷ 0x10 ∷ 0x01 ∷ 0x02 ∷ 0x02 ∷ 0x05 ∷ []) 14 4 ∷
    judges (0x10 ∷ 0x01 ∷ 0x02 ∷ 0x02 ∷ 0x00 ∷ 0x10 ∷ 0x01 ∷ []) 14 5 ∷
    -- 15, "bytes run out where a command is due": at the length. Empty input at 0.
    judges [] 15 0 ∷
    judges (0x10 ∷ 0x01 ∷ 0x02 ∷ 0x02 ∷ []) 15 4 ∷
    judges (0x10 ∷ 0x01 ∷ 0x02 ∷ 0x02 ∷ 0x00 ∷ 0x02 ∷ 0x00 ∷ []) 15 7 ∷
    -- 15, "or follow the end": at the first of them, whatever it is.
    judges (0x10 ∷ 0x01 ∷ 0x02 ∷ 0x02 ∷ 0x05 ∷ 0x00 ∷ 0x05 ∷ []) 15 5 ∷
    judges (0x10 ∷ 0x01 ∷ 0x02 ∷ 0x02 ∷ 0x05 ∷ 0x06 ∷ []) 15 5 ∷ []

abbrev answer : Example → ℕ × ℕ
answer e = ((judge e.script).number, (judge e.script).offset)

abbrev expected : Example → ℕ × ℕ
expected e = (e.number, e.offset)

pub examples-hold : map answer examples ≡ map expected examples
unfolding judge judge_from
examples-hold = refl
