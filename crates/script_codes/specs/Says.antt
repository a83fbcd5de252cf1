-- What the pieces of reading and writing promise, by the definitions of commands and scripts.
use Rattle.std.specs.Prelude as rust
use Rattle.std.specs.Prelude.{◌≡◌, Some, None, Bool, List, ◌++◌, ℕ, ◌+◌, ◌≤◌, length, take, drop}
use Rattle.std.proofs.Math.Option.{Option, some, none}
use Rattle.script_commands.specs.declared.Command as enum
use Rattle.script_commands.specs.Commands.{Kind, OperandsFit, command, row, kind_of, widths, operands_in}
use Rattle.script_commands.specs.Scripts.{out_of_place, command_bytes}
use Rattle.script_commands.specs.Values.{command_in}
use Rattle.script_codes.specs.declared.coded.Coded.{Coded}

-- How many bytes a command has, its code counted; none for an unknown code.
abbrev pub length_of : Option Kind → rust.Option ℕ
length_of none = None
length_of (some k) = Some (1 + widths (row k).operands)

-- Whether a command of this code, where it is a known one, is out of place.
pub record PlaceSays (code : ℕ) (first : Bool) (r : Bool) : Type 0 where
  pub place_is : (k : Kind) → kind_of code ≡ some k → r ≡ out_of_place first k

-- There are bytes enough for the operands of this code, where it is a known one.
pub record Enough (code : ℕ) (bytes : List ℕ) : Type 0 where
  pub within : (k : Kind) → kind_of code ≡ some k → widths (row k).operands ≤ length bytes

-- The command of this code, where it is a known one, with the operands that the bytes begin with.
pub record CommandSays (code : ℕ) (bytes : List ℕ) (r : enum.Command) : Type 0 where
  pub command_is :
      (k : Kind) → kind_of code ≡ some k → command_in r ≡ command k (operands_in (row k).operands bytes)

-- A command's bytes as the first ones of an array, and how many they are.
pub record CodedSays (c : enum.Command) (r : Coded) : Type 0 where
  pub fits : OperandsFit (command_in c)
  pub length-is : r.length ≡ length (command_bytes (command_in c))
  pub bytes_are : take r.length r.bytes ≡ command_bytes (command_in c)

-- An output whose first bytes are these, and which is beyond them as it was.
abbrev pub put_over : List ℕ → List ℕ → List ℕ
put_over bytes output = bytes ++ drop (length bytes) output
