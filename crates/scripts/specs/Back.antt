-- "A command we wrote reads back as itself", over calls: it cites the contracts of the writer, the reader and the judge
-- alone, so that it holds of whatever meets them.
use Rattle.std.specs.Prelude.{◌≡◌, Bool, true, false, List, [], ◌∷◌, ◌++◌, map, ℕ, ◌+◌, take, drop, ⊤, Result, Ok}
use Rattle.script_commands.specs.declared.Command as code
use Rattle.script_commands.specs.Commands.{is_end}
use Rattle.script_commands.specs.Scripts.{read_command, out_of_place, judge, InOrder}
use Rattle.script_commands.specs.Values.{command_in}
use Rattle.scripts.specs.declared.Fault.{Fault}
use Rattle.scripts.specs.declared.Refusal.{Refusal}
use Rattle.scripts.specs.Says.{reading_in, ScriptJudged, CommandWritten}

-- One command: whatever is written reads back as itself with its length where it stands in order, whatever follows it.
abbrev pub CommandBack : Type 0
CommandBack =
    (c : code.Command) (output output' : List ℕ) (w : Result ℕ Refusal) (n : ℕ) (first : Bool)
    (r : Result (code.Command × ℕ) Refusal)
    → CommandWritten c output w output' → w ≡ Ok n
    → out_of_place first (command_in c).kind ≡ false
    → reading_in r ≡ read_command first output'
    → r ≡ Ok (c, n)

-- A script written command by command, each call getting what the one before left of the output: the output as it came,
-- as it is left, and how many bytes were written.
pub data Writes : List code.Command → List ℕ → List ℕ → ℕ → Type 0 where
  none_written : {output : List ℕ} → Writes [] output output 0
  next_written : {c : code.Command} {cs : List code.Command} {output output' rest' : List ℕ} {w : Result ℕ Refusal}
      {m n : ℕ}
      → CommandWritten c output w output' → w ≡ Ok m
      → Writes cs (drop m output') rest' n
      → Writes (c ∷ cs) output (take m output' ++ rest') (m + n)

-- A script read command by command to its end, each call getting what the one before left of the script.
pub data Reads : Bool → List ℕ → List code.Command → Type 0 where
  end_read : {first : Bool} {bytes : List ℕ} {r : Result (code.Command × ℕ) Refusal} {c : code.Command} {n : ℕ}
      → reading_in r ≡ read_command first bytes → r ≡ Ok (c, n) → is_end (command_in c).kind ≡ true
      → Reads first bytes (c ∷ [])
  next_read : {first : Bool} {bytes : List ℕ} {r : Result (code.Command × ℕ) Refusal} {c : code.Command} {n : ℕ}
      {cs : List code.Command}
      → reading_in r ≡ read_command first bytes → r ≡ Ok (c, n) → is_end (command_in c).kind ≡ false
      → Reads false (drop n bytes) cs
      → Reads first bytes (c ∷ cs)

-- A whole script: written command by command in order, it is judged good, its commands are those that were written, and
-- whoever reads it command by command comes to its end and has them.
pub record ScriptBack (cs : List code.Command) (output' : List ℕ) (n : ℕ) : Type 0 where
  pub judged_good : (j : Result ⊤ Fault) → ScriptJudged (take n output') j → j ≡ Ok tt
  pub commands_are : (judge (take n output')).commands ≡ map command_in cs
  pub reads_are : (read : List code.Command) → Reads true (take n output') read → read ≡ cs
  pub reads_run : Reads true (take n output') cs

pub record ReadBack : Type 0 where
  pub command-back : CommandBack
  pub script-back :
      (cs : List code.Command) (output output' : List ℕ) (n : ℕ)
      → InOrder true (map command_in cs) → Writes cs output output' n → ScriptBack cs output' n
