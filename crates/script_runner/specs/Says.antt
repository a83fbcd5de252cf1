-- What the runner promises, by the definition of what a script prints.
use Rattle.std.specs.Prelude.{◌≡◌, Bool, false, List, [], ◌++◌, ℕ, ◌≤◌, ◌<◌, ltb, length, drop, Result, Ok, Err}
use Rattle.std.proofs.Math.Option.{Option, some, none}
use Rattle.model.specs.Basics.{choose}
use Rattle.model.specs.Sizes.{sizes, paper}
use Rattle.model.specs.State.{State}
use Rattle.model.specs.Slot.{Call}
use Rattle.model.specs.Lists.{run}
use Rattle.script_commands.specs.Scripts.{Script, after_end, judge_from, judge}
use Rattle.script_lines.specs.Lines.{Line, text}
use Rattle.script_lines.specs.Says.{PutSays}
use Rattle.script_text.specs.Run.{slots_of_all, sizes_of, list_lines, judged_lines, script_lines, script_store, output_bound}
use Rattle.script_slots.specs.Says.{count_limit}
use Rattle.script_runner.specs.declared.FirstSizes.{FirstSizes}
use Rattle.script_runner.specs.declared.OutputTooShort.{OutputTooShort}

-- The script from a place on where a command is due that is not the first: judged as the definition judges it, and at
-- its end nothing is left. The slots of its commands.
abbrev pub script_from : List ℕ → ℕ → Script
script_from script from =
    choose (ltb from (length script)) (judge_from false from (drop from script)) (after_end from [])

abbrev pub calls_from : List ℕ → ℕ → List Call
calls_from script from = slots_of_all (script_from script from).commands

-- The sizes that a script that was judged good begins with, and what is left behind them.
pub record SizesSays (script : List ℕ) (r : FirstSizes) : Type 0 where
  pub sizes-are : sizes r.queues r.block r.depth ≡ sizes_of (judge script).commands
  pub calls_are : calls_from script r.length ≡ slots_of_all (judge script).commands
  pub rest_good : (script_from script r.length).number ≡ 0

-- What a list of slots with its last line needs: its lines fit the output, and their number fits the count.
pub record ListFits (x : State) (store : List ℕ) (calls : List Call) (output : List ℕ) : Type 0 where
  pub lines_fit : length (text (list_lines (run paper x store calls))) ≤ length output
  pub slots_fit : length calls < count_limit

-- The same of a script that was judged good.
pub record GoodFits (script store output : List ℕ) : Type 0 where
  pub good : (judge script).number ≡ 0
  pub lines_fit : length (text (judged_lines (judge script) store)) ≤ length output
  pub slots_fit : length (slots_of_all (judge script).commands) < count_limit

-- Lines at the start of an output that had room for them, and a store as it is left.
pub record PrintsSays (lines : List Line) (left output : List ℕ) (r : ℕ) (store' output' : List ℕ) : Type 0 where
  pub lines_are : PutSays (text lines) 0 output r output'
  pub store_is : store' ≡ left

-- How many bytes were printed, or none.
abbrev pub printed_in : Result ℕ OutputTooShort → Option ℕ
printed_in (Ok n) = some n
printed_in (Err e) = none

-- The output is shorter than what a script of so many bytes can need.
abbrev pub short : List ℕ → List ℕ → Bool
short script output = ltb (length output) (output_bound (length script))

-- Any bytes as a script, on any store: exactly the defined text at the start of the output and nothing else changed
-- there, the store as the script leaves it; or, where the output is too short, nothing changed.
pub record ScriptSays (script store output : List ℕ) (r : Result ℕ OutputTooShort) (store' output' : List ℕ) : Type 0 where
  pub answer-is : printed_in r ≡ choose (short script output) none (some (length (text (script_lines script store))))
  pub output_is : output'
      ≡ choose (short script output) output
      (text (script_lines script store) ++ drop (length (text (script_lines script store))) output)
  pub store_is : store' ≡ choose (short script output) store (script_store script store)
