-- The runner's answer as one number: how many bytes were printed, or 0 where the output was too short. It is 1 or more
-- otherwise, since every script prints a line: its fault, its refusal or its ending.
use mathlib.Core.Path.{◌≡◌, refl, ap, ◌∙◌}
use mathlib.Core.Bool.{Bool, true, false}
use mathlib.Core.List.{List, [], ◌∷◌}
use mathlib.Core.Option.{Option, some, none}
use Prim.Native.Nat.{ℕ, zero, suc, ◌≤◌}
use native.Mathlib.Omega.{arith}
use lib.Dec.{eqb, ltb}
use lib.ListN.{length, length-append}
use Rattle.std.specs.Prelude.{Result, Ok, Err}
use Rattle.std.specs.Result.{result_unwrap_or}
use Rattle.model.specs.Basics.{choose}
use Rattle.model.specs.Lists.{Step, accepted}
use Rattle.script_commands.specs.Commands as of
use Rattle.script_commands.specs.Scripts.{judge}
use Rattle.script_lines.specs.Lines.{Line, ending, fault, line_text, text}
use Rattle.script_text.specs.Run.{most_bytes, slot_lines, script_steps, sizes_of, start_number, started_lines, script_lines}
use Rattle.script_runner.specs.declared.OutputTooShort.{OutputTooShort}
use Rattle.script_runner.specs.Says.{printed_in, short, ScriptSays}
use Rattle.c_scripts.specs.Says.{ScriptRan}

-- Every script prints a line.
chosen_lines : (t : Bool) (xs ys : List Line) → 1 ≤ length xs → 1 ≤ length ys → 1 ≤ length (choose t xs ys)
chosen_lines true xs ys h k = h
chosen_lines false xs ys h k = k

started_some : (n : ℕ) (cs : List of.Command) (store : List ℕ) → 1 ≤ length (started_lines n cs store)
started_some zero cs store =
    omega (arith, length-append (slot_lines 0 steps) (ending (length (accepted steps)) ∷ []))
  where
    steps : List Step
    steps = script_steps cs store
started_some (suc n) cs store = omega arith

some_line : (script store : List ℕ) → 1 ≤ length (script_lines script store)
unfolding script_lines
some_line script store =
    chosen_lines (ltb most_bytes (length script)) (fault 15 most_bytes ∷ []) _ (omega arith)
    (chosen_lines (eqb (judge script).number 0)
    (started_lines (start_number (sizes_of (judge script).commands) store) (judge script).commands store)
    (fault (judge script).number (judge script).offset ∷ [])
    (started_some (start_number (sizes_of (judge script).commands) store) (judge script).commands store)
    (omega arith))

some_text : (lines : List Line) → 1 ≤ length lines → 1 ≤ length (text lines)
unfolding line_text
some_text [] h = absurd (omega (arith, h))
some_text (line ∷ lines) h = omega arith

abbrev or_zero : Option ℕ → ℕ
or_zero none = 0
or_zero (some n) = n

chosen : (t : Bool) (n : ℕ) → or_zero (choose t none (some n)) ≡ choose t 0 n
chosen true n = refl
chosen false n = refl

told : (r : Result ℕ OutputTooShort) → result_unwrap_or r 0 ≡ or_zero (printed_in r)
told (Ok n) = refl
told (Err e) = refl

pub ran_is : {script store output store' output' : List ℕ} {r : Result ℕ OutputTooShort} {n : ℕ}
    → ScriptSays script store output r store' output' → n ≡ result_unwrap_or r 0
    → ScriptRan script store output n store' output'
ran_is {script} {store} {output} {r = r} {n} says is = record {
  printed_is = printed;
  output_is = says.output_is;
  store_is = says.store_is;
  some_printed = λ long.
      omega (arith, printed ∙ ap (λ (t : Bool). choose t 0 bytes) long, some_text lines (some_line script store));
}
  where
    lines : List Line
    lines = script_lines script store

    bytes : ℕ
    bytes = length (text lines)

    printed : n ≡ choose (short script output) 0 bytes
    printed = is ∙ told r ∙ ap or_zero says.answer-is ∙ chosen (short script output) bytes
