-- A script's text stands at the start of an output that is long enough, and is all that was printed.
use mathlib.Core.Path.{◌≡◌, ap, sym, ◌∙◌}
use mathlib.Core.Bool.{Bool, false}
use mathlib.Core.List.{List, ◌++◌}
use mathlib.Core.Option.{some, none}
use Prim.Native.Nat.{ℕ, ◌≤◌}
use lib.ListN.{length, take, drop, replicate}
use lib.Seq.{take-append_seam}
use borrow.Author.Tests.{le-ltb}
use Rattle.std.specs.Prelude.{Result, Ok}
use Rattle.model.specs.Basics.{choose}
use Rattle.model.proofs.basics.Tests.{some_inj}
use Rattle.script_lines.specs.Lines.{text}
use Rattle.script_text.specs.Run.{script_lines, store_lent, program_text, output_bound}
use Rattle.script_runner.specs.declared.OutputTooShort.{OutputTooShort}
use Rattle.script_runner.specs.Says.{printed_in, short, ScriptSays}

module _ {script store output : List ℕ} (room : output_bound (length script) ≤ length output) {r : Result ℕ OutputTooShort}
    {store' output' : List ℕ} (says : ScriptSays script store output r store' output') where
  abbrev printed : List ℕ
  printed = text (script_lines script store)

  enough : short script output ≡ false
  enough = le-ltb (length output) (output_bound (length script)) room

  all_printed : printed_in r ≡ some (length printed)
  all_printed = says.answer-is ∙ ap (λ (b : Bool). choose b none (some (length printed))) enough

  module _ {n : ℕ} (is : r ≡ Ok n) where
    n_is : n ≡ length printed
    n_is = some_inj n (length printed) (sym (ap printed_in is) ∙ all_printed)

    output_is : output' ≡ printed ++ drop (length printed) output
    output_is = says.output_is ∙ ap (λ (b : Bool). choose b output (printed ++ drop (length printed) output)) enough

    pub printed_is : take n output' ≡ printed
    printed_is =
        ap (λ (k : ℕ). take k output') n_is
        ∙ ap (take (length printed)) output_is
        ∙ take-append_seam printed (drop (length printed) output)

-- What is printed on the store that the program lends is the program's text.
pub on_its_store : (script : List ℕ) {store bytes : List ℕ} → store ≡ replicate store_lent 0
    → bytes ≡ text (script_lines script store) → bytes ≡ program_text script
unfolding program_text
on_its_store script zeros is = is ∙ ap (λ (lent : List ℕ). text (script_lines script lent)) zeros
