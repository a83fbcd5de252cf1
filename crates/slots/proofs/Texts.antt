-- What `IsProgramText` rules out: every text begins with the letter of a line, so that no bytes are none
-- (`nothing-is_no_text`), and a script that reads well, which begins with the byte 10 hex of its sizes, is none either
-- (`script-is_no_text`).
use mathlib.Core.Path.{sym, subst}
use mathlib.Core.List.{List, [], ◌∷◌, ◌++◌}
use Prim.Native.Nat.{ℕ, zero, suc, ◌≤◌}
use native.Mathlib.Omega.{arith}
use lib.Dec.{eqb, ltb}
use lib.ListN.{length, get_or, replicate}
use Rattle.model.proofs.basics.Tests.{by_test}
use Rattle.script_commands.specs.Commands as of
use Rattle.script_commands.specs.Scripts.{Script, judge}
use Rattle.script_lines.specs.Lines.{Line, delivery, refusal, refill, ending, fault, letter, line_text, text}
use Rattle.script_text.specs.Run.{most_bytes, start_number, started_lines, script_steps, sizes_of, judged_lines}
use Rattle.script_text.specs.Run.{slot_lines, script_lines, store_lent, program_text}
use Rattle.slots.specs.Says.{IsProgramText}

-- The byte of D, the least of the five letters, or a greater one.
abbrev Lettered : List Line → Type 0
Lettered lines = 68 ≤ get_or (text lines) 0 0

a-letter : (line : Line) → 68 ≤ letter line
a-letter (delivery t q v) = omega arith
a-letter (refusal t n) = omega arith
a-letter (refill t q n) = omega arith
a-letter (ending t) = omega arith
a-letter (fault n offset) = omega arith

a-line : (line : Line) (lines : List Line) → Lettered (line ∷ lines)
unfolding line_text
a-line line lines = a-letter line

a-last_line : (lines : List Line) (last : Line) → Lettered (lines ++ last ∷ [])
a-last_line [] last = a-line last []
a-last_line (line ∷ lines) last = a-line line (lines ++ last ∷ [])

started : (n : ℕ) (cs : List of.Command) (store : List ℕ) → Lettered (started_lines n cs store)
started zero cs store = a-last_line (slot_lines 0 (script_steps cs store)) _
started (suc n) cs store = a-line (refusal 0 (suc n)) (ending 0 ∷ [])

judged : (script : Script) (store : List ℕ) → Lettered (judged_lines script store)
judged script store = by_test (eqb script.number 0)
    (λ t. rw t (started (start_number (sizes_of script.commands) store) script.commands store))
    (λ t. rw t (a-line (fault script.number script.offset) []))

pub text-begins : (input : List ℕ) → 68 ≤ get_or (program_text input) 0 0
unfolding program_text script_lines
text-begins input = by_test (ltb most_bytes (length input))
    (λ t. rw t (a-line (fault 15 most_bytes) []))
    (λ t. rw t (judged (judge input) (replicate store_lent 0)))

begins : (bytes : List ℕ) → IsProgramText bytes → 68 ≤ get_or bytes 0 0
begins bytes is = subst (λ (text : List ℕ). 68 ≤ get_or text 0 0) (sym is.text-is) (text-begins is.input)

pub nothing-is_no_text : IsProgramText [] → ⊥
nothing-is_no_text is = absurd (omega (arith, begins [] is))

pub script-is_no_text : (operands : List ℕ) → IsProgramText (16 ∷ operands) → ⊥
script-is_no_text operands is = absurd (omega (arith, begins (16 ∷ operands) is))
