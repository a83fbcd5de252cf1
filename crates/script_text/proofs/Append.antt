-- A list of slots in two parts prints the lines of the first part and then those of the second, which go on counting
-- from the slots that the first accepted. Quiet slots print nothing, and each of them counts.
use mathlib.Core.Path.{◌≡◌, refl, ap, sym, ◌∙◌}
use mathlib.Core.Bool.{false}
use mathlib.Core.List.{List, [], ◌∷◌, ◌++◌, append_assoc}
use Prim.Native.Nat.{ℕ, zero, suc, ◌+◌}
use native.Mathlib.Omega.{arith}
use native.Mathlib.Nat.{add-zero}
use lib.Dec.{eqb}
use lib.ListN.{length, length-append}
use borrow.Author.Tests.{ne_eqb}
use Rattle.model.specs.Basics.{choose, All}
use Rattle.model.specs.Sizes.{Design}
use Rattle.model.specs.State.{State}
use Rattle.model.specs.Slot.{Call}
use Rattle.model.specs.Lists.{Step, run, last_state, last_store, accepted}
use Rattle.model.specs.Idle.{QuietStep}
use Rattle.model.proofs.one_slot.Lists.{run-append}
use Rattle.script_lines.specs.Lines.{Line, text, line_text}
use Rattle.script_text.specs.Run.{answer_lines, count_on, slot_lines}

-- The text of lines in two parts.
pub text-append : (xs ys : List Line) → text (xs ++ ys) ≡ text xs ++ text ys
text-append [] ys = refl
text-append (line ∷ xs) ys =
    ap (λ (bytes : List ℕ). line_text line ++ bytes) (text-append xs ys)
    ∙ sym (append_assoc (line_text line) (text xs) (text ys))

pub text-length_append : (xs ys : List Line) → length (text (xs ++ ys)) ≡ length (text xs) + length (text ys)
text-length_append xs ys = ap length (text-append xs ys) ∙ length-append (text xs) (text ys)

-- A refused slot's number is not 0.
pub refused-test : (n : ℕ) → eqb (suc n) 0 ≡ false
refused-test n = ne_eqb (suc n) 0 (λ e. omega (arith, e))

-- The accepted slots of a list in two parts.
pub accepted-append : (xs ys : List Step) → accepted (xs ++ ys) ≡ accepted xs ++ accepted ys
accepted-append [] ys = refl
accepted-append (step ∷ xs) ys = by_number step.reply.number (accepted-append xs ys)
  where
    by_number : (n : ℕ) → accepted (xs ++ ys) ≡ accepted xs ++ accepted ys
        → choose (eqb n 0) (step ∷ accepted (xs ++ ys)) (accepted (xs ++ ys))
        ≡ choose (eqb n 0) (step ∷ accepted xs) (accepted xs) ++ accepted ys
    by_number zero e = ap (λ (slots : List Step). step ∷ slots) e
    by_number (suc n) e = rw (refused-test n) e

pub accepted-length_append : (xs ys : List Step)
    → length (accepted (xs ++ ys)) ≡ length (accepted xs) + length (accepted ys)
accepted-length_append xs ys = ap length (accepted-append xs ys) ∙ length-append (accepted xs) (accepted ys)

-- The count goes on by one with each slot that is accepted.
count_goes_on : (t n : ℕ) (step : Step) (steps : List Step)
    → count_on t n + length (accepted steps) ≡ t + length (choose (eqb n 0) (step ∷ accepted steps) (accepted steps))
count_goes_on t zero step steps = omega arith
count_goes_on t (suc n) step steps = rw (refused-test n) refl

pub slot-lines_append : (t : ℕ) (xs ys : List Step)
    → slot_lines t (xs ++ ys) ≡ slot_lines t xs ++ slot_lines (t + length (accepted xs)) ys
slot-lines_append t [] ys = ap (λ (n : ℕ). slot_lines n ys) (sym (add-zero t))
slot-lines_append t (step ∷ xs) ys =
    ap (λ (lines : List Line). first ++ lines)
    (slot-lines_append (count_on t step.reply.number) xs ys
    ∙ ap (λ (n : ℕ). slot_lines (count_on t step.reply.number) xs ++ slot_lines n ys)
    (count_goes_on t step.reply.number step xs))
    ∙ sym (append_assoc first (slot_lines (count_on t step.reply.number) xs)
    (slot_lines (t + length (accepted (step ∷ xs))) ys))
  where
    first : List Line
    first = answer_lines t step.reply

-- The same of a run of calls in two parts, the second on what the first left (`last_append` and `last_store_append` of
-- the model say what both leave).
module _ (design : Design) (x : State) (store : List ℕ) (calls more : List Call) where
  abbrev pub gone_on : List Step
  gone_on = run design (last_state design x store calls) (last_store design x store calls) more

  pub run-lines_append : (t : ℕ) → slot_lines t (run design x store (calls ++ more))
      ≡ slot_lines t (run design x store calls) ++ slot_lines (t + length (accepted (run design x store calls))) gone_on
  run-lines_append t =
      ap (slot_lines t) (run-append design x store calls more)
      ∙ slot-lines_append t (run design x store calls) gone_on

  pub run-count_append : length (accepted (run design x store (calls ++ more)))
      ≡ length (accepted (run design x store calls)) + length (accepted gone_on)
  run-count_append =
      ap (λ (steps : List Step). length (accepted steps)) (run-append design x store calls more)
      ∙ accepted-length_append (run design x store calls) gone_on

-- Quiet slots: nothing is printed, and as many are accepted as there are.
pub quiet_prints_nothing : (t : ℕ) (steps : List Step) → All QuietStep steps → slot_lines t steps ≡ []
quiet_prints_nothing t [] quiet = refl
quiet_prints_nothing t (step ∷ steps) quiet =
    rw quiet.0 (quiet_prints_nothing (suc t) steps quiet.1)

pub quiet_all_accepted : (steps : List Step) → All QuietStep steps → length (accepted steps) ≡ length steps
quiet_all_accepted [] quiet = refl
quiet_all_accepted (step ∷ steps) quiet = rw quiet.0 (ap suc (quiet_all_accepted steps quiet.1))
