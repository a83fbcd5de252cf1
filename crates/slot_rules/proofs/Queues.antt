-- One queue keeps its rules by its numbers; all queues do exactly where each does.
use mathlib.Core.Path.{◌≡◌, refl, ap, sym, ◌∙◌}
use mathlib.Core.Bool.{Bool, true, ◌&&◌, and_comm}
use Prim.Native.Nat.{ℕ, zero, suc, ◌+◌, ◌*◌, ◌≤◌, ◌<◌}
use native.Mathlib.Omega.{arith}
use native.Mathlib.Numerals.{add-one}
use lib.Dec.{ltb, leb}
use lib.ListN.{take, get_or}
use lib.Seq.{take-length}
use Rattle.std.specs.List.{list_all, range_with_len}
use Rattle.std.proofs.lemmas.List.Folds.{list_all_more}
use Rattle.std.proofs.lemmas.List.FromFn.{length-range_with_len, get_or-range_with_len}
use borrow.Author.Tests.{ltb-true, leb-true}
use Rattle.model.specs.Basics.{all_below}
use Rattle.model.proofs.basics.Tests.{and_left, and_right}
use Rattle.layout.specs.declared.Regs.{Regs}
use Rattle.slot_rules.specs.Says.{ring_keeps}

-- The numbers of one queue.
module _ (regs : Regs) (first count tail head owed : ℕ) where
  abbrev room : Bool
  room = leb (tail + regs.block * count) (regs.depth * regs.block)

  abbrev backed : Bool
  backed = leb owed (head + regs.block * count)

  pub ring-first : ring_keeps regs first count tail head owed ≡ true → first < regs.depth
  ring-first e = ltb-true first regs.depth (and_left (ltb first regs.depth) (room && (backed && true)) e)

  pub ring-room : ring_keeps regs first count tail head owed ≡ true
      → tail + regs.block * count ≤ regs.depth * regs.block
  ring-room e =
      leb-true (tail + regs.block * count) (regs.depth * regs.block)
      (and_left room (backed && true) (and_right (ltb first regs.depth) (room && (backed && true)) e))

  pub ring-backed : ring_keeps regs first count tail head owed ≡ true → owed ≤ head + regs.block * count
  ring-backed e =
      leb-true owed (head + regs.block * count)
      (and_left backed true
      (and_right room (backed && true) (and_right (ltb first regs.depth) (room && (backed && true)) e)))

-- All queues: the test of those that count up from 0 is that of those below a number.
tests_below : (test : ℕ → Bool) (n i : ℕ) → i ≤ n → list_all test (take i (range_with_len 0 n)) ≡ all_below i test
tests_below test n zero l = refl
tests_below test n (suc i) l =
    ap (λ (k : ℕ). list_all test (take k (range_with_len 0 n))) (sym (add-one i))
    ∙ list_all_more test (range_with_len 0 n) i 0 (omega (arith, l, length-range_with_len 0 n))
    ∙ ap (λ (k : ℕ). list_all test (take i (range_with_len 0 n)) && test k) here
    ∙ ap (λ (t : Bool). t && test i) (tests_below test n i (omega (arith, l)))
    ∙ and_comm (all_below i test) (test i)
  where
    here : get_or (range_with_len 0 n) i 0 ≡ i
    here = omega (arith, get_or-range_with_len 0 n i 0 (omega (arith, l)))

pub queues_below : (test : ℕ → Bool) (n : ℕ) → list_all test (range_with_len 0 n) ≡ all_below n test
queues_below test n =
    ap (list_all test)
    (sym (ap (λ (k : ℕ). take k (range_with_len 0 n)) (sym (length-range_with_len 0 n)) ∙ take-length (range_with_len 0 n)))
    ∙ tests_below test n n (omega arith)
