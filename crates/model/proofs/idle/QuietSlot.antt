-- One quiet slot: the empty cell that leaves delivers nothing, no block moves, and so the slot shifts the cells by
-- one, turns the phase by one and changes nothing else. `quiet_slot` says it.
use mathlib.Core.Path.{◌≡◌, refl, ap, sym, ◌∙◌}
use mathlib.Core.Bool.{true}
use mathlib.Core.List.{List, [], ◌∷◌, ◌++◌, append-nil}
use mathlib.Core.Option.{Option, some, none}
use Prim.Native.Nat.{ℕ, ◌+◌, ◌-◌, ◌%◌, ◌≤◌, ◌<◌}
use native.Mathlib.Omega.{arith}
use native.Mathlib.Nat.{mod_self, mod-eq_of_lt, add-zero}
use lib.Dec.{eqb}
use lib.ListN.{length, drop, get_or, length-append}
use borrow.Author.Tests.{eqb-true, eqb-false, le-ltb}
use Rattle.model.specs.Basics.{choose, update}
use Rattle.model.specs.Sizes.{Design, store_bytes}
use Rattle.model.specs.State.{Byte, Cell, empty, held, owed, State, count_of, head_bytes}
use Rattle.model.specs.Slot.{oldest_cell, delivery_of, head_without, moves, fullest, queue_to_write, store_written}
use Rattle.model.specs.Slot.{tail_written, rings_written, refill_queue, queue_to_read, head_read, rings_read, asked}
use Rattle.model.specs.Slot.{wrote, wrote_store, refilled, head_full, number_alone, Answer, accept, answer}
use Rattle.model.specs.Slot.{refusal, slot}
use Rattle.model.specs.Calls.{idle}
use Rattle.model.specs.Idle.{quietly, NothingToMove, Quiet}
use Rattle.model.proofs.basics.Tests.{by_test}
use Rattle.model.proofs.meaning.Steps.{move_writes_fullest, no_move_no_write, move_reads_scan, no_move_no_read}
use Rattle.model.proofs.meaning.Place.{no_read_no_place}
use Rattle.model.proofs.basics.States.{same-state}
use Rattle.model.proofs.one_slot.Rules.{Keeps, keeps-holds}
use Rattle.model.proofs.one_slot.Calls.{reply_is, answer-is}

-- An empty cell is nothing to the scan, at either end.
scan_skips_first : (credits : ℕ → ℕ) (cells : List Cell) → oldest_cell cells ≡ empty
    → refill_queue credits (drop 1 cells) ≡ refill_queue credits cells
scan_skips_first credits [] e = refl
scan_skips_first credits (cell ∷ cells) e = ap (λ (c : Cell). refill_queue credits (c ∷ cells)) (sym e)

scan_skips_last : (credits : ℕ → ℕ) (cells : List Cell)
    → refill_queue credits (cells ++ empty ∷ []) ≡ refill_queue credits cells
scan_skips_last credits [] = refl
scan_skips_last credits (empty ∷ cells) = scan_skips_last credits cells
scan_skips_last credits (held q v ∷ cells) = scan_skips_last credits cells
scan_skips_last credits (owed q ∷ cells) =
    ap (λ (found : Option ℕ). choose (eqb (credits q) 0) (some q) found)
    (scan_skips_last (update credits q (credits q - 1)) cells)

pub scan_shifted : (credits : ℕ → ℕ) (cells : List Cell) → oldest_cell cells ≡ empty
    → refill_queue credits (drop 1 cells ++ empty ∷ []) ≡ refill_queue credits cells
scan_shifted credits cells e = scan_skips_last credits (drop 1 cells) ∙ scan_skips_first credits cells e

pub oldest_empty : (cells : List Cell) → get_or cells 0 empty ≡ empty → oldest_cell cells ≡ empty
oldest_empty [] e = refl
oldest_empty (cell ∷ cells) e = e

-- The phase after one slot.
phase_turns : (x : State) → x.phase < x.sizes.b → choose (moves x) 0 (x.phase + 1) ≡ (x.phase + 1) % x.sizes.b
phase_turns x l =
    by_test (moves x)
    (λ t. let last : x.phase + 1 ≡ x.sizes.b = omega (arith, eqb-true x.phase (x.sizes.b - 1) t) in
    rw (t, last) (sym (mod_self x.sizes.b)))
    (λ t. rw t (sym (mod-eq_of_lt (omega (arith, eqb-false x.phase (x.sizes.b - 1) t)))))

pub phase_stays : (x : State) → x.phase < x.sizes.b → x.phase ≡ (x.phase + 0) % x.sizes.b
phase_stays x l = sym (ap (λ (k : ℕ). k % x.sizes.b) (add-zero x.phase) ∙ mod-eq_of_lt l)

-- The answer of a quiet slot that leaves the state y.
abbrev pub quiet_answer : State → List ℕ → Answer
quiet_answer y store = record { reply = number_alone 0; state = y; store = store }

-- One quiet slot.
module _ (design : Design) (x : State) (store : List ℕ) (kept : Keeps design x)
    (long : store_bytes x.sizes ≤ length store) (quiet : Quiet 1 x) where
  leaving : oldest_cell x.cells ≡ empty
  leaving = oldest_empty x.cells (quiet.empties 0 (omega arith))

  nothing-now : moves x ≡ true → NothingToMove x
  nothing-now t = quiet.still (omega (arith, eqb-true x.phase (x.sizes.b - 1) t))

  tail_same : (asked x idle).tail ≡ x.tail
  tail_same = append-nil (x.tail ++ []) ∙ append-nil x.tail

  none_written : queue_to_write (asked x idle) ≡ none
  none_written =
      by_test (moves x)
      (λ t. move_writes_fullest (asked x idle) t
      ∙ ap (λ (tail : List Byte). fullest x.sizes.b (λ q. count_of q tail) x.sizes.Q) tail_same
      ∙ (nothing-now t).none_to_write)
      (λ t. no_move_no_write (asked x idle) t)

  none_read : queue_to_read (wrote x idle) ≡ none
  none_read =
      by_test (moves x)
      (λ t. move_reads_scan (wrote x idle) t
      ∙ ap (λ (cell : Cell). refill_queue (λ q. count_of q (head_without cell x.head))
      (drop 1 x.cells ++ empty ∷ [])) leaving
      ∙ scan_shifted (head_bytes x) x.cells leaving
      ∙ (nothing-now t).none_to_read)
      (λ t. no_move_no_read (wrote x idle) t)

  pub quiet_accepted : refusal design x store idle ≡ 0
  quiet_accepted =
      rw (
        ap (head_full (wrote x idle)) none_read,
        keeps-holds design x kept,
        le-ltb (length store) (store_bytes x.sizes) long,
        leaving,
      )

  head_left : (refilled x store idle).head ≡ x.head
  head_left =
      ap (λ (o : Option ℕ). head_read o (wrote x idle) (wrote_store x store idle)) none_read
      ∙ ap (λ (cell : Cell). head_without cell x.head) leaving

  quiet_state : (accept x store idle).state ≡ quietly 1 x
  quiet_state =
      same-state (accept x store idle).state (quietly 1 x) refl (phase_turns x kept.phase_ok)
      (ap (λ (o : Option ℕ). tail_written o (asked x idle)) none_written ∙ tail_same)
      head_left
      refl
      (ap (λ (o : Option ℕ). rings_read o (wrote x idle)) none_read
      ∙ ap (λ (o : Option ℕ). rings_written o (asked x idle)) none_written)
      (omega (arith, length-append x.tail [], ap length tail_same, kept.tail_mark))
      (omega (arith, ap length head_left, kept.head_mark))
      refl

  pub quiet_slot : slot design x store idle ≡ quiet_answer (quietly 1 x) store
  quiet_slot =
      ap (λ (n : ℕ). answer n x store idle) quiet_accepted
      ∙ answer-is (quiet_answer (quietly 1 x) store) (accept x store idle)
      (reply_is (number_alone 0) (accept x store idle).reply refl refl refl
      (ap (λ (cell : Cell). delivery_of cell x.head) leaving)
      none_written
      none_read
      (no_read_no_place (wrote x idle) none_read))
      quiet_state
      (ap (λ (o : Option ℕ). store_written o (asked x idle) store) none_written)
