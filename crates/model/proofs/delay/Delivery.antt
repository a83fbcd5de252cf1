-- Steps 1 and 2 on the ideal buffer: the oldest cell, where it is covered, takes the line's oldest place with it and
-- leaves what waits, and the arriving byte joins what waits in its queue. `delivered_soonest`, `line_delivered`,
-- `waiting_delivered` and `waiting_arrived` say it.
use mathlib.Core.Path.{◌≡◌, refl, ap, sym, ◌∙◌, fun_ext}
use mathlib.Core.Bool.{false}
use mathlib.Core.List.{List, [], ◌∷◌, ◌++◌, append_assoc}
use mathlib.Core.Option.{Option}
use Prim.Native.Nat.{ℕ, ◌+◌, ◌≤◌}
use native.Mathlib.Omega.{arith}
use lib.Dec.{eqb}
use lib.ListN.{drop}
use lib.Seq.{drop-append-le}
use borrow.Author.Tests.{eqb-true, eqb-false}
use Rattle.model.specs.Basics.{update}
use Rattle.model.specs.State.{Byte, Cell, empty, held, owed, State, values_of, owed_of, head_bytes, owed_cells}
use Rattle.model.specs.Slot.{as_byte, oldest_cell, delivery_of, head_without, arriving, after_arrival, leaves_uncovered}
use Rattle.model.specs.Ideal.{soonest, waiting_with, stream, line_of}
use Rattle.model.proofs.basics.Tests.{by_test, positive}
use Rattle.model.proofs.basics.Bytes.{values-append, values-without_same, values-without_other}
use Rattle.model.proofs.delay.Line.{waiting, first_append, drop-count, streams_used}

-- 1. The oldest cell leaves, covered: the line's oldest place is delivered, and what waits stays.
module _ (x : State) (rest : ℕ → List ℕ) where
  abbrev before : ℕ → List ℕ
  before q = values_of q x.head ++ rest q

  abbrev after : List Cell → ℕ → List ℕ
  after cells q = values_of q (head_without (oldest_cell cells) x.head) ++ rest q

  covered_count : (q : ℕ) → leaves_uncovered (owed q) x ≡ false → 1 ≤ head_bytes x q
  covered_count q e = positive (head_bytes x q) (eqb-false (head_bytes x q) 0 e)

  stream-delivered : (q : ℕ) (cells : List Cell) → leaves_uncovered (owed q) x ≡ false
      → (p : ℕ) → after (owed q ∷ cells) p ≡ update before q (drop 1 (before q)) p
  stream-delivered q cells e p =
      by_test (eqb q p)
      (λ t. rw (t, ← (eqb-true q p t))
      (ap (λ (l : List ℕ). l ++ rest q) (values-without_same 1 q x.head)
      ∙ sym (drop-append-le 1 (values_of q x.head) (rest q) (covered_count q e))))
      (λ t. rw t (ap (λ (l : List ℕ). l ++ rest p) (values-without_other 1 q p x.head t)))

  pub delivered_soonest : (cells : List Cell) → leaves_uncovered (oldest_cell cells) x ≡ false
      → delivery_of (oldest_cell cells) x.head ≡ soonest (line_of before cells)
  delivered_soonest [] e = refl
  delivered_soonest (empty ∷ cells) e = refl
  delivered_soonest (held q v ∷ cells) e = refl
  delivered_soonest (owed q ∷ cells) e =
      ap (as_byte q) (sym (first_append (values_of q x.head) (rest q) (covered_count q e)))

  pub line_delivered : (cells : List Cell) → leaves_uncovered (oldest_cell cells) x ≡ false
      → line_of (after cells) (drop 1 cells) ≡ drop 1 (line_of before cells)
  line_delivered [] e = refl
  line_delivered (empty ∷ cells) e = refl
  line_delivered (held q v ∷ cells) e = refl
  line_delivered (owed q ∷ cells) e = ap (λ (f : ℕ → List ℕ). line_of f cells) (fun_ext (stream-delivered q cells e))

  pub waiting_delivered : (cells : List Cell) → leaves_uncovered (oldest_cell cells) x ≡ false
      → (p : ℕ) → drop (owed_of p (drop 1 cells)) (after cells p) ≡ drop (owed_of p cells) (before p)
  waiting_delivered [] e p = refl
  waiting_delivered (empty ∷ cells) e p = drop-count (owed_of p cells) (0 + owed_of p cells) (before p) (omega arith)
  waiting_delivered (held q v ∷ cells) e p = drop-count (owed_of p cells) (0 + owed_of p cells) (before p) (omega arith)
  waiting_delivered (owed q ∷ cells) e p =
      ap (drop (owed_of p cells)) (stream-delivered q cells e p) ∙ streams_used before q cells p

-- 2. The arriving byte joins its queue's waiting bytes.
pub waiting_arrived : (x : State) (arrival : Option Byte) (store : List ℕ) (q : ℕ)
    → waiting (after_arrival arrival x) store q ≡ waiting_with (waiting x store) arrival q
waiting_arrived x arrival store q =
    ap (λ (l : List ℕ). drop (owed_cells x q) (stream x store q) ++ l) (values-append q x.tail (arriving arrival))
    ∙ sym (append_assoc (drop (owed_cells x q) (stream x store q)) (values_of q x.tail)
    (values_of q (arriving arrival)))
