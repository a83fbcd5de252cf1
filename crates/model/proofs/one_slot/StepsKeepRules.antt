-- Steps 1 to 3 keep the rules: a cell that leaves takes its queue's head byte with it, the arrival finds room in its
-- ring, and a request is Owed only where its queue has a byte for it. `rules-delivered`, `rules-arrived` and
-- `rules-asked` say it.
use mathlib.Core.Path.{◌≡◌, refl, subst}
use mathlib.Core.Bool.{true, false}
use mathlib.Core.List.{List, [], ◌∷◌, ◌++◌}
use mathlib.Core.Option.{Option, some, none}
use Prim.Native.Nat.{ℕ, suc, ◌+◌, ◌-◌, ◌*◌, ◌<◌, ◌≤◌}
use native.Mathlib.Omega.{arith}
use lib.Dec.{eqb}
use lib.ListN.{length, drop, length-append, length-drop}
use borrow.Author.Tests.{eqb-true, eqb-false, ltb-true}
use Rattle.model.specs.Basics.{choose}
use Rattle.model.specs.State.{Byte, Cell, empty, held, owed, State, count_of, owes, owed_of, tail_bytes, head_bytes}
use Rattle.model.specs.State.{owed_cells, blocks}
use Rattle.model.specs.Slot.{oldest_cell, head_without, after_delivery, arriving, after_arrival, is_owed, held_cell}
use Rattle.model.specs.Slot.{youngest_cell, tail_left, oldest_of, after_request, leaves_uncovered}
use Rattle.model.proofs.basics.Tests.{by_test, positive}
use Rattle.model.proofs.basics.AllOf.{all_append}
use Rattle.model.proofs.basics.Bytes.{Below, below_without, length-without_le, count_append, count_one_same}
use Rattle.model.proofs.basics.Bytes.{count_one_other, count_without}
use Rattle.model.proofs.basics.Cells.{CellBelow, cells_below_drop, owed_append}
use Rattle.model.proofs.meaning.Steps.{held_takes_from_tail, owed_leaves_tail}
use Rattle.model.proofs.one_slot.Rules.{Rules}

-- 1. The oldest cell leaves.
pub owed_oldest : (cells : List Cell) (q : ℕ) → owed_of q cells ≡ owes q (oldest_cell cells) + owed_of q (drop 1 cells)
owed_oldest [] q = refl
owed_oldest (c ∷ cells) q = refl

pub count_head_without : (c : Cell) (head : List Byte) (q : ℕ) → count_of q (head_without c head)
    ≡ count_of q head - owes q c
count_head_without empty head q = omega arith
count_head_without (held p v) head q = omega arith
count_head_without (owed p) head q = count_without 1 p q head

pub below_head_without : (n : ℕ) (c : Cell) (head : List Byte) → Below n head → Below n (head_without c head)
below_head_without n empty head h = h
below_head_without n (held p v) head h = h
below_head_without n (owed p) head h = below_without n 1 p head h

pub rules-delivered : (n : ℕ) (x : State) → Rules (suc n) x → Rules n (after_delivery x)
rules-delivered n x v = record {
  tail_below = v.tail_below;
  head_below = below_head_without x.sizes.Q (oldest_cell x.cells) x.head v.head_below;
  cells_below = cells_below_drop x.sizes.Q x.cells v.cells_below;
  cells_long = omega (arith, length-drop 1 x.cells, v.cells_long);
  rings_long = v.rings_long;
  firsts = v.firsts;
  room = v.room;
  backed = λ q l. omega (
    arith,
    v.backed q l,
    owed_oldest x.cells q,
    count_head_without (oldest_cell x.cells) x.head q,
  );
}

-- A queue's Owed cells and head bytes fall together as the oldest cell leaves, so a request is Owed before and after
-- alike.
pub owed_after_delivery : (x : State) (q : ℕ) → leaves_uncovered (oldest_cell x.cells) x ≡ false
    → owed_cells x q + head_bytes (after_delivery x) q ≡ owed_cells (after_delivery x) q + head_bytes x q
owed_after_delivery x q e = go (oldest_cell x.cells) e (owed_oldest x.cells q)
    (count_head_without (oldest_cell x.cells) x.head q)
  where
    go : (c : Cell) → leaves_uncovered c x ≡ false
        → owed_cells x q ≡ owes q c + owed_of q (drop 1 x.cells)
        → count_of q (head_without c x.head) ≡ head_bytes x q - owes q c
        → owed_cells x q + count_of q (head_without c x.head) ≡ owed_of q (drop 1 x.cells) + head_bytes x q
    go empty e f g = omega arith
    go (held p v) e f g = omega arith
    go (owed p) e f g =
        by_test (eqb p q)
        (λ t. omega (
          arith,
          rw t at f,
          rw t at g,
          subst (λ (i : ℕ). 1 ≤ head_bytes x i) (eqb-true p q t)
              (positive (head_bytes x p) (eqb-false (head_bytes x p) 0 e)),
        ))
        (λ t. omega (arith, rw t at f, rw t at g))

-- 2. The arriving byte joins the tail: its queue is one of the Q, and has room.
pub length-arriving : (arrival : Option Byte) → length (arriving arrival) ≤ 1
length-arriving none = omega arith
length-arriving (some y) = omega arith

abbrev pub ArrivalTaken : State → Option Byte → Type 0
ArrivalTaken x arrival =
    (y : Byte) → arrival ≡ some y
    → (y.queue < x.sizes.Q) ×
    (tail_bytes x y.queue + x.sizes.b * blocks x y.queue < x.sizes.K * x.sizes.b)

pub rules-arrived : (n : ℕ) (x : State) (arrival : Option Byte) → ArrivalTaken x arrival → Rules n x
    → Rules n (after_arrival arrival x)
rules-arrived n x none f v = record {
  tail_below = all_append (λ (y : Byte). y.queue < x.sizes.Q) x.tail [] v.tail_below tt;
  head_below = v.head_below;
  cells_below = v.cells_below;
  cells_long = v.cells_long;
  rings_long = v.rings_long;
  firsts = v.firsts;
  room = λ q l. omega (arith, v.room q l, count_append q x.tail []);
  backed = v.backed;
}
rules-arrived n x (some y) f v = record {
  tail_below = all_append (λ (z : Byte). z.queue < x.sizes.Q) x.tail (y ∷ []) v.tail_below ((f y refl).0, tt);
  head_below = v.head_below;
  cells_below = v.cells_below;
  cells_long = v.cells_long;
  rings_long = v.rings_long;
  firsts = v.firsts;
  room = λ q l. by_test (eqb y.queue q)
      (λ t. subst (λ (i : ℕ). count_of i (x.tail ++ y ∷ []) + x.sizes.b * blocks x i ≤ x.sizes.K * x.sizes.b)
      (eqb-true y.queue q t)
      (omega (arith, (f y refl).1, count_append y.queue x.tail (y ∷ []), count_one_same y)))
      (λ t. omega (arith, v.room q l, count_append q x.tail (y ∷ []), count_one_other y q t));
  backed = v.backed;
}

-- 3. The request takes the youngest cell: its queue is one of the Q.
pub held_owes : (q p : ℕ) (o : Option ℕ) → owes p (held_cell q o) ≡ 0
held_owes q p none = refl
held_owes q p (some v) = refl

pub youngest_owed : (x : State) (q p : ℕ) → is_owed x q ≡ true
    → owes p (youngest_cell x (some q)) ≡ choose (eqb q p) 1 0
youngest_owed x q p t = rw t

pub youngest_held : (x : State) (q p : ℕ) → is_owed x q ≡ false → owes p (youngest_cell x (some q)) ≡ 0
youngest_held x q p t = rw t (held_owes q p (oldest_of q x.tail))

held_below : (n q : ℕ) (o : Option ℕ) → q < n → CellBelow n (held_cell q o)
held_below n q none l = tt
held_below n q (some v) l = l

pub youngest_below : (x : State) (request : Option ℕ) → ((q : ℕ) → request ≡ some q → q < x.sizes.Q)
    → CellBelow x.sizes.Q (youngest_cell x request)
youngest_below x none f = tt
youngest_below x (some q) f =
    by_test (is_owed x q)
    (λ t. rw t (f q refl))
    (λ t. rw t (held_below x.sizes.Q q (oldest_of q x.tail) (f q refl)))

pub count_tail_left : (x : State) (request : Option ℕ) (q : ℕ) → count_of q (tail_left x request) ≤ tail_bytes x q
count_tail_left x none q = omega arith
count_tail_left x (some p) q =
    by_test (is_owed x p)
    (λ t. rw (owed_leaves_tail x p t) (omega arith))
    (λ t. rw (held_takes_from_tail x p t) (omega (arith, count_without 1 p q x.tail)))

pub length-tail_left : (x : State) (request : Option ℕ) → length (tail_left x request) ≤ length x.tail
length-tail_left x none = omega arith
length-tail_left x (some q) =
    by_test (is_owed x q)
    (λ t. rw (owed_leaves_tail x q t) (omega arith))
    (λ t. rw (held_takes_from_tail x q t) (omega (arith, length-without_le 1 q x.tail)))

below_tail_left : (x : State) (request : Option ℕ) → Below x.sizes.Q x.tail
    → Below x.sizes.Q (tail_left x request)
below_tail_left x none h = h
below_tail_left x (some p) h =
    by_test (is_owed x p)
    (λ t. rw (owed_leaves_tail x p t) h)
    (λ t. rw (held_takes_from_tail x p t) (below_without x.sizes.Q 1 p x.tail h))

backed_asked : (x : State) (request : Option ℕ) (q : ℕ)
    → owed_cells x q ≤ head_bytes x q + x.sizes.b * blocks x q
    → owed_of q (x.cells ++ youngest_cell x request ∷ []) ≤ head_bytes x q + x.sizes.b * blocks x q
backed_asked x none q h = omega (arith, owed_append q x.cells (empty ∷ []))
backed_asked x (some p) q h =
    by_test (is_owed x p)
    (λ t. by_test (eqb p q)
    (λ u. omega (
      arith,
      split,
      rw u at (youngest_owed x p q t),
      subst (λ (i : ℕ). owed_cells x i < head_bytes x i + x.sizes.b * blocks x i) (eqb-true p q u)
          (ltb-true (owed_cells x p) (head_bytes x p + x.sizes.b * blocks x p) t),
    ))
    (λ u. omega (arith, split, rw u at (youngest_owed x p q t))))
    (λ t. omega (arith, split, youngest_held x p q t))
  where
    split : owed_of q (x.cells ++ youngest_cell x (some p) ∷ []) ≡ owed_cells x q + (owes q (youngest_cell x (some p)) + 0)
    split = owed_append q x.cells (youngest_cell x (some p) ∷ [])

pub rules-asked : (n : ℕ) (x : State) (request : Option ℕ) → ((q : ℕ) → request ≡ some q → q < x.sizes.Q)
    → Rules n x → Rules (suc n) (after_request request x)
rules-asked n x request f v = record {
  tail_below = below_tail_left x request v.tail_below;
  head_below = v.head_below;
  cells_below = all_append (CellBelow x.sizes.Q) x.cells (youngest_cell x request ∷ []) v.cells_below
      (youngest_below x request f, tt);
  cells_long = omega (arith, v.cells_long, length-append x.cells (youngest_cell x request ∷ []));
  rings_long = v.rings_long;
  firsts = v.firsts;
  room = λ q l. omega (arith, v.room q l, count_tail_left x request q);
  backed = λ q l. backed_asked x request q (v.backed q l);
}
