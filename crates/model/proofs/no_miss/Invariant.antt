-- The invariant of a list from a fresh state, through each step of a slot. A slot that passes lets one more cell be
-- Owed, one more byte wait in the tail, and every order come one cell nearer; a move takes b of each away.
-- So the oldest cell is covered: `oldest_covered`.
use mathlib.Core.Path.{◌≡◌, refl, ap, ◌∙◌}
use mathlib.Core.Bool.{false}
use mathlib.Core.List.{List, [], ◌∷◌, ◌++◌}
use mathlib.Core.Option.{Option, some, none}
use Prim.Native.Nat.{ℕ, suc, ◌+◌, ◌-◌, ◌<◌, ◌≤◌}
use native.Mathlib.Omega.{arith}
use lib.Dec.{eqb}
use lib.ListN.{length, drop, length-append}
use borrow.Author.Tests.{eqb-true, eqb-false, ne_eqb}
use Rattle.model.specs.Basics.{choose}
use Rattle.model.specs.Sizes.{Sizes, Design, span}
use Rattle.model.specs.State.{Byte, Cell, empty, held, owed, State, fresh, count_of, tail_bytes, head_bytes}
use Rattle.model.specs.State.{owed_cells, ring_of}
use Rattle.model.specs.Slot.{oldest_cell, head_without, after_delivery, arriving, after_arrival, is_owed, held_cell}
use Rattle.model.specs.Slot.{oldest_of, youngest_cell, after_request, fullest, after_write, refill_queue, bytes_for}
use Rattle.model.specs.Slot.{block_at, after_read, leaves_uncovered}
use Rattle.model.proofs.basics.Tests.{by_test, positive}
use Rattle.model.proofs.basics.Sums.{sum-le, sum-le_add, sum_bound}
use Rattle.model.proofs.basics.Bytes.{count_refilled, length-for, length_without, sum-counts}
use Rattle.model.proofs.basics.Cells.{all_owed, is_owing, owed_append, all_owed_append, all_owed_length, sum_owed}
use Rattle.model.proofs.basics.Cells.{all_owed_empties}
use Rattle.model.proofs.meaning.Fullest.{fullest-some, fullest-none}
use Rattle.model.proofs.meaning.Scan.{scan_some, scan_none}
use Rattle.model.proofs.one_slot.Rules.{Rules}
use Rattle.model.proofs.one_slot.StepsKeepRules.{owed_oldest, count_head_without, length-tail_left}
use Rattle.model.proofs.no_miss.Walk.{Walk, at_covered, at_order, walk_fresh, walk_delivered, walk_youngest_idle}
use Rattle.model.proofs.no_miss.Walk.{walk_youngest_owed, walk_no_order, walk_refilled}

-- Each of the three counts is the number of slots since the last move, this one counted from the step on that uses it
-- up.
pub record Invariant (walkSlots owedSlots tailSlots : ℕ) (x : State) : Type 0 where
  pub covered : (q : ℕ) → head_bytes x q ≤ owed_cells x q + (x.sizes.b - 1)
  pub owed_few : all_owed x.cells ≤ length x.head + owedSlots
  pub orders_late : Walk x.sizes.b walkSlots (head_bytes x) x.cells
  pub tail_light : length x.tail ≤ span x.sizes + tailSlots

pub invariant_fresh : (design : Design) (s : Sizes) → Invariant 0 0 0 (fresh design s)
invariant_fresh design s = record {
  covered = λ q. omega arith;
  owed_few = omega (arith, all_owed_empties (design.cell_count s));
  orders_late = walk_fresh s.b 0 (design.cell_count s) (λ q. 0);
  tail_light = omega arith;
}

-- 1. The oldest cell leaves, covered.
owed_all_oldest : (cells : List Cell) → all_owed cells ≡ is_owing (oldest_cell cells) + all_owed (drop 1 cells)
owed_all_oldest [] = refl
owed_all_oldest (c ∷ cells) = refl

length-delivered : (c : Cell) (x : State) → leaves_uncovered c x ≡ false
    → length (head_without c x.head) + is_owing c ≡ length x.head
length-delivered empty x e = omega arith
length-delivered (held q v) x e = omega arith
length-delivered (owed q) x e = length_without 1 q x.head (positive (head_bytes x q) (eqb-false (head_bytes x q) 0 e))

pub invariant_delivered : (p : ℕ) (x : State) → p < x.sizes.b → leaves_uncovered (oldest_cell x.cells) x ≡ false
    → Invariant p p p x → Invariant (suc p) p p (after_delivery x)
invariant_delivered p x l e v = record {
  covered = λ q. omega (
    arith,
    v.covered q,
    owed_oldest x.cells q,
    count_head_without (oldest_cell x.cells) x.head q,
  );
  owed_few = omega (arith, v.owed_few, owed_all_oldest x.cells, length-delivered (oldest_cell x.cells) x e);
  orders_late = walk_delivered x.sizes.b p x.head x.cells l v.orders_late;
  tail_light = v.tail_light;
}

-- 2. The arriving byte joins the tail.
pub invariant_arrived : (i j k : ℕ) (x : State) (arrival : Option Byte) → Invariant i j k x
    → Invariant i j (k + length (arriving arrival)) (after_arrival arrival x)
invariant_arrived i j k x arrival v = record {
  covered = v.covered;
  owed_few = v.owed_few;
  orders_late = v.orders_late;
  tail_light = omega (arith, v.tail_light, length-append x.tail (arriving arrival));
}

-- It holds with a heavier tail allowed: the early and the late arrival together bring one byte at most.
pub invariant_heavier : (i j k l : ℕ) (x : State) → k ≤ l → Invariant i j k x → Invariant i j l x
invariant_heavier i j k l x h v = record {
  covered = v.covered;
  owed_few = v.owed_few;
  orders_late = v.orders_late;
  tail_light = omega (arith, v.tail_light, h);
}

-- 3. The request takes the youngest cell.
is_owing_held : (q : ℕ) (o : Option ℕ) → is_owing (held_cell q o) ≡ 0
is_owing_held q none = refl
is_owing_held q (some v) = refl

is_owing_le : (c : Cell) → is_owing c ≤ 1
is_owing_le empty = omega arith
is_owing_le (held q v) = omega arith
is_owing_le (owed q) = omega arith

walk_asked : (p k : ℕ) (x : State) (request : Option ℕ) → ((q : ℕ) → request ≡ some q → q < x.sizes.Q)
    → 1 ≤ x.sizes.b → Rules (span x.sizes) x → Invariant (suc p) p k x
    → Walk x.sizes.b (suc p) (head_bytes x) (x.cells ++ youngest_cell x request ∷ [])
walk_asked p k x none f pos r v = walk_youngest_idle empty refl v.orders_late
walk_asked p k x (some q) f pos r v =
    by_test (is_owed x q)
    (λ t. rw t (walk_youngest_owed x.sizes.Q x.sizes.b (x.sizes.b - 1) (omega arith) q (f q refl)
    r.cells_below
    v.covered
    (omega (arith, v.owed_few, r.cells_long, sum-counts x.sizes.Q x.head r.head_below))
    v.orders_late))
    (λ t. rw t (walk_youngest_idle (held_cell q (oldest_of q x.tail)) (is_owing_held q (oldest_of q x.tail))
    v.orders_late))

pub invariant_asked : (p k : ℕ) (x : State) (request : Option ℕ) → ((q : ℕ) → request ≡ some q → q < x.sizes.Q)
    → 1 ≤ x.sizes.b → Rules (span x.sizes) x
    → Invariant (suc p) p k x → Invariant (suc p) (suc p) k (after_request request x)
invariant_asked p k x request f pos r v = record {
  covered = λ q. omega (arith, v.covered q, owed_append q x.cells (youngest_cell x request ∷ []));
  owed_few = omega (
    arith,
    v.owed_few,
    all_owed_append x.cells (youngest_cell x request ∷ []),
    is_owing_le (youngest_cell x request),
  );
  orders_late = walk_asked p k x request f pos r v;
  tail_light = omega (arith, v.tail_light, length-tail_left x request);
}

-- 4. The write: b bytes go, or no queue has b and so each has b - 1 at most.
pub invariant_wrote : (n : ℕ) (x : State) (o : Option ℕ) → fullest x.sizes.b (tail_bytes x) x.sizes.Q ≡ o
    → Rules n x → Invariant x.sizes.b x.sizes.b x.sizes.b x
    → Invariant x.sizes.b x.sizes.b 0 (after_write o x)
invariant_wrote n x none e r v = record {
  covered = v.covered;
  owed_few = v.owed_few;
  orders_late = v.orders_late;
  tail_light = omega (
    arith,
    sum-counts x.sizes.Q x.tail r.tail_below,
    sum_bound x.sizes.Q (x.sizes.b - 1) (tail_bytes x)
        (λ q l. omega (arith, fullest-none x.sizes.b (tail_bytes x) x.sizes.Q e q l)),
  );
}
invariant_wrote n x (some q) e r v = record {
  covered = v.covered;
  owed_few = v.owed_few;
  orders_late = v.orders_late;
  tail_light = omega (
    arith,
    v.tail_light,
    length_without x.sizes.b q x.tail (fullest-some x.sizes.b (tail_bytes x) x.sizes.Q q e).has_block,
  );
}

-- 4. The read: the first order's queue gets b bytes, or there is no order and every Owed cell is covered.
pub invariant_read : (n : ℕ) (x : State) (store : List ℕ) (o : Option ℕ) → refill_queue (head_bytes x) x.cells ≡ o
    → ((q : ℕ) → o ≡ some q → length (block_at x.sizes store q (ring_of x.rings q).first) ≡ x.sizes.b)
    → 1 ≤ x.sizes.b → Rules n x → Invariant x.sizes.b x.sizes.b 0 x
    → Invariant 0 0 0 (after_read o x store)
invariant_read n x store none e whole pos r v = record {
  covered = v.covered;
  owed_few = omega (
    arith,
    sum-counts x.sizes.Q x.head r.head_below,
    sum_owed x.sizes.Q x.cells r.cells_below,
    sum-le x.sizes.Q (owed_cells x) (head_bytes x) (λ q l. scan_none (head_bytes x) x.cells e q),
  );
  orders_late = walk_no_order 0 e v.orders_late;
  tail_light = v.tail_light;
}
invariant_read n x store (some q) e whole pos r v = record {
  covered = λ p. by_test (eqb q p)
      (λ t. omega (
        arith,
        pos,
        rw t at (more p),
        critical,
        ap (head_bytes x) (eqb-true q p t),
        ap (owed_cells x)
            (eqb-true q p t),
      ))
      (λ t. omega (arith, v.covered p, rw t at (more p)));
  owed_few = omega (arith, v.owed_few, length-append x.head (bytes_for q block), length-for q block, whole q refl);
  orders_late = walk_refilled x.sizes.b pos q 0 (λ p. count_of p (x.head ++ bytes_for q block)) (omega arith) more e
      v.orders_late;
  tail_light = v.tail_light;
}
  where
    block : List ℕ
    block = block_at x.sizes store q (ring_of x.rings q).first

    critical : head_bytes x q < owed_cells x q
    critical = scan_some (head_bytes x) x.cells q e

    more : (p : ℕ) → count_of p (x.head ++ bytes_for q block) ≡ head_bytes x p + choose (eqb q p) x.sizes.b 0
    more p = count_refilled q p x.head block ∙ ap (λ (n : ℕ). head_bytes x p + choose (eqb q p) n 0) (whole q refl)

-- What follows. 8 never comes: an order at place 0 would need b ≤ p, and p ≤ b - 1.
pub oldest_covered : (p : ℕ) (x : State) → p < x.sizes.b → Invariant p p p x
    → leaves_uncovered (oldest_cell x.cells) x ≡ false
oldest_covered p x l v = go x.cells v.orders_late
  where
    go : (cells : List Cell) → Walk x.sizes.b p (head_bytes x) cells → leaves_uncovered (oldest_cell cells) x ≡ false
    go [] w = refl
    go (empty ∷ cells) w = refl
    go (held q v ∷ cells) w = refl
    go (owed q ∷ cells) (at_covered u w) = ne_eqb (head_bytes x q) 0 (λ e. omega arith)
    go (owed q ∷ cells) (at_order z m w) = absurd (omega arith)

-- The head holds at most the Owed cells and b - 1 for each queue.
pub head_bounded : (n i j k : ℕ) (x : State) → Rules n x → Invariant i j k x → length x.head ≤ n + span x.sizes
head_bounded n i j k x r v =
    omega (
      arith,
      sum-counts x.sizes.Q x.head r.head_below,
      sum_owed x.sizes.Q x.cells r.cells_below,
      all_owed_length x.cells,
      r.cells_long,
      sum-le_add x.sizes.Q (x.sizes.b - 1) (head_bytes x) (owed_cells x) (λ q l. v.covered q),
    )
