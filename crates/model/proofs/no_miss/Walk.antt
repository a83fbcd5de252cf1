-- The scan as a walk that does not stop. Each queue has its head bytes as credits, and an Owed cell uses one. An Owed
-- cell that finds none is an order for a block: it leaves its queue b - 1 credits, and the walk goes on. Every order
-- comes late enough: with p slots since the last move, the jth order at place c has j × b ≤ c + p. `Walk` says
-- this, and a law for each step that it stays so.
use mathlib.Core.Path.{◌≡◌, ap, sym, ◌∙◌, fun_ext, subst}
use mathlib.Core.Bool.{false}
use mathlib.Core.List.{List, [], ◌∷◌, ◌++◌}
use mathlib.Core.Option.{some, none}
use Prim.Native.Nat.{ℕ, zero, suc, ◌+◌, ◌-◌, ◌*◌, ◌<◌, ◌≤◌}
use native.Mathlib.Omega.{arith}
use lib.Dec.{eqb}
use lib.ListN.{length, drop, replicate}
use borrow.Author.Tests.{eqb-true}
use Rattle.model.specs.Basics.{choose, update}
use Rattle.model.specs.State.{Byte, Cell, empty, held, owed, owed_of, count_of}
use Rattle.model.specs.Slot.{refill_queue, oldest_cell, head_without, without}
use Rattle.model.proofs.basics.Tests.{by_test, by_zero, update_same, update_other, none_not_some, some_inj}
use Rattle.model.proofs.basics.Sums.{sum, sum-shift, sum-bound_zero}
use Rattle.model.proofs.basics.Bytes.{count_without}
use Rattle.model.proofs.basics.Cells.{CellsBelow, all_owed, is_owing, owed_here}
use Rattle.model.proofs.meaning.Scan.{scan_stops, scan_goes_on}

-- `slack` is the cell's place and the slots since the last move, less b for each order before it: an order needs b of
-- it.
pub data Walk (b : ℕ) : ℕ → (ℕ → ℕ) → List Cell → Type 0 where
  at_end : {slack : ℕ} {credits : ℕ → ℕ} → Walk b slack credits []
  at_empty : {slack : ℕ} {credits : ℕ → ℕ} {cells : List Cell}
      → Walk b (suc slack) credits cells → Walk b slack credits (empty ∷ cells)
  at_held : {slack : ℕ} {credits : ℕ → ℕ} {cells : List Cell} {q v : ℕ}
      → Walk b (suc slack) credits cells → Walk b slack credits (held q v ∷ cells)
  at_covered : {slack : ℕ} {credits : ℕ → ℕ} {cells : List Cell} {q : ℕ}
      → 1 ≤ credits q
      → Walk b (suc slack) (update credits q (credits q - 1)) cells
      → Walk b slack credits (owed q ∷ cells)
  at_order : {slack : ℕ} {credits : ℕ → ℕ} {cells : List Cell} {q : ℕ}
      → credits q ≡ 0
      → b ≤ slack
      → Walk b (suc slack - b) (update credits q (b - 1)) cells
      → Walk b slack credits (owed q ∷ cells)

-- A fresh lookahead has no order.
pub walk_fresh : (b slack n : ℕ) (c : ℕ → ℕ) → Walk b slack c (replicate n empty)
walk_fresh b slack zero c = at_end
walk_fresh b slack (suc n) c = at_empty (walk_fresh b (suc slack) n c)

-- The oldest cell leaves. With less than b of slack it is no order, so it leaves covered.
head_delivered : (q : ℕ) (head : List Byte)
    → update (λ p. count_of p head) q (count_of q head - 1) ≡ (λ p. count_of p (without 1 q head))
head_delivered q head = fun_ext (λ p.
    by_test (eqb q p)
    (λ t. rw t (ap (λ (i : ℕ). count_of i head - 1) (eqb-true q p t) ∙ sym (rw t at (count_without 1 q p head))))
    (λ t. rw t (omega (arith, rw t at (count_without 1 q p head)))))

pub walk_delivered : (b p : ℕ) (head : List Byte) (cells : List Cell) → p < b
    → Walk b p (λ q. count_of q head) cells
    → Walk b (suc p) (λ q. count_of q (head_without (oldest_cell cells) head)) (drop 1 cells)
walk_delivered b p head [] l w = at_end
walk_delivered b p head (empty ∷ cells) l (at_empty w) = w
walk_delivered b p head (held q v ∷ cells) l (at_held w) = w
walk_delivered b p head (owed q ∷ cells) l (at_covered u w) =
    subst (λ (f : ℕ → ℕ). Walk b (suc p) f cells) (head_delivered q head) w
walk_delivered b p head (owed q ∷ cells) l (at_order z m w) = absurd (omega arith)

-- A new youngest cell that is not Owed.
pub walk_youngest_idle : {b slack : ℕ} {c : ℕ → ℕ} {cells : List Cell} (cell : Cell) → is_owing cell ≡ 0
    → Walk b slack c cells → Walk b slack c (cells ++ cell ∷ [])
walk_youngest_idle empty z at_end = at_empty at_end
walk_youngest_idle (held q v) z at_end = at_held at_end
walk_youngest_idle (owed q) z at_end = absurd (omega arith)
walk_youngest_idle cell z (at_empty w) = at_empty (walk_youngest_idle cell z w)
walk_youngest_idle cell z (at_held w) = at_held (walk_youngest_idle cell z w)
walk_youngest_idle cell z (at_covered u w) = at_covered u (walk_youngest_idle cell z w)
walk_youngest_idle cell z (at_order e l w) = at_order e l (walk_youngest_idle cell z w)

-- A bound on the credits goes along the walk.
credits_bounded : (d : ℕ) (c : ℕ → ℕ) (q v : ℕ) (cells : List Cell) → v ≤ owed_of q cells + d
    → ((p : ℕ) → c p ≤ owed_of p (owed q ∷ cells) + d)
    → (p : ℕ) → update c q v p ≤ owed_of p cells + d
credits_bounded d c q v cells here h p =
    by_test (eqb q p)
    (λ t. rw t (subst (λ (i : ℕ). v ≤ owed_of i cells + d) (eqb-true q p t) here))
    (λ t. rw t (omega (arith, rw t at (h p))))

-- A new youngest cell that is Owed. If it is an order, all credits together are at most (Q - 1)(b - 1), so few enough
-- orders stand before it. `account` is conservation: b × orders + head bytes = Owed cells + credits left.
module _ (Q b d : ℕ) (bd : b ≡ suc d) where
  pub walk_youngest_owed : {slack : ℕ} {c : ℕ → ℕ} {cells : List Cell} (q : ℕ) → q < Q → CellsBelow Q cells
      → ((p : ℕ) → c p ≤ owed_of p cells + d)
      → all_owed cells + Q * d + 1 ≤ slack + length cells + sum Q c
      → Walk b slack c cells → Walk b slack c (cells ++ owed q ∷ [])
  walk_youngest_owed {slack} {c} q l below bound account at_end =
      by_zero (c q)
      (λ z. at_order {slack = slack} z
      (omega (arith, bd, account, sum-bound_zero Q d c q l z (λ p k. omega (arith, bound p)))) at_end)
      (λ u. at_covered {credits = c} {q = q} u at_end)
  walk_youngest_owed q l below bound account (at_empty w) =
      at_empty (walk_youngest_owed q l below.1 (λ p. omega (arith, bound p)) (omega (arith, account)) w)
  walk_youngest_owed q l below bound account (at_held w) =
      at_held (walk_youngest_owed q l below.1 (λ p. omega (arith, bound p)) (omega (arith, account)) w)
  walk_youngest_owed {slack} {c} q l below bound account (at_covered {cells = cells} {q = p} u w) =
      at_covered u (walk_youngest_owed q l below.1
      (credits_bounded d c p (c p - 1) cells (omega (arith, bound p, owed_here p cells)) bound)
      (omega (
        arith,
        account,
        sum-shift Q c (update c p (c p - 1)) p 1 0 below.0
            (omega (arith, update_same c p (c p - 1))) (update_other c p (c p - 1)),
      ))
      w)
  walk_youngest_owed {slack} {c} q l below bound account (at_order {cells = cells} {q = p} z m w) =
      at_order z m (walk_youngest_owed q l below.1
      (credits_bounded d c p (b - 1) cells (omega (arith, bd)) bound)
      (omega (
        arith,
        account,
        bd,
        sum-shift Q c (update c p (b - 1)) p 0 d below.0
            (omega (arith, bd, z, update_same c p (b - 1))) (update_other c p (b - 1)),
      ))
      w)

-- Where the scan finds nothing there is no order, and the slack does not matter.
pub walk_no_order : {b slack : ℕ} {c : ℕ → ℕ} {cells : List Cell} (other : ℕ) → refill_queue c cells ≡ none
    → Walk b slack c cells → Walk b other c cells
walk_no_order other e at_end = at_end
walk_no_order other e (at_empty w) = at_empty (walk_no_order (suc other) e w)
walk_no_order other e (at_held w) = at_held (walk_no_order (suc other) e w)
walk_no_order other e (at_covered {credits = c} {cells = cells} {q = q} u w) =
    at_covered u (walk_no_order (suc other) (sym (scan_goes_on c q cells u) ∙ e) w)
walk_no_order other e (at_order {credits = c} {cells = cells} {q = q} z l w) =
    absurd (none_not_some q (sym e ∙ scan_stops c q cells z))

-- A read of the first order's queue takes that order off and leaves the others: at its place the walk had no credit
-- and went on with b - 1; now it has b there and goes on with b - 1.
module _ (b : ℕ) (pos : 1 ≤ b) (q : ℕ) where
  abbrev Refilled : (ℕ → ℕ) → (ℕ → ℕ) → Type 0
  Refilled before after = (p : ℕ) → after p ≡ before p + choose (eqb q p) b 0

  pub walk_refilled : {slack : ℕ} {c : ℕ → ℕ} {cells : List Cell} (less : ℕ) (c' : ℕ → ℕ) → slack ≡ less + b
      → Refilled c c' → refill_queue c cells ≡ some q → Walk b slack c cells → Walk b less c' cells
  walk_refilled less c' g k e at_end = at_end
  walk_refilled less c' g k e (at_empty w) = at_empty (walk_refilled (suc less) c' (omega arith) k e w)
  walk_refilled less c' g k e (at_held w) = at_held (walk_refilled (suc less) c' (omega arith) k e w)
  walk_refilled less c' g k e (at_covered {credits = c} {cells = cells} {q = p} u w) =
      at_covered {credits = c'} {q = p} (omega (arith, k p))
      (walk_refilled (suc less) (update c' p (c' p - 1)) (omega arith) still (sym (scan_goes_on c p cells u) ∙ e) w)
    where
      still : Refilled (update c p (c p - 1)) (update c' p (c' p - 1))
      still i =
          by_test (eqb p i)
          (λ t. rw t (omega (arith, k p, u, ap (λ (n : ℕ). choose (eqb q n) b 0) (eqb-true p i t))))
          (λ t. rw t (k i))
  walk_refilled less c' g k e (at_order {slack = slack} {credits = c} {cells = cells} {q = p} z l w) =
      at_covered {credits = c'} {q = p} (omega (arith, here))
      (subst (λ (f : ℕ → ℕ). Walk b (suc less) f cells) (fun_ext same-credits)
      (subst (λ (n : ℕ). Walk b n (update c p (b - 1)) cells) (omega arith) w))
    where
      same : p ≡ q
      same = some_inj p q (sym (scan_stops c p cells z) ∙ e)

      here : c' p ≡ b
      here = omega (arith, z, k p, ap (λ (i : ℕ). choose (eqb q i) b 0) same, update_same (λ i. 0) q b)

      same-credits : (i : ℕ) → update c p (b - 1) i ≡ update c' p (c' p - 1) i
      same-credits i =
          by_test (eqb p i)
          (λ t. rw t (omega (arith, here)))
          (λ t. rw t (omega (arith, rw (subst (λ (n : ℕ). eqb n i ≡ false) same t) at (k i))))
