-- The walk with credits is the paper's scan: it stops at the first Owed cell that its queue's head bytes do not
-- cover, the Owed cells of the queue before it counted. It stops at a queue exactly where some queue is critical.
-- `scan_from_oldest`, `scan_some` and `scan_none` say it.
use mathlib.Core.Path.{◌≡◌, refl, ap, sym, ◌∙◌, fun_ext}
use mathlib.Core.List.{List, [], ◌∷◌, ◌++◌}
use mathlib.Core.Option.{Option, some, none}
use Prim.Native.Nat.{ℕ, ◌+◌, ◌-◌, ◌<◌, ◌≤◌}
use native.Mathlib.Omega.{arith}
use lib.Dec.{eqb, leb}
use borrow.Author.Tests.{eqb-true, eq-eqb, ne_eqb, leb-true, leb-false}
use Rattle.model.specs.Basics.{choose, update}
use Rattle.model.specs.State.{Cell, empty, held, owed, owes, owed_of}
use Rattle.model.specs.Slot.{refill_queue}
use Rattle.model.proofs.basics.Tests.{by_test, by_zero, none_not_some, some_inj}
use Rattle.model.proofs.basics.Cells.{owed_append, owed_here}

-- One Owed cell of the walk: it stops there, or uses one credit and goes on.
pub scan_stops : (c : ℕ → ℕ) (q : ℕ) (cells : List Cell) → c q ≡ 0 → refill_queue c (owed q ∷ cells) ≡ some q
scan_stops c q cells z = rw (eq-eqb (c q) 0 z)

pub scan_goes_on : (c : ℕ → ℕ) (q : ℕ) (cells : List Cell) → 1 ≤ c q
    → refill_queue c (owed q ∷ cells) ≡ refill_queue (update c q (c q - 1)) cells
scan_goes_on c q cells u = rw (ne_eqb (c q) 0 (λ e. omega arith))

-- A covered cell lowers its queue's Owed cells and its credits together.
pub credit_used : (c : ℕ → ℕ) (q p : ℕ) (cells : List Cell) → 1 ≤ c q
    → owed_of p (owed q ∷ cells) + update c q (c q - 1) p ≡ owed_of p cells + c p
credit_used c q p cells u =
    by_test (eqb q p)
    (λ t. rw t (omega (arith, ap c (eqb-true q p t))))
    (λ t. rw t (omega arith))

-- The queue at which the scan stops has more Owed cells than credits; where it does not stop, every Owed cell is
-- covered.
pub scan_some : (c : ℕ → ℕ) (cells : List Cell) (q : ℕ) → refill_queue c cells ≡ some q → c q < owed_of q cells
scan_some c [] q e = absurd (none_not_some q e)
scan_some c (empty ∷ cells) q e = omega (arith, scan_some c cells q e)
scan_some c (held p v ∷ cells) q e = omega (arith, scan_some c cells q e)
scan_some c (owed p ∷ cells) q e =
    by_zero (c p)
    (λ z. let s : p ≡ q = some_inj p q (sym (scan_stops c p cells z) ∙ e) in
    omega (arith, ap c s, owed_here q cells, ap (λ (i : ℕ). owed_of q (owed i ∷ cells)) s))
    (λ u. omega (
      arith,
      credit_used c p q cells u,
      scan_some (update c p (c p - 1)) cells q (sym (scan_goes_on c p cells u) ∙ e),
    ))

pub scan_none : (c : ℕ → ℕ) (cells : List Cell) → refill_queue c cells ≡ none → (p : ℕ) → owed_of p cells ≤ c p
scan_none c [] e p = omega arith
scan_none c (empty ∷ cells) e p = omega (arith, scan_none c cells e p)
scan_none c (held q v ∷ cells) e p = omega (arith, scan_none c cells e p)
scan_none c (owed q ∷ cells) e p =
    by_zero (c q)
    (λ z. absurd (none_not_some q (sym e ∙ scan_stops c q cells z)))
    (λ u. omega (
      arith,
      credit_used c q p cells u,
      scan_none (update c q (c q - 1)) cells (sym (scan_goes_on c q cells u) ∙ e) p,
    ))

-- The paper's scan, word for word: `before` are the cells already passed.
abbrev pub scan : (ℕ → ℕ) → List Cell → List Cell → Option ℕ
scan head before [] = none
scan head before (empty ∷ cells) = scan head (before ++ (empty ∷ [])) cells
scan head before (held q v ∷ cells) = scan head (before ++ (held q v ∷ [])) cells
scan head before (owed q ∷ cells) =
    choose (leb (head q) (owed_of q before)) (some q) (scan head (before ++ (owed q ∷ [])) cells)

abbrev credits_left : (ℕ → ℕ) → List Cell → ℕ → ℕ
credits_left head before q = head q - owed_of q before

nothing-owed : (head : ℕ → ℕ) (before : List Cell) (cell : Cell) → ((q : ℕ) → owes q cell ≡ 0)
    → credits_left head before ≡ credits_left head (before ++ (cell ∷ []))
nothing-owed head before cell z = fun_ext (λ q. omega (arith, z q, owed_append q before (cell ∷ [])))

one_owed : (head : ℕ → ℕ) (before : List Cell) (q : ℕ)
    → update (credits_left head before) q (credits_left head before q - 1) ≡ credits_left head (before ++ (owed q ∷ []))
one_owed head before q = fun_ext (λ p.
    by_test (eqb q p)
    (λ t. rw (owed_append p before (owed q ∷ []), t) (omega (arith, ap (credits_left head before) (eqb-true q p t))))
    (λ t. rw (owed_append p before (owed q ∷ []), t) (omega arith)))

pub scan_is : (head : ℕ → ℕ) (before cells : List Cell)
    → refill_queue (credits_left head before) cells ≡ scan head before cells
scan_is head before [] = refl
scan_is head before (empty ∷ cells) =
    ap (λ (c : ℕ → ℕ). refill_queue c cells) (nothing-owed head before empty (λ q. refl))
    ∙ scan_is head (before ++ (empty ∷ [])) cells
scan_is head before (held q v ∷ cells) =
    ap (λ (c : ℕ → ℕ). refill_queue c cells) (nothing-owed head before (held q v) (λ q. refl))
    ∙ scan_is head (before ++ (held q v ∷ [])) cells
scan_is head before (owed q ∷ cells) =
    by_test (leb (head q) (owed_of q before))
    (λ t. rw t (scan_stops (credits_left head before) q cells (omega (arith, leb-true (head q) (owed_of q before) t))))
    (λ t. rw t (scan_goes_on (credits_left head before) q cells (omega (arith, leb-false (head q) (owed_of q before) t))
    ∙ ap (λ (c : ℕ → ℕ). refill_queue c cells) (one_owed head before q)
    ∙ scan_is head (before ++ (owed q ∷ [])) cells))

pub scan_from_oldest : (head : ℕ → ℕ) (cells : List Cell) → refill_queue head cells ≡ scan head [] cells
scan_from_oldest head cells =
    ap (λ (c : ℕ → ℕ). refill_queue c cells) (fun_ext (λ q. omega arith)) ∙ scan_is head [] cells
