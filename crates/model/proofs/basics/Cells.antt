-- The lookahead as its queues see it: Owed cells of each queue and of all queues.
use mathlib.Core.Path.{◌≡◌, refl, ap, fun_ext}
use mathlib.Core.Bool.{true}
use mathlib.Core.List.{List, [], ◌∷◌, ◌++◌}
use Prim.Native.Nat.{ℕ, zero, suc, ◌+◌, ◌<◌, ◌≤◌}
use native.Mathlib.Omega.{arith}
use lib.Dec.{eqb}
use lib.ListN.{length, replicate, drop}
use borrow.Author.Tests.{eqb-true, ltb-true, lt-ltb}
use Rattle.model.specs.Basics.{all_of, All}
use Rattle.model.specs.State.{Cell, empty, held, owed, owes, owed_of, cell_below}
use Rattle.model.proofs.basics.Tests.{by_test, eqb_same}
use Rattle.model.proofs.basics.AllOf.{all_of_facts, all_of_holds}
use Rattle.model.proofs.basics.Sums.{sum, sum-zero, sum-shift}

pub owed_append : (q : ℕ) (xs ys : List Cell) → owed_of q (xs ++ ys) ≡ owed_of q xs + owed_of q ys
owed_append q [] ys = omega arith
owed_append q (x ∷ xs) ys = omega (arith, owed_append q xs ys)

pub owed_here : (q : ℕ) (cells : List Cell) → owed_of q (owed q ∷ cells) ≡ suc (owed_of q cells)
owed_here q cells = rw (eqb_same q) (omega arith)

-- All cells are of queues below n; as a test, of n or of any greater number.
abbrev pub CellBelow : ℕ → Cell → Type 0
CellBelow n empty = Unit {0}
CellBelow n (held q v) = q < n
CellBelow n (owed q) = q < n

abbrev pub CellsBelow : ℕ → List Cell → Type 0
CellsBelow n cells = All (CellBelow n) cells

pub cells_below_facts : (n : ℕ) (cells : List Cell) → all_of (cell_below n) cells ≡ true → CellsBelow n cells
cells_below_facts n cells e = all_of_facts (cell_below n) (CellBelow n) one cells e
  where
    one : (c : Cell) → cell_below n c ≡ true → CellBelow n c
    one empty t = tt
    one (held q v) t = ltb-true q n t
    one (owed q) t = ltb-true q n t

pub cells_below_holds : (n m : ℕ) → n ≤ m → (cells : List Cell) → CellsBelow n cells → all_of (cell_below m) cells ≡ true
cells_below_holds n m h cells w = all_of_holds (cell_below m) (CellBelow n) one cells w
  where
    one : (c : Cell) → CellBelow n c → cell_below m c ≡ true
    one empty l = refl
    one (held q v) l = lt-ltb q m (omega (arith, h, l))
    one (owed q) l = lt-ltb q m (omega (arith, h, l))

pub cells_below_drop : (n : ℕ) (cells : List Cell) → CellsBelow n cells → CellsBelow n (drop 1 cells)
cells_below_drop n [] h = h
cells_below_drop n (c ∷ cells) h = h.1

-- A queue with an Owed cell is below n.
pub owed_below : (n : ℕ) (cells : List Cell) (q : ℕ) → CellsBelow n cells → 1 ≤ owed_of q cells → q < n
owed_below n [] q w h = absurd (omega arith)
owed_below n (empty ∷ cells) q w h = owed_below n cells q w.1 (omega arith)
owed_below n (held p v ∷ cells) q w h = owed_below n cells q w.1 (omega arith)
owed_below n (owed p ∷ cells) q w h =
    by_test (eqb p q)
    (λ t. omega (arith, eqb-true p q t, w.0))
    (λ t. owed_below n cells q w.1 (omega (arith, rw t at h)))

pub owed_above : (n : ℕ) (cells : List Cell) (q : ℕ) → CellsBelow n cells → n ≤ q → owed_of q cells ≡ 0
owed_above n cells q w l = go (owed_of q cells) refl
  where
    go : (k : ℕ) → owed_of q cells ≡ k → k ≡ 0
    go zero e = refl
    go (suc k) e = absurd (omega (arith, owed_below n cells q w (omega (arith, e))))

-- The Owed cells of all queues.
abbrev pub is_owing : Cell → ℕ
is_owing empty = 0
is_owing (held q v) = 0
is_owing (owed q) = 1

abbrev pub all_owed : List Cell → ℕ
all_owed [] = 0
all_owed (c ∷ cells) = is_owing c + all_owed cells

pub all_owed_append : (xs ys : List Cell) → all_owed (xs ++ ys) ≡ all_owed xs + all_owed ys
all_owed_append [] ys = omega arith
all_owed_append (x ∷ xs) ys = omega (arith, all_owed_append xs ys)

pub all_owed_length : (cells : List Cell) → all_owed cells ≤ length cells
all_owed_length [] = omega arith
all_owed_length (empty ∷ cells) = omega (arith, all_owed_length cells)
all_owed_length (held q v ∷ cells) = omega (arith, all_owed_length cells)
all_owed_length (owed q ∷ cells) = omega (arith, all_owed_length cells)

pub sum_owed : (n : ℕ) (cells : List Cell) → CellsBelow n cells → sum n (λ q. owed_of q cells) ≡ all_owed cells
sum_owed n [] h = sum-zero n (λ q. 0) (λ q. refl)
sum_owed n (empty ∷ cells) h = omega (arith, sum_owed n cells h.1, same_sum n empty cells (λ q. refl))
  where
    same_sum : (n : ℕ) (c : Cell) (cells : List Cell) → ((q : ℕ) → owes q c ≡ 0)
        → sum n (λ q. owed_of q (c ∷ cells)) ≡ sum n (λ q. owed_of q cells)
    same_sum n c cells z =
        ap (sum n) (fun_ext {f = λ (q : ℕ). owed_of q (c ∷ cells)} {g = λ (q : ℕ). owed_of q cells}
        (λ q. omega (arith, z q)))
sum_owed n (held p v ∷ cells) h =
    omega (
      arith,
      sum_owed n cells h.1,
      ap (sum n) (fun_ext {f = λ (q : ℕ). owed_of q (held p v ∷ cells)} {g = λ (q : ℕ). owed_of q cells}
          (λ q. omega arith)),
    )
sum_owed n (owed p ∷ cells) h =
    omega (
      arith,
      sum_owed n cells h.1,
      sum-shift n (λ q. owed_of q cells) (λ q. owed_of q (owed p ∷ cells)) p 0 1 h.0
          (rw (eqb_same p) (omega arith))
          (λ q t. rw t (omega arith)),
    )

-- A fresh lookahead owes nothing.
pub owed_empties : (n q : ℕ) → owed_of q (replicate n empty) ≡ 0
owed_empties zero q = refl
owed_empties (suc n) q = omega (arith, owed_empties n q)

pub all_owed_empties : (n : ℕ) → all_owed (replicate n empty) ≡ 0
all_owed_empties zero = refl
all_owed_empties (suc n) = omega (arith, all_owed_empties n)

pub cells_below_empties : (b n : ℕ) → CellsBelow b (replicate n empty)
cells_below_empties b zero = tt
cells_below_empties b (suc n) = (tt, cells_below_empties b n)
