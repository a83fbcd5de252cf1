-- A slot with an Owed request leaves one more Owed cell among the youngest: where all cells but the r oldest are Owed,
-- all are after r such slots.
use mathlib.Core.Path.{◌≡◌}
use mathlib.Core.Bool.{true, false}
use mathlib.Core.List.{List, [], ◌∷◌, ◌++◌}
use Prim.Native.Nat.{ℕ, zero, suc, ◌≤◌}
use native.Mathlib.Omega.{arith}
use lib.ListN.{length, drop, length-append, length-drop}
use lib.Seq.{drop-nil}
use Rattle.model.specs.State.{Cell, owed, State}
use Rattle.model.specs.Slot.{oldest_cell, is_owed, asked, leaves_uncovered}
use Rattle.model.specs.Calls.{request}
use Rattle.model.proofs.basics.Cells.{all_owed, all_owed_append, all_owed_length}
use Rattle.model_least.proofs.Figures.{owed_delivered}

-- All cells but the r oldest are Owed.
abbrev pub OwedPast : ℕ → List Cell → Type 0
OwedPast r cells = all_owed (drop r cells) ≡ length (drop r cells)

past_nothing : (r : ℕ) → OwedPast r []
past_nothing r = rw (drop-nil {A = Cell} r)

pub past_all : (r : ℕ) (cells : List Cell) → length cells ≤ r → OwedPast r cells
past_all r cells l =
    omega (arith, l, all_owed_length (drop r cells), length-drop r cells)

past_appended : (r : ℕ) (cells : List Cell) (q : ℕ) → OwedPast r cells → OwedPast r (cells ++ owed q ∷ [])
past_appended zero cells q e = omega (arith, e, all_owed_append cells (owed q ∷ []), length-append cells (owed q ∷ []))
past_appended (suc r) [] q e = past_nothing r
past_appended (suc r) (c ∷ cells) q e = past_appended r cells q e

past_left : (r : ℕ) (cells : List Cell) → OwedPast (suc r) cells → OwedPast r (drop 1 cells)
past_left r [] e = past_nothing r
past_left r (c ∷ cells) e = e

-- The cells after the slot's step 3, and so as it ends.
pub past_asked : (x : State) (q r : ℕ) → leaves_uncovered (oldest_cell x.cells) x ≡ false → is_owed x q ≡ true
    → OwedPast (suc r) x.cells → OwedPast r (asked x (request q)).cells
past_asked x q r covered o e =
    rw (owed_delivered x covered q o) (past_appended r (drop 1 x.cells) q (past_left r x.cells e))
