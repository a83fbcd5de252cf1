-- The empty cells that lead end at the first number that is 65,536 or more.
use mathlib.Core.Path.{◌≡◌, refl, sym}
use mathlib.Core.List.{List, [], ◌∷◌, map}
use mathlib.Core.Bool.{cond}
use Prim.Native.Nat.{ℕ, zero, suc, ◌/◌, ◌%◌, ◌≤◌}
use native.Mathlib.Omega.{arith}
use lib.Dec.{leb, ltb}
use lib.ListN.{length, take}
use lib.Seq.{length-take-le}
use borrow.Author.Tests.{leb-true, leb-false, ltb-false}
use Rattle.std.specs.List.{position_or_len}
use Rattle.std.specs.Option.{unwrap_or}
use Rattle.std.proofs.Common.{Some, None}
use Rattle.model.specs.State.{Cell}
use Rattle.model.specs.Idle.{leading_empties}
use Rattle.model.proofs.basics.Tests.{by_test}
use Rattle.model.proofs.idle.QuietCount.{leading_within}
use Rattle.layout.specs.Entries.{cell_for, cell_of, cells_in}
use Rattle.layout.proofs.Cells.{cell_empty, cells_length}

kind_ends : (k q v : ℕ) (cells : List Cell) → 1 ≤ k → leading_empties (cell_for k q v ∷ cells) ≡ 0
unfolding cell_for
kind_ends zero q v cells h = absurd (omega arith)
kind_ends (suc zero) q v cells h = refl
kind_ends (suc (suc k)) q v cells h = refl

cell_ends : (c : ℕ) (cells : List Cell) → 65536 ≤ c → leading_empties (cell_of c ∷ cells) ≡ 0
unfolding cell_of
cell_ends c cells h = kind_ends (c / 65536) (c / 256 % 256) (c % 256) cells (omega arith)

pub leading_fits : (l : ℕ) (xs : List ℕ) → l ≤ length xs → leading_empties (cells_in l xs) ≤ l
leading_fits l xs fits = omega (arith, leading_within (cells_in l xs), cells_length l xs fits)

-- The first number that is 65,536 or more is at the place that the count gives.
pub leading_is : (xs : List ℕ) → position_or_len (λ x. leb 65536 x) xs ≡ leading_empties (map cell_of xs)
leading_is [] = refl
leading_is (x ∷ xs) =
    by_test (leb 65536 x)
    (λ t. rw t (sym (cell_ends x (map cell_of xs) (leb-true 65536 x t))))
    (λ t. rw (t, cell_empty x (leb-false 65536 x t)) (omega (arith, leading_is xs)))

-- The place that a search finds among the first l, or l.
pub leading_found : (l : ℕ) (xs : List ℕ) → l ≤ length xs
    → unwrap_or
    (cond (ltb (position_or_len (λ x. leb 65536 x) (take l xs)) (length (take l xs)))
    (Some (position_or_len (λ x. leb 65536 x) (take l xs)))
    None)
    l
    ≡ leading_empties (cells_in l xs)
unfolding cells_in
leading_found l xs fits =
    let place = position_or_len (λ x. leb 65536 x) (take l xs) in
    by_test (ltb place (length (take l xs)))
    (λ t. rw t (leading_is (take l xs)))
    (λ t. rw t (omega (
      arith,
      ltb-false place (length (take l xs)) t,
      length-take-le l xs fits,
      leading_is (take l xs),
      leading_fits l xs fits,
    )))
