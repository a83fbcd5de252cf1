-- What a number is as a cell goes by its size alone: empty below 65,536, Held below 131,072, else Owed. The cells of
-- an array are got by adding one at the end, or by looking at one place.
use mathlib.Core.Path.{◌≡◌, refl, ap, sym, ◌∙◌}
use mathlib.Core.Bool.{Bool, true, false}
use mathlib.Core.List.{List, [], ◌∷◌, ◌++◌, map-append}
use Prim.Native.Nat.{ℕ, zero, suc, ◌+◌, ◌/◌, ◌%◌, ◌≤◌, ◌<◌}
use native.Mathlib.Omega.{arith}
use native.Mathlib.Numerals.{add-one}
use lib.Dec.{ltb}
use lib.ListN.{length, take, drop, set, get_or, length-map, get_or-map}
use lib.Seq.{take-suc, take-suc-set, length-take-le, drop-cons, get_or-take}
use borrow.Author.Tests.{ltb-true}
use Rattle.model.specs.Basics.{all_of}
use Rattle.model.specs.State.{Cell, empty, held, owed, owes, owed_of, cell_below}
use Rattle.model.specs.Slot.{refill_by, onward}
use Rattle.model.proofs.basics.Tests.{by_test, true_not_false}
use Rattle.model.proofs.basics.AllOf.{all_of_at, all_of_more}
use Rattle.model.proofs.basics.Cells.{owed_append}
use Rattle.layout.specs.Entries.{cell_for, cell_of, cells_in}

-- The queue of the cell at a place of an array.
abbrev pub queue_at : List ℕ → ℕ → ℕ
queue_at xs i = get_or xs i 0 / 256 % 256

-- A cell by its kind.
kind_empty : (k q v : ℕ) → k < 1 → cell_for k q v ≡ empty
unfolding cell_for
kind_empty zero q v h = refl
kind_empty (suc k) q v h = absurd (omega arith)

kind_held : (k q v : ℕ) → k ≡ 1 → cell_for k q v ≡ held q v
unfolding cell_for
kind_held k q v e = rw e

kind_owed : (k q v : ℕ) → 2 ≤ k → cell_for k q v ≡ owed q
unfolding cell_for
kind_owed zero q v h = absurd (omega arith)
kind_owed (suc zero) q v h = absurd (omega arith)
kind_owed (suc (suc k)) q v h = refl

kind_below : (k q v n : ℕ) → 1 ≤ k → cell_below n (cell_for k q v) ≡ ltb q n
unfolding cell_for
kind_below zero q v n h = absurd (omega arith)
kind_below (suc zero) q v n h = refl
kind_below (suc (suc k)) q v n h = refl

kind_owes_nothing : (k q v p : ℕ) → k < 2 → owes p (cell_for k q v) ≡ 0
unfolding cell_for
kind_owes_nothing zero q v p h = refl
kind_owes_nothing (suc zero) q v p h = refl
kind_owes_nothing (suc (suc k)) q v p h = absurd (omega arith)

kind_skipped : (credits : ℕ → ℕ) (k q v : ℕ) (cells : List Cell) → k < 2
    → refill_by credits (cell_for k q v ∷ cells) ≡ onward 1 (refill_by credits cells)
unfolding cell_for
kind_skipped credits zero q v cells h = refl
kind_skipped credits (suc zero) q v cells h = refl
kind_skipped credits (suc (suc k)) q v cells h = absurd (omega arith)

-- A cell by its number.
pub cell_empty : (c : ℕ) → c < 65536 → cell_of c ≡ empty
unfolding cell_of
cell_empty c h = kind_empty (c / 65536) (c / 256 % 256) (c % 256) (omega arith)

pub cell_held : (c : ℕ) → 65536 ≤ c → c < 131072 → cell_of c ≡ held (c / 256 % 256) (c % 256)
unfolding cell_of
cell_held c h l = kind_held (c / 65536) (c / 256 % 256) (c % 256) (omega arith)

pub cell_owed : (c : ℕ) → 131072 ≤ c → cell_of c ≡ owed (c / 256 % 256)
unfolding cell_of
cell_owed c h = kind_owed (c / 65536) (c / 256 % 256) (c % 256) (omega arith)

pub cell_owes_nothing : (c p : ℕ) → c < 131072 → owes p (cell_of c) ≡ 0
unfolding cell_of
cell_owes_nothing c p h = kind_owes_nothing (c / 65536) (c / 256 % 256) (c % 256) p (omega arith)

pub cell_skipped : (credits : ℕ → ℕ) (c : ℕ) (cells : List Cell) → c < 131072
    → refill_by credits (cell_of c ∷ cells) ≡ onward 1 (refill_by credits cells)
unfolding cell_of
cell_skipped credits c cells h = kind_skipped credits (c / 65536) (c / 256 % 256) (c % 256) cells (omega arith)

pub empty_below : (c n : ℕ) → c < 65536 → cell_below n (cell_of c) ≡ true
empty_below c n h = rw (cell_empty c h)

pub cell_below_lem : (c n : ℕ) → 65536 ≤ c → cell_below n (cell_of c) ≡ ltb (c / 256 % 256) n
unfolding cell_of
cell_below_lem c n h = kind_below (c / 65536) (c / 256 % 256) (c % 256) n (omega arith)

-- The cells of an array.
pub no_cells : (xs : List ℕ) → cells_in 0 xs ≡ []
unfolding cells_in
no_cells xs = refl

pub cells_length : (n : ℕ) (xs : List ℕ) → n ≤ length xs → length (cells_in n xs) ≡ n
unfolding cells_in
cells_length n xs h = length-map (take n xs) cell_of ∙ length-take-le n xs h

-- One cell more, as the array has it or as it is stored there.
pub cells_more : (n : ℕ) (xs : List ℕ) → n < length xs
    → cells_in (n + 1) xs ≡ cells_in n xs ++ cell_of (get_or xs n 0) ∷ []
unfolding cells_in
cells_more n xs h = rw (add-one, take-suc xs n 0) (map-append cell_of (take n xs) (get_or xs n 0 ∷ []))

pub cells_stored : (n : ℕ) (xs : List ℕ) (c : ℕ) → n < length xs
    → cells_in (n + 1) (set xs n c) ≡ cells_in n xs ++ cell_of c ∷ []
unfolding cells_in
cells_stored n xs c h = rw (add-one, take-suc-set xs n c) (map-append cell_of (take n xs) (c ∷ []))

pub owed_more : (q n : ℕ) (xs : List ℕ) → n < length xs
    → owed_of q (cells_in (n + 1) xs) ≡ owed_of q (cells_in n xs) + owes q (cell_of (get_or xs n 0))
owed_more q n xs h =
    rw (cells_more n xs h) (omega (arith, owed_append q (cells_in n xs) (cell_of (get_or xs n 0) ∷ [])))

-- The cell at a place.
pub cell_at : (n : ℕ) (xs : List ℕ) (i : ℕ) → i < n → get_or (cells_in n xs) i (cell_of 0) ≡ cell_of (get_or xs i 0)
unfolding cells_in
cell_at n xs i h = get_or-map cell_of (take n xs) i 0 ∙ ap cell_of (get_or-take n xs i 0 h)

pub cells_from : {n i : ℕ} (xs : List ℕ) → n ≤ length xs → i < n
    → drop i (cells_in n xs) ≡ cell_of (get_or xs i 0) ∷ drop (i + 1) (cells_in n xs)
cells_from {n} {i} xs fits more =
    let l : i < length (cells_in n xs) = omega (arith, cells_length n xs fits) in
    rw (add-one, ← cell_at n xs i more) (drop-cons (cells_in n xs) i (cell_of 0) l)

-- A test that holds of all cells holds at each place; where it fails at one, it does not hold of all.
module _ {n i : ℕ} (xs : List ℕ) (fits : n ≤ length xs) (more : i < n) where
  all_cells_at : (test : Cell → Bool) → all_of test (cells_in n xs) ≡ true → test (cell_of (get_or xs i 0)) ≡ true
  all_cells_at test e =
      let l : i < length (cells_in n xs) = omega (arith, cells_length n xs fits) in
      rw (← cell_at n xs i more) (all_of_at test (cells_in n xs) i (cell_of 0) e l)

  pub not-all_cells : (test : Cell → Bool) → test (cell_of (get_or xs i 0)) ≡ false → all_of test (cells_in n xs) ≡ false
  not-all_cells test f =
      by_test (all_of test (cells_in n xs))
      (λ e. absurd (true_not_false (test (cell_of (get_or xs i 0))) (all_cells_at test e) f))
      (λ e. e)

  -- A cell that is not empty has a queue below the bound.
  pub queue_below : (m : ℕ) → all_of (cell_below m) (cells_in n xs) ≡ true → 65536 ≤ get_or xs i 0 → queue_at xs i < m
  queue_below m e g =
      ltb-true (queue_at xs i) m (sym (cell_below_lem (get_or xs i 0) m g) ∙ all_cells_at (cell_below m) e)

-- A test of one cell more.
pub all_cells_more : {i : ℕ} (xs : List ℕ) (test : Cell → Bool) → i < length xs → all_of test (cells_in i xs) ≡ true
    → test (cell_of (get_or xs i 0)) ≡ true → all_of test (cells_in (i + 1) xs) ≡ true
all_cells_more {i} xs test h e f = rw (cells_more i xs h) (all_of_more test (cells_in i xs) (cell_of (get_or xs i 0)) e f)
