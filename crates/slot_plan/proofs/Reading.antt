-- The queue that a slot will read, as the scan of the older cells and the new cell find it.
use mathlib.Core.Path.{◌≡◌, refl, ap, sym, ◌∙◌, fun_ext}
use mathlib.Core.Bool.{Bool, true, false, true≢false}
use Rattle.std.specs.Prelude as code
use Rattle.std.specs.Prelude.{is_some}
use mathlib.Core.List.{List, [], ◌∷◌, ◌++◌}
use mathlib.Core.Option.{Option, some, none}
use Prim.Native.Nat.{ℕ, ◌+◌, ◌-◌, ◌≤◌, ◌<◌}
use native.Mathlib.Omega.{arith}
use lib.ListN.{length, drop, get_or}
use borrow.Author.Tests.{ltb-true, eq-eqb, ne_eqb}
use Rattle.model.specs.Basics.{all_of}
use Rattle.model.specs.Sizes.{Sizes}
use Rattle.model.specs.State.{Cell, empty, held, owed, cell_below}
use Rattle.model.specs.Slot.{oldest_cell, refill_queue, refill_by}
use Rattle.model.proofs.basics.Tests.{by_zero, positive, and_left}
use Rattle.model.proofs.meaning.Scan.{scan_stops, scan_goes_on}
use Rattle.layout.specs.Entries.{counts_in, cell_of, cells_in}
use Rattle.layout.specs.Calls.{chosen_in, refill_at}
use Rattle.layout.specs.Counts.{CountsAre}
use Rattle.lookahead.specs.Says.{Scanned, scan_ends, spent}
use Rattle.layout.proofs.Cells.{cells_from}
use Rattle.layout.specs.Figures.{new_cell}
use Rattle.slot_plan.specs.Says.{read_now}

-- No older cell stopped the scan.
pub none_found : (found : code.Option ℕ) → is_some found ≡ false → chosen_in found ≡ none
none_found (code.Some q) e = absurd (true≢false e)
none_found code.None e = refl

-- A new Owed cell stops the scan where no credit is left to it, and else does not.
pub new_stops : (left : ℕ → ℕ) (q : ℕ) → left q ≡ 0 → some q ≡ refill_queue left (owed q ∷ [])
new_stops left q e = sym (scan_stops left q [] e)

pub new_covered : (left : ℕ → ℕ) (q : ℕ) → (left q ≡ 0 → ⊥) → none ≡ refill_queue left (owed q ∷ [])
new_covered left q n = sym (scan_goes_on left q [] (positive (left q) n))

-- Of the older cells and the new one: where one is found, the scan has come to its place.
same_place : (q m n : ℕ) → m ≡ n → refill_at (some q) m ≡ record { queue = some q; slots_left = n }
same_place q m n e = ap (λ (k : ℕ). record { queue = some q; slots_left = k }) e

pub stopped_at : (found : Option ℕ) (place : ℕ) (left : ℕ → ℕ) (cell : Cell) → 1 ≤ place
    → refill_at (scan_ends found (place - 1) left (cell ∷ [])).queue place ≡ scan_ends found (place - 1) left (cell ∷ [])
stopped_at (some q) place left cell low = same_place q place (place - 1 + 1) (omega (arith, low))
stopped_at none place left empty low = refl
stopped_at none place left (held q v) low = refl
stopped_at none place left (owed q) low =
    by_zero (left q)
    (λ z. rw (eq-eqb (left q) 0 z) (same_place q place (1 + (place - 1)) (omega (arith, low))))
    (λ u. rw (ne_eqb (left q) 0 (λ e. omega (arith, e, u))))

-- The oldest cell of an array, and that its queue is below the bound of all.
module _ (n : ℕ) (xs : List ℕ) (some_cell : 1 ≤ n) (fits : n ≤ length xs) where
  oldest_first : cells_in n xs ≡ cell_of (get_or xs 0 0) ∷ drop 1 (cells_in n xs)
  oldest_first = cells_from {n = n} {i = 0} xs fits some_cell

  pub oldest_is : oldest_cell (cells_in n xs) ≡ cell_of (get_or xs 0 0)
  oldest_is = ap oldest_cell oldest_first

  pub oldest_below : (m : ℕ) → all_of (cell_below m) (cells_in n xs) ≡ true → cell_below m (cell_of (get_or xs 0 0)) ≡ true
  oldest_below m e =
      and_left (cell_below m (cell_of (get_or xs 0 0))) (all_of (cell_below m) (drop 1 (cells_in n xs)))
      (ap (all_of (cell_below m)) (sym oldest_first) ∙ e)

pub owed_queue_below : (m c q : ℕ) → cell_below m (cell_of c) ≡ true → cell_of c ≡ owed q → q < m
owed_queue_below m c q below e = ltb-true q m (ap (cell_below m) (sym e) ∙ below)

-- In a slot that makes moves the read is what scan and new cell find.
module _ (phase : ℕ) (s : Sizes) (heads : ℕ → ℕ) (cells : List Cell) (owing : Bool) (request : Option ℕ) where
  pub move_reads : phase + 1 ≡ s.b → {credits : List ℕ} → CountsAre credits (spent heads (oldest_cell cells))
      → {found : Option ℕ} {passed : ℕ} {left : ℕ → ℕ} → Scanned (counts_in credits) (drop 1 cells) found passed left
      → scan_ends found passed left (new_cell owing request ∷ []) ≡ read_now phase s heads cells owing request
  move_reads e {credits} stored scanned =
      rw (eq-eqb phase (s.b - 1) (omega (arith, e)))
      (sym (scanned.ends (new_cell owing request ∷ []))
      ∙ ap (λ (c : ℕ → ℕ). refill_by c (drop 1 cells ++ new_cell owing request ∷ [])) (fun_ext stored.count_is))
