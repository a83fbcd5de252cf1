-- A shift by m is a move down by m and then m empty cells.
use mathlib.Core.Path.{◌≡◌, ap, sym, ◌∙◌}
use mathlib.Core.List.{List, ◌++◌, map, map-append, append_assoc}
use Prim.Native.Nat.{ℕ, ◌-◌, ◌≤◌}
use native.Mathlib.Omega.{arith}
use lib.ListN.{length, take, drop, replicate, length-append, length-drop, length-replicate}
use lib.LanesLaws.{map-replicate}
use lib.Seq.{length-take-le, take-append_seam}
use Rattle.model.specs.State.{Cell}
use Rattle.layout.specs.Entries.{cell_of, cells_in}
use Rattle.layout.proofs.Cells.{cell_empty}
use Rattle.idle_quiet.specs.Says.{ShiftedBy}

-- The cells once they have moved down, and then ys in the place of those that this left free.
module _ (l m : ℕ) (xs down ys : List ℕ) (h : m ≤ l) (fits : l ≤ length xs) (down_long : length down ≡ length xs)
    (down_is : cells_in (l - m) down ≡ drop m (cells_in l xs))
    (cleared : ys ≡ replicate (length (take (l - (l - m)) (drop (l - m) down))) 0) where
  abbrev kept : List ℕ
  kept = take (l - m) down

  abbrev after : List ℕ
  after = drop (l - (l - m)) (drop (l - m) down)

  kept_long : length kept ≡ l - m
  kept_long = length-take-le (l - m) down (omega (arith, down_long))

  part_long : length (take (l - (l - m)) (drop (l - m) down)) ≡ m
  part_long = length-take-le (l - (l - m)) (drop (l - m) down) (simp length-drop (omega (arith, down_long))) ∙ omega arith

  ys_are : ys ≡ replicate m 0
  ys_are = cleared ∙ ap (λ (k : ℕ). replicate k 0) part_long

  first : take l (kept ++ (ys ++ after)) ≡ kept ++ replicate m 0
  first =
      let e : l ≡ length (kept ++ replicate m 0) =
      simp (length-append, length-replicate) (omega (arith, kept_long)) in
      ap (λ (zs : List ℕ). take l (kept ++ (zs ++ after))) ys_are
      ∙ ap (take l) (sym (append_assoc kept (replicate m 0) after))
      ∙ ap (λ (k : ℕ). take k (kept ++ replicate m 0 ++ after)) e
      ∙ take-append_seam (kept ++ replicate m 0) after

  pub shifted_by : ShiftedBy l m xs (kept ++ (ys ++ after))
  unfolding cells_in
  shifted_by = record {
    cells_are =
        ap (map cell_of) first
        ∙ map-append cell_of kept (replicate m 0)
        ∙ ap (λ (cells : List Cell). cells ++ map cell_of (replicate m 0)) down_is
        ∙ ap (λ (cells : List Cell). drop m (cells_in l xs) ++ cells)
        (map-replicate cell_of m 0 ∙ ap (replicate m) (cell_empty 0 (omega arith)));
    same_length =
        rw ys_are (simp (length-append, length-replicate, length-drop) (omega (arith, kept_long, down_long)));
  }
