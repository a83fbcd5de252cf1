-- The scan of the cells, one cell at a time: before cell i it answers as the scan of the cells from i on with the
-- credits left, i places on.
use mathlib.Core.Path.{◌≡◌, ap, sym, ◌∙◌}
use mathlib.Core.List.{List, ◌∷◌}
use mathlib.Core.Option.{some}
use Prim.Native.Nat.{ℕ, ◌+◌, ◌-◌, ◌≤◌, ◌<◌}
use native.Mathlib.Omega.{arith}
use lib.ListN.{length, drop, set, get_or, length-set, drop_of_length-le}
use Rattle.model.specs.State.{owed}
use Rattle.model.specs.Slot.{refill_place, refill_by, no_refill, onward}
use Rattle.model.proofs.meaning.Place.{refill_stops, refill_goes_on, onward-on, places_on_none}
use Rattle.layout.specs.Entries.{counts_in, cells_in}
use Rattle.layout.specs.Calls.{refill_at}
use Rattle.layout.proofs.Counts.{counts_stored}
use Rattle.layout.proofs.Cells.{queue_at, cell_owed, cell_skipped, cells_length, cells_from}

pub record ScannedTo (i l : ℕ) (xs credits left : List ℕ) : Type 0 where
  pub within : i ≤ l
  pub long : length left ≡ 256
  pub goes_on :
      refill_by (counts_in credits) (cells_in l xs) ≡ onward i (refill_by (counts_in left) (drop i (cells_in l xs)))

pub scan_starts : (l : ℕ) (xs credits : List ℕ) → length credits ≡ 256 → ScannedTo 0 l xs credits credits
scan_starts l xs credits long = record {
  within = omega arith;
  long = long;
  goes_on = rw (places_on_none (refill_place (counts_in credits) (cells_in l xs)));
}

module _ {i l : ℕ} {xs credits left : List ℕ} (fits : l ≤ length xs) (w : ScannedTo i l xs credits left) where
  pub scan_ends_lem : l ≤ i → no_refill ≡ refill_by (counts_in credits) (cells_in l xs)
  scan_ends_lem last =
      let passed : length (cells_in l xs) ≤ i = omega (arith, cells_length l xs fits) in
      sym (w.goes_on ∙ rw (drop_of_length-le (cells_in l xs) passed))

  module _ (more : i < l) where
    -- A cell that is passed leaves the choice to those behind it, one place on.
    one_more : (left' : List ℕ) → length left' ≡ 256
        → refill_by (counts_in left) (drop i (cells_in l xs))
        ≡ onward 1 (refill_by (counts_in left') (drop (i + 1) (cells_in l xs)))
        → ScannedTo (i + 1) l xs credits left'
    one_more left' long passes = record {
      within = omega arith;
      long = long;
      goes_on =
          w.goes_on
          ∙ ap (onward i) passes
          ∙ onward-on i 1 (refill_by (counts_in left') (drop (i + 1) (cells_in l xs)));
    }

    pub scan_skips : get_or xs i 0 < 131072 → ScannedTo (i + 1) l xs credits left
    scan_skips other =
        one_more left w.long (rw (cells_from xs fits more)
        (cell_skipped (counts_in left) (get_or xs i 0) (drop (i + 1) (cells_in l xs)) other))

    module _ (owing : 131072 ≤ get_or xs i 0) where
      owed_next : drop i (cells_in l xs) ≡ owed (queue_at xs i) ∷ drop (i + 1) (cells_in l xs)
      owed_next = cells_from xs fits more ∙ rw (cell_owed (get_or xs i 0) owing)

      stops_here : get_or left (queue_at xs i) 0 ≡ 0
          → refill_by (counts_in left) (drop i (cells_in l xs)) ≡ record { queue = some (queue_at xs i); slots_left = 1 }
      unfolding counts_in
      stops_here uncovered =
          rw owed_next (refill_stops (counts_in left) (queue_at xs i) (drop (i + 1) (cells_in l xs)) uncovered)

      pub scan_finds : get_or left (queue_at xs i) 0 ≡ 0
          → refill_at (some (queue_at xs i)) (i + 1) ≡ refill_by (counts_in credits) (cells_in l xs)
      scan_finds uncovered =
          sym (w.goes_on
          ∙ ap (onward i) (stops_here uncovered)
          ∙ ap (λ (k : ℕ). record { queue = some (queue_at xs i); slots_left = k })
          (let e : 1 + i ≡ i + 1 = omega arith in e))

      pub scan_spends : queue_at xs i < 256 → 1 ≤ get_or left (queue_at xs i) 0
          → ScannedTo (i + 1) l xs credits (set left (queue_at xs i) (get_or left (queue_at xs i) 0 - 1))
      unfolding counts_in
      scan_spends below covered =
          one_more (set left (queue_at xs i) (get_or left (queue_at xs i) 0 - 1))
          (length-set left (queue_at xs i) (get_or left (queue_at xs i) 0 - 1) ∙ w.long)
          (rw (
            owed_next,
            counts_stored left (queue_at xs i) (get_or left (queue_at xs i) 0 - 1) (omega (arith, w.long)),
          )
          (refill_goes_on (counts_in left) (queue_at xs i) (drop (i + 1) (cells_in l xs)) covered))
