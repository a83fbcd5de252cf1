-- One turn of each loop over the lookahead: what the loop has done so far it has done with one cell more. Each loop
-- has a record of what it has done; its laws are the start, the turns and the end.
use mathlib.Core.Path.{◌≡◌, refl, ap, sym, ◌∙◌}
use mathlib.Core.Bool.{not, ◌&&◌}
use mathlib.Core.List.{List, [], ◌∷◌, ◌++◌, map}
use mathlib.Core.Option.{some, none}
use Prim.Native.Nat.{ℕ, zero, suc, ◌+◌, ◌-◌, ◌/◌, ◌%◌, ◌≤◌, ◌<◌}
use native.Mathlib.Omega.{arith}
use lib.Dec.{eqb, leb}
use lib.ListN.{length, take, drop, length-drop, set, get_or, replicate, length-set, length-replicate, drop_of_length-le}
use lib.Seq.{take-paste, length-paste, set-get_or}
use Rattle.std.specs.List.{copy_within, list_all}
use Rattle.std.proofs.lemmas.List.{drop-take, drop-map}
use mir.Val.{bool_byte}
use borrow.Author.Tests.{eqb-true, eqb-false, leb-true, leb-false, lt-ltb, le-ltb}
use Rattle.model.specs.State.{Cell, empty, held, owed, owes, owed_of, cell_below}
use Rattle.model.specs.Basics.{all_of}
use Rattle.model.specs.Slot.{refill_place, refill_by, onward}
use Rattle.model.proofs.basics.Tests.{by_test}
use Rattle.model.proofs.meaning.Place.{refill_stops, refill_goes_on, onward-on, places_on_none}
use Rattle.layout.specs.Lengths.{queue_places}
use Rattle.layout.specs.Entries.{counts_in, cell_of, cells_in}
use Rattle.layout.proofs.Counts.{counts_zero, counts_stored}
use Rattle.lookahead.specs.Says.{Shifted, EmptyTo, Scanned}
use Rattle.layout.specs.Counts.{TallyOwed}
use Rattle.layout.proofs.Cells.{queue_at, cell_owed, cell_owes_nothing, cell_skipped, cell_below_lem, empty_below, no_cells, cells_length}
use Rattle.layout.proofs.Cells.{cells_stored, owed_more, cells_from}

-- The cells from place m to l, copied to the front, are those of l without the first m.
pub moved_down : (l m : ℕ) (xs : List ℕ) → m ≤ l → l ≤ length xs
    → cells_in (l - m) (copy_within xs m l 0) ≡ drop m (cells_in l xs)
unfolding cells_in
moved_down l m xs h fits =
    let z : l - m ≡ 0 + (l - m) = omega arith in
    let e : m + (l - m) ≡ l = omega arith in
    ap (map cell_of)
    (ap (λ (k : ℕ). take k (copy_within xs m l 0)) z
    ∙ take-paste xs 0 (drop m xs) (l - m) (omega arith) (simp length-drop (omega arith))
    ∙ sym (drop-take m (l - m) xs)
    ∙ ap (λ (k : ℕ). drop m (take k xs)) e)
    ∙ sym (drop-map cell_of m (take l xs))

pub moved_long : (l m : ℕ) (xs : List ℕ) → m ≤ l → l ≤ length xs → length (copy_within xs m l 0) ≡ length xs
moved_long l m xs h fits = length-paste xs 0 (drop m xs) (l - m) (omega arith) (simp length-drop (omega arith))

pub shift_ends : (l cell : ℕ) (xs : List ℕ) → 1 ≤ l → l ≤ length xs
    → Shifted l cell xs (set (copy_within xs 1 l 0) (l - 1) cell)
shift_ends l cell xs h fits =
    let e : l ≡ l - 1 + 1 = omega arith in
    record {
      cells_are =
          ap (λ (k : ℕ). cells_in k (set (copy_within xs 1 l 0) (l - 1) cell)) e
          ∙ cells_stored (l - 1) (copy_within xs 1 l 0) cell (omega (arith, moved_long l 1 xs h fits))
          ∙ ap (λ (cells : List Cell). cells ++ cell_of cell ∷ []) (moved_down l 1 xs h fits);
      same_length = length-set (copy_within xs 1 l 0) (l - 1) cell ∙ moved_long l 1 xs h fits;
    }

-- The test of the numbers is that of the cells.
cell-is_below : (queues x : ℕ) → not (leb 65536 x && leb queues (x / 256 % 256)) ≡ cell_below queues (cell_of x)
cell-is_below queues x =
    by_test (leb 65536 x)
    (λ t. by_test (leb queues (x / 256 % 256))
    (λ u. rw (t, u, cell_below_lem x queues (leb-true 65536 x t), le-ltb (x / 256 % 256) queues (leb-true queues (x / 256 % 256) u)))
    (λ u. rw (t, u, cell_below_lem x queues (leb-true 65536 x t), lt-ltb (x / 256 % 256) queues (leb-false queues (x / 256 % 256) u))))
    (λ t. rw (t, empty_below x queues (leb-false 65536 x t)))

pub cells-are_below : (queues : ℕ) (xs : List ℕ)
    → list_all (λ x. not (leb 65536 x && leb queues (x / 256 % 256))) xs ≡ all_of (cell_below queues) (map cell_of xs)
cells-are_below queues [] = refl
cells-are_below queues (x ∷ xs) = rw (cell-is_below queues x, cells-are_below queues xs)

-- The scan before cell i: whatever follows, it answers as the scan of the cells from i on with the credits left, so
-- many places on.
pub record ScannedTo (i from l : ℕ) (xs credits left : List ℕ) : Type 0 where
  pub onwards : from ≤ i
  pub within : i ≤ l
  pub long : length left ≡ queue_places
  pub goes_on : (rest : List Cell)
      → refill_by (counts_in credits) (drop from (cells_in l xs) ++ rest)
      ≡ onward (i - from) (refill_by (counts_in left) (drop i (cells_in l xs) ++ rest))

pub scan_starts : {from l : ℕ} {xs credits : List ℕ} → from ≤ l → length credits ≡ queue_places
    → ScannedTo from from l xs credits credits
scan_starts {from} {l} {xs} {credits} h long = record {
  onwards = omega arith;
  within = h;
  long = long;
  goes_on = λ rest.
      rw (nothing-between, places_on_none (refill_place (counts_in credits) (drop from (cells_in l xs) ++ rest)));
}
  where
    nothing-between : from - from ≡ 0
    nothing-between = omega arith

module _ {i from l : ℕ} {xs credits left : List ℕ} (fits : l ≤ length xs) (w : ScannedTo i from l xs credits left) where
  pub scan_ends_lem : i ≡ l → Scanned (counts_in credits) (drop from (cells_in l xs)) none (i - from) (counts_in left)
  scan_ends_lem last =
      let passed : length (cells_in l xs) ≤ i = omega (arith, cells_length l xs fits) in
      record { ends = λ rest. w.goes_on rest ∙ rw (drop_of_length-le (cells_in l xs) passed) }

  module _ (more : i < l) where
    -- A cell that is passed leaves the choice to those behind it, one place on.
    abbrev Passes : List ℕ → Type 0
    Passes left' = (rest : List Cell)
        → refill_by (counts_in left) (drop i (cells_in l xs) ++ rest)
        ≡ onward 1 (refill_by (counts_in left') (drop (i + 1) (cells_in l xs) ++ rest))

    one_more : (left' : List ℕ) → length left' ≡ queue_places → Passes left' → ScannedTo (i + 1) from l xs credits left'
    one_more left' long passes = record {
      onwards = omega (arith, w.onwards);
      within = omega arith;
      long = long;
      goes_on = λ rest.
          w.goes_on rest
          ∙ ap (onward (i - from)) (passes rest)
          ∙ onward-on (i - from) 1 (refill_by (counts_in left') (drop (i + 1) (cells_in l xs) ++ rest))
          ∙ ap (λ (k : ℕ). onward k (refill_by (counts_in left') (drop (i + 1) (cells_in l xs) ++ rest)))
          (let e : i - from + 1 ≡ i + 1 - from = omega (arith, w.onwards) in e);
    }

    pub scan_skips : get_or xs i 0 < 131072 → ScannedTo (i + 1) from l xs credits left
    scan_skips other =
        one_more left w.long (λ rest. rw (cells_from xs fits more)
        (cell_skipped (counts_in left) (get_or xs i 0) (drop (i + 1) (cells_in l xs) ++ rest) other))

    module _ (owing : 131072 ≤ get_or xs i 0) where
      owed_next : drop i (cells_in l xs) ≡ owed (queue_at xs i) ∷ drop (i + 1) (cells_in l xs)
      owed_next = cells_from xs fits more ∙ rw (cell_owed (get_or xs i 0) owing)

      stops_here : get_or left (queue_at xs i) 0 ≡ 0 → (rest : List Cell)
          → refill_by (counts_in left) (drop i (cells_in l xs) ++ rest)
          ≡ record { queue = some (queue_at xs i); slots_left = 1 }
      unfolding counts_in
      stops_here uncovered rest =
          rw owed_next
          (refill_stops (counts_in left) (queue_at xs i) (drop (i + 1) (cells_in l xs) ++ rest) uncovered)

      pub scan_finds : get_or left (queue_at xs i) 0 ≡ 0
          → Scanned (counts_in credits) (drop from (cells_in l xs)) (some (queue_at xs i)) (i - from) (counts_in left)
      scan_finds uncovered = record {
        ends = λ rest.
            w.goes_on rest
            ∙ ap (onward (i - from)) (stops_here uncovered rest)
            ∙ ap (λ (k : ℕ). record { queue = some (queue_at xs i); slots_left = k })
            (let e : 1 + (i - from) ≡ i - from + 1 = omega arith in e);
      }

      pub scan_spends : queue_at xs i < queue_places → 1 ≤ get_or left (queue_at xs i) 0
          → ScannedTo (i + 1) from l xs credits (set left (queue_at xs i) (get_or left (queue_at xs i) 0 - 1))
      unfolding counts_in
      scan_spends below covered =
          one_more (set left (queue_at xs i) (get_or left (queue_at xs i) 0 - 1))
          (length-set left (queue_at xs i) (get_or left (queue_at xs i) 0 - 1) ∙ w.long)
          (λ rest. rw (
            owed_next,
            counts_stored left (queue_at xs i) (get_or left (queue_at xs i) 0 - 1) (omega (arith, w.long)),
          )
          (refill_goes_on (counts_in left) (queue_at xs i) (drop (i + 1) (cells_in l xs) ++ rest) covered))

    -- What a cell takes of its queue's credits, 1 where it is Owed and else 0, they cover or not.
    abbrev takes : ℕ
    takes = bool_byte (leb 131072 (get_or xs i 0))

    pub scan_covers : queue_at xs i < queue_places → takes ≤ get_or left (queue_at xs i) 0
        → ScannedTo (i + 1) from l xs credits (set left (queue_at xs i) (get_or left (queue_at xs i) 0 - takes))
    scan_covers below covered =
        by_test (leb 131072 (get_or xs i 0))
        (λ t. rw t (scan_spends (leb-true 131072 (get_or xs i 0) t) below (rw t at covered)))
        (λ t.
        let same : get_or left (queue_at xs i) 0 - 0 ≡ get_or left (queue_at xs i) 0 = omega arith in
        rw (t, same, set-get_or left (queue_at xs i) 0)
        (scan_skips (leb-false 131072 (get_or xs i 0) t)))

    pub scan_lacks : get_or left (queue_at xs i) 0 < takes
        → Scanned (counts_in credits) (drop from (cells_in l xs)) (some (queue_at xs i)) (i - from) (counts_in left)
    scan_lacks lacking =
        by_test (leb 131072 (get_or xs i 0))
        (λ t. scan_finds (leb-true 131072 (get_or xs i 0) t) (omega (arith, rw t at lacking)))
        (λ t. absurd (omega (arith, rw t at lacking)))

-- The scan goes past any number of cells that are not Owed.
scan_past : {i from l : ℕ} {xs credits left : List ℕ} → l ≤ length xs → ScannedTo i from l xs credits left → (n : ℕ)
    → i + n ≤ l → ((j : ℕ) → i ≤ j → j < i + n → get_or xs j 0 < 131072) → ScannedTo (i + n) from l xs credits left
scan_past {i} {from} {l} {xs} {credits} {left} fits w zero h others =
    let same : i + 0 ≡ i = omega arith in rw same w
scan_past {i} {from} {l} {xs} {credits} {left} fits w (suc n) h others =
    let next : i + suc n ≡ i + n + 1 = omega arith in
    rw next
    (scan_skips fits (scan_past fits w n (omega (arith, h)) (λ j a b. others j a (omega (arith, b))))
    (omega (arith, h)) (others (i + n) (omega arith) (omega arith)))

-- Past an empty cell, and past those that are found empty behind it.
pub scan_empties : {i from l to : ℕ} {xs credits left : List ℕ} → l ≤ length xs → ScannedTo i from l xs credits left
    → get_or xs i 0 < 65536 → EmptyTo (i + 1) to l xs → ScannedTo to from l xs credits left
scan_empties {i} {from} {l} {to} {xs} {credits} {left} fits w first past =
    let all : i + (to - i) ≡ to = omega (arith, past.onward) in
    rw all at (scan_past fits w (to - i) (omega (arith, past.onward, past.within)) others)
  where
    others : (j : ℕ) → i ≤ j → j < i + (to - i) → get_or xs j 0 < 131072
    others j a b =
        by_test (eqb i j)
        (λ t. let e : i ≡ j = eqb-true i j t in rw e at (let x : get_or xs i 0 < 131072 = omega (arith, first) in x))
        (λ t. omega (arith, past.empties j (omega (arith, a, eqb-false i j t)) (omega (arith, b, past.onward))))

-- The places found empty so far, and two more.
pub empty_so_far : {from l : ℕ} {xs : List ℕ} → from ≤ l → EmptyTo from from l xs
empty_so_far h = record { onward = omega arith; within = h; empties = λ i a b. absurd (omega (arith, a, b)) }

pub empty_two_more : {from i l : ℕ} {xs : List ℕ} → EmptyTo from i l xs → i + 1 < l
    → get_or xs i 0 + get_or xs (i + 1) 0 < 65536 → EmptyTo from (i + 2) l xs
empty_two_more {from} {i} {l} {xs} w more both = record {
  onward = omega (arith, w.onward);
  within = omega (arith, more);
  empties = λ j a b.
      by_test (eqb i j)
      (λ t. let e : i ≡ j = eqb-true i j t in rw e at (let x : get_or xs i 0 < 65536 = omega (arith, both) in x))
      (λ t. by_test (eqb (i + 1) j)
      (λ u. let e : i + 1 ≡ j = eqb-true (i + 1) j u in
      rw e at (let x : get_or xs (i + 1) 0 < 65536 = omega (arith, both) in x))
      (λ u. w.empties j a (omega (arith, b, eqb-false i j t, eqb-false (i + 1) j u))));
}

-- The tally before cell i is that of the first i cells.
pub record TalliedTo (i n : ℕ) (xs counts : List ℕ) : Type 0 where
  pub within : i ≤ n
  pub tally : TallyOwed counts (cells_in i xs)

pub tally_starts : (n : ℕ) (xs : List ℕ) → TalliedTo 0 n xs (replicate queue_places 0)
unfolding counts_in
tally_starts n xs = record {
  within = omega arith;
  tally = record {
    long = length-replicate {A = ℕ} queue_places 0;
    count_is = λ q. rw no_cells (counts_zero queue_places q);
  };
}

count_raised : (counts : List ℕ) (q p : ℕ) → q < length counts
    → counts_in (set counts q (get_or counts q 0 + 1)) p ≡ counts_in counts p + owes p (owed q)
unfolding counts_in
count_raised counts q p h =
    ap (λ (f : ℕ → ℕ). f p) (counts_stored counts q (get_or counts q 0 + 1) h)
    ∙ by_test (eqb q p)
    (λ t. rw t (omega (arith, ap (counts_in counts) (eqb-true q p t))))
    (λ t. rw t (omega arith))

pub owed_at_most : (q : ℕ) (cells : List Cell) → owed_of q cells ≤ length cells
owed_at_most q [] = omega arith
owed_at_most q (empty ∷ cells) = omega (arith, owed_at_most q cells)
owed_at_most q (held p v ∷ cells) = omega (arith, owed_at_most q cells)
owed_at_most q (owed p ∷ cells) =
    by_test (eqb p q)
    (λ t. rw t (omega (arith, owed_at_most q cells)))
    (λ t. rw t (omega (arith, owed_at_most q cells)))

module _ {i n : ℕ} {xs counts : List ℕ} (fits : n ≤ length xs) (w : TalliedTo i n xs counts) where
  pub tally_ends : n ≤ i → TallyOwed counts (cells_in n xs)
  tally_ends last = let e : i ≡ n = omega arith in rw e at w.tally

  module _ (more : i < n) where
    -- A count is at most the number of cells counted, so that it fits.
    pub count_at_most : (q : ℕ) → get_or counts q 0 ≤ i
    unfolding counts_in
    count_at_most q =
        omega (arith, w.tally.count_is q, owed_at_most q (cells_in i xs), cells_length i xs (omega arith))

    pub tally_skips : get_or xs i 0 < 131072 → TalliedTo (i + 1) n xs counts
    tally_skips other = record {
      within = omega arith;
      tally = record {
        long = w.tally.long;
        count_is = λ p.
            omega (
              arith,
              w.tally.count_is p,
              owed_more p i xs (omega arith),
              cell_owes_nothing (get_or xs i 0) p other,
            );
      };
    }

    pub tally_counts : 131072 ≤ get_or xs i 0 → queue_at xs i < queue_places
        → TalliedTo (i + 1) n xs (set counts (queue_at xs i) (get_or counts (queue_at xs i) 0 + 1))
    tally_counts owing below = record {
      within = omega arith;
      tally = record {
        long = length-set counts (queue_at xs i) (get_or counts (queue_at xs i) 0 + 1) ∙ w.tally.long;
        count_is = λ p. omega (
          arith,
          w.tally.count_is p,
          count_raised counts (queue_at xs i) p (omega (arith, w.tally.long)),
          owed_more p i xs (omega arith),
          ap (owes p) (cell_owed (get_or xs i 0) owing),
        );
      };
    }
