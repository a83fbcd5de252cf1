-- The place that the scan tells beside its queue (request 2.6) is that of one cell: the cell there is Owed to the
-- queue, a scan of those before it finds none, and one that goes as far as it finds the queue, so that it is the first
-- that lacks its byte. Both go by the same recursion.
-- `place_of_the_queue` and `place_none` say it, of a state `read_place` and `no_read_no_place`.
use mathlib.Core.Path.{◌≡◌, refl, ap, sym, ◌∙◌}
use mathlib.Core.Bool.{true, false}
use mathlib.Core.List.{List, [], ◌∷◌}
use mathlib.Core.Option.{some, none}
use Prim.Native.Nat.{ℕ, zero, suc, ◌+◌, ◌-◌, ◌<◌, ◌≤◌}
use native.Mathlib.Omega.{arith}
use lib.ListN.{length, take, get_or}
use borrow.Author.Tests.{eq-eqb, ne_eqb}
use Rattle.model.specs.Basics.{update}
use Rattle.model.specs.State.{Cell, empty, held, owed, State, head_bytes}
use Rattle.model.specs.Slot.{moves, refill_queue, queue_to_read, places_on, refill_place, slots_to_refill}
use Rattle.model.specs.Slot.{Refill, refill_by, no_refill, refill_of, onward}
use Rattle.model.specs.SlotsLeft.{FirstUncovered}
use Rattle.model.proofs.basics.Tests.{by_test, by_zero, by_option, none_not_some, some_inj}
use Rattle.model.proofs.meaning.Steps.{move_reads_scan, no_move_no_read}
use Rattle.model.proofs.meaning.Scan.{scan_stops, scan_goes_on}

-- One Owed cell: it is the one, or the choice is that of the cells behind it, one place on.
pub refill_stops : (c : ℕ → ℕ) (q : ℕ) (cells : List Cell) → c q ≡ 0
    → refill_by c (owed q ∷ cells) ≡ record { queue = some q; slots_left = 1 }
refill_stops c q cells z = rw (eq-eqb (c q) 0 z)

pub refill_goes_on : (c : ℕ → ℕ) (q : ℕ) (cells : List Cell) → 1 ≤ c q
    → refill_by c (owed q ∷ cells) ≡ onward 1 (refill_by (update c q (c q - 1)) cells)
refill_goes_on c q cells u = rw (ne_eqb (c q) 0 (λ e. omega arith))

pub place_stops : (c : ℕ → ℕ) (q : ℕ) (cells : List Cell) → c q ≡ 0 → refill_place c (owed q ∷ cells) ≡ 1
place_stops c q cells z = ap (λ (r : Refill). r.slots_left) (refill_stops c q cells z)

pub place_goes_on : (c : ℕ → ℕ) (q : ℕ) (cells : List Cell) → 1 ≤ c q
    → refill_place c (owed q ∷ cells) ≡ places_on 1 (refill_place (update c q (c q - 1)) cells)
place_goes_on c q cells u = ap (λ (r : Refill). r.slots_left) (refill_goes_on c q cells u)

pub place_none : (c : ℕ → ℕ) (cells : List Cell) → refill_queue c cells ≡ none → refill_place c cells ≡ 0
place_none c [] e = refl
place_none c (empty ∷ cells) e = ap (places_on 1) (place_none c cells e)
place_none c (held q v ∷ cells) e = ap (places_on 1) (place_none c cells e)
place_none c (owed q ∷ cells) e =
    by_zero (c q)
    (λ z. absurd (none_not_some q (sym e ∙ scan_stops c q cells z)))
    (λ u. place_goes_on c q cells u
    ∙ ap (places_on 1) (place_none (update c q (c q - 1)) cells (sym (scan_goes_on c q cells u) ∙ e)))

-- The same place counted from 0, as lists have it.
record FoundAt (c : ℕ → ℕ) (cells : List Cell) (q : ℕ) : Type 0 where
  index : ℕ
  place_is : refill_place c cells ≡ suc index
  within : index < length cells
  is_owed_lem : get_or cells index empty ≡ owed q
  none_before : refill_queue c (take index cells) ≡ none
  uncovered : refill_queue c (take (suc index) cells) ≡ some q

-- One cell in front, which the scan passes.
passes : (c d : ℕ → ℕ) (cell : Cell) (cells : List Cell) (q : ℕ)
    → refill_place c (cell ∷ cells) ≡ places_on 1 (refill_place d cells)
    → ((rest : List Cell) → refill_queue c (cell ∷ rest) ≡ refill_queue d rest)
    → FoundAt d cells q → FoundAt c (cell ∷ cells) q
passes c d cell cells q on skips f = record {
  index = suc f.index;
  place_is = omega (arith, on, ap (places_on 1) f.place_is);
  within = omega (arith, f.within);
  is_owed_lem = f.is_owed_lem;
  none_before = skips (take f.index cells) ∙ f.none_before;
  uncovered = skips (take (suc f.index) cells) ∙ f.uncovered;
}

found_at : (c : ℕ → ℕ) (cells : List Cell) (q : ℕ) → refill_queue c cells ≡ some q → FoundAt c cells q
found_at c [] q e = absurd (none_not_some q e)
found_at c (empty ∷ cells) q e = passes c c empty cells q refl (λ rest. refl) (found_at c cells q e)
found_at c (held p v ∷ cells) q e = passes c c (held p v) cells q refl (λ rest. refl) (found_at c cells q e)
found_at c (owed p ∷ cells) q e =
    by_zero (c p)
    (λ z. record {
      index = 0;
      place_is = place_stops c p cells z;
      within = omega arith;
      is_owed_lem = ap owed (some_inj p q (sym (scan_stops c p cells z) ∙ e));
      none_before = refl;
      uncovered = scan_stops c p [] z ∙ sym (scan_stops c p cells z) ∙ e;
    })
    (λ u. passes c (update c p (c p - 1)) (owed p) cells q (place_goes_on c p cells u)
    (λ rest. scan_goes_on c p rest u)
    (found_at (update c p (c p - 1)) cells q (sym (scan_goes_on c p cells u) ∙ e)))

pub place_of_the_queue : (c : ℕ → ℕ) (cells : List Cell) (q : ℕ) → refill_queue c cells ≡ some q
    → FirstUncovered c cells q (refill_place c cells)
place_of_the_queue c cells q e =
    let f = found_at c cells q e in
    let i : refill_place c cells - 1 ≡ f.index = omega (arith, f.place_is) in
    record {
      at_least_1 = omega (arith, f.place_is);
      within = omega (arith, f.place_is, f.within);
      is_owed_lem = ap (λ (k : ℕ). get_or cells k empty) i ∙ f.is_owed_lem;
      none_before = ap (λ (k : ℕ). refill_queue c (take k cells)) i ∙ f.none_before;
      uncovered = ap (λ (k : ℕ). refill_queue c (take k cells)) f.place_is ∙ f.uncovered;
    }

pub place_within : (c : ℕ → ℕ) (cells : List Cell) → refill_place c cells ≤ length cells
place_within c cells =
    by_option (refill_queue c cells)
    (λ e. omega (arith, place_none c cells e))
    (λ q e. (place_of_the_queue c cells q e).within)

-- Of a state, in whatever phase: the cell that the queue to read is for, and 0 where none is read.
pub read_place : (x : State) (q : ℕ) → queue_to_read x ≡ some q
    → FirstUncovered (head_bytes x) x.cells q (slots_to_refill x)
read_place x q e =
    by_test (moves x)
    (λ t. rw t (place_of_the_queue (head_bytes x) x.cells q (sym (move_reads_scan x t) ∙ e)))
    (λ t. absurd (none_not_some q (sym (no_move_no_read x t) ∙ e)))

pub no_read_no_place : (x : State) → queue_to_read x ≡ none → slots_to_refill x ≡ 0
no_read_no_place x e =
    by_test (moves x)
    (λ t. rw t (place_none (head_bytes x) x.cells (sym (move_reads_scan x t) ∙ e)))
    (λ t. rw t)

pub slots_to_refill_within : (x : State) → slots_to_refill x ≤ length x.cells
slots_to_refill_within x =
    by_test (moves x)
    (λ t. rw t (place_within (head_bytes x) x.cells))
    (λ t. rw t (omega arith))

-- The choice of a state: at phase b - 1 that of the scan, and else none.
pub move_refills : (x : State) → moves x ≡ true → refill_of x ≡ refill_by (head_bytes x) x.cells
move_refills x t = rw t

pub no_move_no_refill : (x : State) → moves x ≡ false → refill_of x ≡ no_refill
no_move_no_refill x t = rw t

-- Places on and on.
pub places_on_on : (j k n : ℕ) → places_on j (places_on k n) ≡ places_on (j + k) n
places_on_on j k zero = refl
places_on_on j k (suc n) = go (suc n + k) (omega arith)
  where
    go : (m : ℕ) → m ≡ suc (n + k) → places_on j m ≡ suc n + (j + k)
    go zero e = absurd (omega (arith, e))
    go (suc m) e = omega (arith, e)

pub onward-on : (j k : ℕ) (r : Refill) → onward j (onward k r) ≡ onward (j + k) r
onward-on j k r = ap (λ (n : ℕ). record { queue = r.queue; slots_left = n }) (places_on_on j k r.slots_left)

pub places_on_none : (n : ℕ) → places_on 0 n ≡ n
places_on_none zero = refl
places_on_none (suc n) = omega arith
