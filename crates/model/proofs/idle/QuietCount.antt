-- How many idle slots are surely quiet, from what is cheap to know of a state: the empty cells that lead, and whether
-- a move is due. The slots so counted are quiet: where some cell is not empty they are a shift, where all are a turn.
-- `counted_shift` and `counted_turn` say it.
use mathlib.Core.Path.{◌≡◌, refl, ap, subst}
use mathlib.Core.Bool.{Bool, true, false}
use mathlib.Core.List.{List, [], ◌∷◌}
use Prim.Native.Nat.{ℕ, zero, suc, ◌+◌, ◌-◌, ◌≤◌, ◌<◌, min}
use native.Mathlib.Omega.{arith}
use lib.Dec.{eqb}
use lib.ListN.{length, drop, replicate, get_or}
use borrow.Author.Tests.{eq-eqb, ne_eqb}
use Rattle.model.specs.Sizes.{Sizes, Limits, full, lookahead, store_bytes}
use Rattle.model.specs.State.{Cell, empty, held, owed, State, owes, owed_of, tail_bytes, head_bytes}
use Rattle.model.specs.Slot.{fullest, refill_queue}
use Rattle.model.specs.Idle.{turned, quietly, NothingToMove, Quiet, leading_empties, move_due, quiet_of}
use Rattle.model.proofs.basics.Tests.{by_test, by_option, true_not_false}
use Rattle.model.proofs.basics.Cells.{owed_append, owed_empties}
use Rattle.model.proofs.one_slot.Rules.{Keeps}
use Rattle.model.proofs.idle.QuietSlots.{PassedQuietly, quiet_slots}
use Rattle.model.proofs.idle.EmptySlots.{shift_is_turn, empty_slots}

-- The cells that are counted as empty are.
pub leading_within : (cells : List Cell) → leading_empties cells ≤ length cells
leading_within [] = omega arith
leading_within (empty ∷ cells) = omega (arith, leading_within cells)
leading_within (held q v ∷ cells) = omega arith
leading_within (owed q ∷ cells) = omega arith

pub leading_empty : (cells : List Cell) (i : ℕ) → i < leading_empties cells → get_or cells i empty ≡ empty
leading_empty [] i l = refl
leading_empty (empty ∷ cells) zero l = refl
leading_empty (empty ∷ cells) (suc i) l = leading_empty cells i (omega (arith, l))
leading_empty (held q v ∷ cells) i l = absurd (omega (arith, l))
leading_empty (owed q ∷ cells) i l = absurd (omega (arith, l))

-- The scan may start behind them.
pub scan_past_empties : (credits : ℕ → ℕ) (cells : List Cell)
    → refill_queue credits (drop (leading_empties cells) cells) ≡ refill_queue credits cells
scan_past_empties credits [] = refl
scan_past_empties credits (empty ∷ cells) = scan_past_empties credits cells
scan_past_empties credits (held q v ∷ cells) = refl
scan_past_empties credits (owed q ∷ cells) = refl

-- Where no move is due, there is nothing to move.
pub nothing-due : (x : State) → move_due x.sizes (tail_bytes x) (head_bytes x) x.cells ≡ false → NothingToMove x
nothing-due x e =
    by_option (fullest x.sizes.b (tail_bytes x) x.sizes.Q)
    (λ no_write. by_option (refill_queue (head_bytes x) x.cells)
    (λ no_read. record { none_to_write = no_write; none_to_read = no_read })
    (λ q some_read. absurd (true_not_false _ (rw (no_write, some_read)) e)))
    (λ q some-write. absurd (true_not_false _ (rw some-write) e))

-- No more than there are.
pub counted_within : (s : Sizes) (phase empties : ℕ) (due : Bool) (n : ℕ) → quiet_of s phase empties due n ≤ n
counted_within s phase empties true n = omega arith
counted_within s phase empties false n =
    by_test (eqb empties (lookahead s)) (λ t. rw t (omega arith)) (λ t. rw t (omega arith))

-- Quiet slots leave each queue's Owed cells as they were.
owed_past : (q m : ℕ) (cells : List Cell) → ((i : ℕ) → i < m → get_or cells i empty ≡ empty)
    → owed_of q (drop m cells) ≡ owed_of q cells
owed_past q zero cells h = refl
owed_past q (suc m) [] h = refl
owed_past q (suc m) (cell ∷ cells) h =
    omega (
      arith,
      owed_past q m cells (λ i l. h (suc i) (omega (arith, l))),
      ap (owes q) (h 0 (omega arith)),
    )

pub owed_quietly : (q m : ℕ) (x : State) → Quiet m x → owed_of q (quietly m x).cells ≡ owed_of q x.cells
owed_quietly q m x quiet =
    omega (
      arith,
      owed_append q (drop m x.cells) (replicate m empty),
      owed_empties m q,
      owed_past q m x.cells quiet.empties,
    )

-- The slots that `quiet_of` counts are quiet: where some cell is not empty, a shift; where all are, a turn.
module _ (limits : Limits) (x : State) (store : List ℕ) (kept : Keeps (full limits) x)
    (long : store_bytes x.sizes ≤ length store) (due : Bool) (not-due : due ≡ false → NothingToMove x) (n : ℕ) where
  abbrev leading : ℕ
  leading = leading_empties x.cells

  abbrev counted : ℕ
  counted = quiet_of x.sizes x.phase leading due n

  cells_are : length x.cells ≡ lookahead x.sizes
  cells_are = kept.within.cells_long

  -- So many cells lead, and no block moves.
  quiet_if : (m : ℕ) → m ≤ leading → (x.sizes.b ≤ x.phase + m → NothingToMove x) → Quiet m x
  quiet_if m h still = record {
    within = omega (arith, h, leading_within x.cells);
    empties = λ i l. leading_empty x.cells i (omega (arith, h, l));
    still = still;
  }

  quiet_before : (m : ℕ) → m ≤ leading → m ≤ x.sizes.b - 1 - x.phase → Quiet m x
  quiet_before m h k = quiet_if m h (λ l. absurd (omega (arith, k, l, kept.phase_ok)))

  pub counted_quiet : leading < lookahead x.sizes → Quiet counted x
  counted_quiet some-full = go due refl
    where
      go : (t : Bool) → due ≡ t → Quiet (quiet_of x.sizes x.phase leading t n) x
      go true e = quiet_before _ (omega arith) (omega arith)
      go false e =
          rw (ne_eqb leading (lookahead x.sizes) (λ all. omega (arith, all, some-full)))
          (quiet_if (min n leading) (omega arith) (λ l. not-due e))

  pub counted_shift : leading < lookahead x.sizes → PassedQuietly (full limits) x store counted (quietly counted x)
  counted_shift some-full = quiet_slots (full limits) counted x store kept long (counted_quiet some-full)

  pub counted_turn : leading ≡ lookahead x.sizes → PassedQuietly (full limits) x store counted (turned counted x)
  counted_turn all = go due refl
    where
      all_empty : (i : ℕ) → i < length x.cells → get_or x.cells i empty ≡ empty
      all_empty i l = leading_empty x.cells i (omega (arith, l, all, cells_are))

      go : (t : Bool) → due ≡ t → let m = quiet_of x.sizes x.phase leading t n in
          PassedQuietly (full limits) x store m (turned m x)
      go true e =
          let m = min n (min leading (x.sizes.b - 1 - x.phase)) in
          subst (PassedQuietly (full limits) x store m)
          (shift_is_turn x all_empty m (omega (arith, leading_within x.cells)))
          (quiet_slots (full limits) m x store kept long (quiet_before m (omega arith) (omega arith)))
      go false e =
          rw (eq-eqb leading (lookahead x.sizes) all)
          (empty_slots (full limits) n x store (omega arith) kept long
          (record { all_empty = all_empty; none_to_write = (not-due e).none_to_write }))
