-- Where all cells are empty and no queue has a block of tail bytes, any number of idle slots only turn the phase: a
-- shift of empty cells changes none of them. `empty_slots` says it.
use mathlib.Core.Path.{◌≡◌, refl, ap, sym, ◌∙◌, subst}
use mathlib.Core.List.{List, ◌++◌}
use mathlib.Core.Option.{none}
use Prim.Native.Nat.{ℕ, zero, suc, ◌+◌, ◌-◌, ◌%◌, ◌≤◌, ◌<◌}
use native.Mathlib.Omega.{arith}
use lib.ListN.{length, drop, replicate, get_or, length-replicate, get_or-replicate, replicate-append-replicate}
use lib.Seq.{drop_at, ext_get_or}
use Rattle.model.specs.Sizes.{Design, store_bytes}
use Rattle.model.specs.State.{Cell, empty, State, head_bytes, with_phase, with_cells}
use Rattle.model.specs.Slot.{refill_queue}
use Rattle.model.specs.Idle.{turned, quietly, Quiet, AllQuiet}
use Rattle.model.proofs.one_slot.Rules.{Keeps}
use Rattle.model.proofs.idle.QuietSlot.{phase_stays, quiet_answer, quiet_slot}
use Rattle.model.proofs.idle.QuietSlots.{PassedQuietly, none_passed, one_more, turned-twice, kept_quietly}

-- Where all cells are empty, a shift changes none of them and the scan finds nothing.
empties_are : (cells : List Cell) → ((i : ℕ) → i < length cells → get_or cells i empty ≡ empty)
    → cells ≡ replicate (length cells) empty
empties_are cells h =
    ext_get_or empty cells (replicate (length cells) empty) (sym (length-replicate (length cells) empty))
    (λ i l. h i l ∙ sym (get_or-replicate (length cells) i empty empty l))

scan_empties : (credits : ℕ → ℕ) (n : ℕ) → refill_queue credits (replicate n empty) ≡ none
scan_empties credits zero = refl
scan_empties credits (suc n) = scan_empties credits n

shifted_empties : (m n : ℕ) → m ≤ n → drop m (replicate n empty) ++ replicate m empty ≡ replicate n empty
shifted_empties m n h =
    ap (λ (cells : List Cell). drop m cells ++ replicate m empty) (parts m (n - m) (omega (arith, h)))
    ∙ ap (λ (cells : List Cell). cells ++ replicate m empty)
    (drop_at (replicate m empty) (replicate (n - m) empty) m (length-replicate m empty))
    ∙ sym (parts (n - m) m (omega (arith, h)))
  where
    parts : (i j : ℕ) → n ≡ i + j → replicate n empty ≡ replicate i empty ++ replicate j empty
    parts i j e = ap (λ (k : ℕ). replicate k empty) e ∙ sym (replicate-append-replicate i j empty)

module _ (x : State) (all_empty : (i : ℕ) → i < length x.cells → get_or x.cells i empty ≡ empty) where
  none_owed : refill_queue (head_bytes x) x.cells ≡ none
  none_owed =
      ap (refill_queue (head_bytes x)) (empties_are x.cells all_empty)
      ∙ scan_empties (head_bytes x) (length x.cells)

  pub shift_is_turn : (m : ℕ) → m ≤ length x.cells → quietly m x ≡ turned m x
  shift_is_turn m h =
      ap (λ (cells : List Cell). with_cells cells (turned m x))
      (ap (λ (cells : List Cell). drop m cells ++ replicate m empty) (empties_are x.cells all_empty)
      ∙ shifted_empties m (length x.cells) h
      ∙ sym (empties_are x.cells all_empty))

one_quiet : (x : State) → 1 ≤ length x.cells → AllQuiet x → Quiet 1 x
one_quiet x some_cell quiet = record {
  within = some_cell;
  empties = λ i l. quiet.all_empty i (omega (arith, l, some_cell));
  still = λ l. record {
    none_to_write = quiet.none_to_write;
    none_to_read = none_owed x quiet.all_empty;
  };
}

turned-plus : (m : ℕ) (x : State) → turned m (turned 1 x) ≡ turned (suc m) x
turned-plus m x =
    ap (λ (phase : ℕ). with_phase phase x)
    (turned-twice x.sizes.b x.phase 1 m
    ∙ ap (λ (k : ℕ). (x.phase + k) % x.sizes.b) (let e : 1 + m ≡ suc m = omega arith in e))

-- Any number of idle slots where all cells are empty and no queue has a block of tail bytes.
module _ (design : Design) where
  pub empty_slots : (m : ℕ) (x : State) (store : List ℕ) → 1 ≤ design.cell_count x.sizes
      → Keeps design x → store_bytes x.sizes ≤ length store → AllQuiet x
      → PassedQuietly design x store m (turned m x)
  empty_slots zero x store cells_ok kept long quiet =
      none_passed design x (turned 0 x) store
      (ap (λ (phase : ℕ). with_phase phase x) (phase_stays x kept.phase_ok)) kept
  empty_slots (suc m) x store cells_ok kept long quiet =
      one_more design x (turned 1 x) (turned (suc m) x) store m
      (quiet_slot design x store kept long first ∙ ap (λ (y : State). quiet_answer y store) once)
      (subst (PassedQuietly design (turned 1 x) store m) (turned-plus m x)
      (empty_slots m (turned 1 x) store cells_ok
      (subst (Keeps design) once (kept_quietly design x store kept long first)) long
      (record { all_empty = quiet.all_empty; none_to_write = quiet.none_to_write })))
    where
      some_cell : 1 ≤ length x.cells
      some_cell = omega (arith, cells_ok, kept.within.cells_long)

      first : Quiet 1 x
      first = one_quiet x some_cell quiet

      once : quietly 1 x ≡ turned 1 x
      once = shift_is_turn x quiet.all_empty 1 some_cell
