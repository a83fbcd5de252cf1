-- The margin and the scan agree: a queue's margin is below zero exactly where one of its Owed cells is uncovered, and
-- the scan stops at a queue exactly where some margin is below zero. `below_zero_uncovered`, `uncovered-below_zero`,
-- `scan_critical` and `critical-scan` say it.
use mathlib.Core.Path.{◌≡◌, refl, ap, sym, ◌∙◌}
use mathlib.Core.Bool.{Bool, true, false, cond}
use mathlib.Core.List.{List, [], ◌∷◌}
use mathlib.Core.Option.{some, none}
use Prim.Native.Nat.{ℕ, zero, suc, ◌+◌, ◌-◌, ◌<◌, ◌≤◌}
use native.Mathlib.Omega.{arith}
use lib.Dec.{eqb, ltb}
use lib.IntN.{pos, negsuc, ◌-ℤ◌}
use lib.Signed.{lt_z}
use lib.ListN.{take, get_elem?}
use borrow.Author.Tests.{eqb-true, ltb-true, lt-ltb, le-ltb}
use Rattle.model.specs.State.{Cell, empty, held, owed, State, owes, owed_of, head_bytes, owed_cells, critical}
use Rattle.model.specs.Slot.{refill_queue}
use Rattle.model.proofs.basics.Tests.{by_test, by_zero, by_option, eqb_same, none_not_some, some_inj}
use Rattle.model.proofs.basics.Tests.{true_not_false}
use Rattle.model.proofs.meaning.Scan.{scan_some, scan_none}

-- Below zero: fewer head bytes than Owed cells.
sign_of : (t : Bool) (m n : ℕ) → lt_z (cond t (negsuc m) (pos n)) (pos 0) ≡ t
sign_of true m n = refl
sign_of false m n = le-ltb n 0 (omega arith)

below_zero : (head owe : ℕ) → lt_z (pos head -ℤ pos owe) (pos 0) ≡ ltb head owe
below_zero head zero = le-ltb (head + 0) 0 (omega arith) ∙ sym (le-ltb head 0 (omega arith))
below_zero head (suc owe) = sign_of (ltb head (suc owe)) (suc owe - suc head) (head - suc owe)

pub critical-is : (x : State) (q : ℕ) → critical x q ≡ ltb (head_bytes x q) (owed_cells x q)
critical-is x q = below_zero (head_bytes x q) (owed_cells x q)

-- A cell is uncovered where it is Owed and the Owed cells of its queue before it use up the queue's head bytes.
pub record Uncovered (x : State) (q i : ℕ) : Type 0 where
  pub is_owed_lem : get_elem? x.cells i ≡ some (owed q)
  pub used_up : head_bytes x q ≤ owed_of q (take i x.cells)

-- Among more Owed cells than h there is one with h before it.
later : (c : Cell) (cells : List Cell) (q h k : ℕ) → h ≡ owes q c + k
    → (i : ℕ) × (get_elem? cells i ≡ some (owed q)) × (k ≡ owed_of q (take i cells))
    → (i : ℕ) × (get_elem? (c ∷ cells) i ≡ some (owed q)) × (h ≡ owed_of q (take i (c ∷ cells)))
later c cells q h k e (i, at, before) = (suc i, at, omega (arith, before))

one_more : (h : ℕ) (cells : List Cell) (q : ℕ) → h < owed_of q cells
    → (i : ℕ) × (get_elem? cells i ≡ some (owed q)) × (h ≡ owed_of q (take i cells))
one_more h [] q l = absurd (omega arith)
one_more h (empty ∷ cells) q l = later empty cells q h h (omega arith) (one_more h cells q (omega arith))
one_more h (held p v ∷ cells) q l = later (held p v) cells q h h (omega arith) (one_more h cells q (omega arith))
one_more h (owed p ∷ cells) q l =
    by_test (eqb p q)
    (λ t. by_zero h
    (λ z. (0, ap (λ (i : ℕ). some (owed i)) (eqb-true p q t), z))
    (λ u. later (owed p) cells q h (h - 1) (rw t (omega arith))
    (one_more (h - 1) cells q (omega (arith, rw t at l)))))
    (λ t. later (owed p) cells q h h (rw t (omega arith)) (one_more h cells q (omega (arith, rw t at l))))

owed_cell_counts : (cells : List Cell) (i q : ℕ) → get_elem? cells i ≡ some (owed q)
    → owed_of q (take i cells) < owed_of q cells
owed_cell_counts [] i q e = absurd (none_not_some (owed q) e)
owed_cell_counts (c ∷ cells) zero q e =
    rw (some_inj c (owed q) e) (rw (eqb_same q) (omega arith))
owed_cell_counts (c ∷ cells) (suc i) q e = omega (arith, owed_cell_counts cells i q e)

pub below_zero_uncovered : (x : State) (q : ℕ) → critical x q ≡ true → (i : ℕ) × Uncovered x q i
below_zero_uncovered x q e =
    let found = one_more (head_bytes x q) x.cells q
    (ltb-true (head_bytes x q) (owed_cells x q) (sym (critical-is x q) ∙ e)) in
    (found.0, record { is_owed_lem = found.1; used_up = omega (arith, found.2) })

pub uncovered-below_zero : (x : State) (q i : ℕ) → Uncovered x q i → critical x q ≡ true
uncovered-below_zero x q i u =
    critical-is x q
    ∙ lt-ltb (head_bytes x q) (owed_cells x q) (omega (arith, u.used_up, owed_cell_counts x.cells i q u.is_owed_lem))

-- The scan stops at a critical queue, and finds none exactly where no queue is critical.
pub scan_critical : (x : State) (q : ℕ) → refill_queue (head_bytes x) x.cells ≡ some q → critical x q ≡ true
scan_critical x q e =
    critical-is x q ∙ lt-ltb (head_bytes x q) (owed_cells x q) (scan_some (head_bytes x) x.cells q e)

pub scan_none_critical : (x : State) → refill_queue (head_bytes x) x.cells ≡ none → (q : ℕ) → critical x q ≡ false
scan_none_critical x e q =
    critical-is x q ∙ le-ltb (head_bytes x q) (owed_cells x q) (scan_none (head_bytes x) x.cells e q)

pub critical-scan : (x : State) (q : ℕ) → critical x q ≡ true
    → (p : ℕ) × (refill_queue (head_bytes x) x.cells ≡ some p)
critical-scan x q e =
    by_option (refill_queue (head_bytes x) x.cells)
    (λ n. absurd (true_not_false (critical x q) e (scan_none_critical x n q)))
    (λ p s. (p, s))
