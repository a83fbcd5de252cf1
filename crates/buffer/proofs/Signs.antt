-- The sign of a difference of two counts: from zero on it is the difference itself, below zero the first count is the
-- smaller. So the margin says of a queue whether its head bytes are fewer than, as many as or more than its Owed cells.
use mathlib.Core.Path.{◌≡◌, ap, sym, ◌∙◌}
use Prim.Native.Nat.{ℕ, zero, suc, ◌-◌, ◌≤◌, ◌<◌}
use native.Mathlib.Omega.{arith}
use lib.Dec.{ltb}
use lib.IntN.{ℤ, pos, negsuc, ◌-ℤ◌}
use lib.Signed.{mag, lt_z}
use borrow.Author.Tests.{ltb-true, ltb-false, lt-ltb, le-ltb}
use Rattle.model.specs.State.{State, head_bytes, owed_cells, margin}
use Rattle.model.proofs.basics.Tests.{by_test, true_not_false}
use Rattle.model.proofs.meaning.Margin.{critical-is}
use Rattle.buffer.specs.OneStep.{MarginSays}

-- At or above zero, and below.
pub difference_up : (h o : ℕ) → o ≤ h → pos h -ℤ pos o ≡ pos (h - o)
difference_up h zero l = ap pos (omega arith)
difference_up h (suc o) l = rw (le-ltb h (suc o) l)

pub difference_down : (h o : ℕ) → h < o → pos h -ℤ pos o ≡ negsuc (o - suc h)
difference_down h zero l = absurd (omega arith)
difference_down h (suc o) l = rw (lt-ltb h (suc o) l)

zero_means_equal : (h o : ℕ) → pos h -ℤ pos o ≡ pos 0 → h ≡ o
zero_means_equal h o e =
    by_test (ltb h o)
    (λ t. absurd (true_not_false (lt_z (pos h -ℤ pos o) (pos 0))
    (ap (λ (z : ℤ). lt_z z (pos 0)) (difference_down h o (ltb-true h o t)))
    (ap (λ (z : ℤ). lt_z z (pos 0)) e ∙ le-ltb 0 0 (omega arith))))
    (λ t. let low : o ≤ h = omega (arith, ltb-false h o t) in
    omega (arith, ap mag (sym (difference_up h o low) ∙ e)))

above_means_more : (h o : ℕ) → lt_z (pos 0) (pos h -ℤ pos o) ≡ ltb o h
above_means_more h o =
    by_test (ltb h o)
    (λ t. ap (lt_z (pos 0)) (difference_down h o (ltb-true h o t)) ∙ sym (le-ltb o h (omega (arith, ltb-true h o t))))
    (λ t. let low : o ≤ h = omega (arith, ltb-false h o t) in
    ap (lt_z (pos 0)) (difference_up h o low)
    ∙ by_test (ltb o h)
    (λ u. lt-ltb 0 (h - o) (omega (arith, ltb-true o h u)) ∙ sym u)
    (λ u. le-ltb 0 (h - o) (omega (arith, ltb-false o h u)) ∙ sym u))

pub margin-says : (x : State) (q : ℕ) (r : ℤ) → r ≡ margin x q → MarginSays x q r
margin-says x q r value = record {
  value_is = value;
  is_critical = ap (λ (z : ℤ). lt_z z (pos 0)) value;
  below_zero = ap (λ (z : ℤ). lt_z z (pos 0)) value ∙ critical-is x q;
  at_zero = λ z. zero_means_equal (head_bytes x q) (owed_cells x q) (sym value ∙ z);
  zero_at = λ s.
      value
      ∙ difference_up (head_bytes x q) (owed_cells x q) (omega (arith, s))
      ∙ ap pos (omega (arith, s));
  above_zero = ap (lt_z (pos 0)) value ∙ above_means_more (head_bytes x q) (owed_cells x q);
}
