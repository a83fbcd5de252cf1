-- The frames of what is left of a capture, record by record, with no count of steps. A record that is good has a byte
-- or more and no more than there are, so that what is left is shorter each time, and any count of steps from the length
-- on answers the same.
use mathlib.Core.Path.{◌≡◌, refl, ap}
use mathlib.Core.Bool.{true, false}
use mathlib.Core.List.{List, [], ◌∷◌}
use mathlib.Core.Option.{some, none}
use Prim.Native.Nat.{ℕ, zero, suc, ◌+◌, ◌≤◌}
use native.Mathlib.Omega.{arith}
use lib.Dec.{eqb}
use lib.ListN.{length, drop, length-drop}
use lib.Seq.{length-take-le}
use borrow.Author.Tests.{leb-true, le-leb, eq-eqb, ne_eqb}
use Rattle.model.proofs.basics.Tests.{by_test}
use Rattle.model.proofs.basics.AllOf.{all_true_at}
use Rattle.capture_frames.specs.Frames.{record_head, captured_in, most_captured, record_tests, record_good, frame_in}
use Rattle.capture_frames.specs.Frames.{after_record, with_frame, frames_within, frames_from}

-- A good record as facts, and back.
pub record GoodRecord (rest : List ℕ) : Type 0 where
  pub head_there : record_head ≤ length rest
  pub not_too_long : captured_in rest ≤ most_captured
  pub all_there : record_head + captured_in rest ≤ length rest

pub good_record : (rest : List ℕ) → record_good rest ≡ true → GoodRecord rest
good_record rest t = record {
  head_there = leb-true record_head (length rest) (all_true_at (record_tests rest) 0 t);
  not_too_long = leb-true (captured_in rest) most_captured (all_true_at (record_tests rest) 1 t);
  all_there = leb-true (record_head + captured_in rest) (length rest) (all_true_at (record_tests rest) 2 t);
}

pub record-good : (rest : List ℕ) → GoodRecord rest → record_good rest ≡ true
record-good rest w =
    rw (
      le-leb record_head (length rest) w.head_there,
      le-leb (captured_in rest) most_captured w.not_too_long,
      le-leb (record_head + captured_in rest) (length rest) w.all_there,
    )

-- Its frame has as many bytes as its head tells.
pub frame_length : (rest : List ℕ) → GoodRecord rest → length (frame_in rest) ≡ captured_in rest
frame_length rest w =
    length-take-le (captured_in rest) (drop record_head rest) (omega (arith, w.all_there, length-drop record_head rest))

-- What is left behind a good record is shorter.
pub shorter : (rest : List ℕ) → record_good rest ≡ true → 16 + length (after_record rest) ≤ length rest
shorter rest t = omega (arith, (good_record rest t).all_there, length-drop (record_head + captured_in rest) rest)

-- Any two counts of steps from the length on answer the same.
steps_enough : (steps more : ℕ) (rest : List ℕ) → length rest ≤ steps → length rest ≤ more
    → frames_within steps rest ≡ frames_within more rest
steps_enough zero zero rest h k = refl
steps_enough zero (suc more) rest h k = rw (eq-eqb (length rest) 0 (omega arith))
steps_enough (suc steps) zero rest h k = rw (eq-eqb (length rest) 0 (omega arith))
steps_enough (suc steps) (suc more) rest h k =
    by_test (eqb (length rest) 0)
    (λ t. rw t)
    (λ t. by_test (record_good rest)
    (λ u. rw (t, u) (ap (with_frame (frame_in rest)) (steps_enough steps more (after_record rest)
    (omega (arith, shorter rest u)) (omega (arith, shorter rest u)))))
    (λ u. rw (t, u)))

-- No bytes, no frames; a good record, its frame and those behind it; and else a fault.
pub frames_end : (rest : List ℕ) → length rest ≡ 0 → frames_from rest ≡ some []
unfolding frames_from
frames_end [] e = refl
frames_end (x ∷ rest) e = absurd (omega arith)

pub frames_next : (rest : List ℕ) → (length rest ≡ 0 → ⊥) → record_good rest ≡ true
    → frames_from rest ≡ with_frame (frame_in rest) (frames_from (after_record rest))
unfolding frames_from
frames_next [] some_left t = absurd (some_left refl)
frames_next (x ∷ rest) some_left t =
    rw (ne_eqb (length (x ∷ rest)) 0 some_left, t)
    (ap (with_frame (frame_in (x ∷ rest)))
    (steps_enough (length rest) (length (after_record (x ∷ rest))) (after_record (x ∷ rest))
    (omega (arith, shorter (x ∷ rest) t)) (omega arith)))

pub frames_fault : (rest : List ℕ) → (length rest ≡ 0 → ⊥) → record_good rest ≡ false → frames_from rest ≡ none
unfolding frames_from
frames_fault [] some_left t = absurd (some_left refl)
frames_fault (x ∷ rest) some_left t = rw (ne_eqb (length (x ∷ rest)) 0 some_left, t)
