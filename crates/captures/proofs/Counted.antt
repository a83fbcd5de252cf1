-- Records read: one turn of the loop that counts the bytes of all frames.
use mathlib.Core.Path.{◌≡◌, refl, sym, ap, ◌∙◌}
use mathlib.Core.Bool.{true, false}
use mathlib.Core.List.{List}
use mathlib.Core.Option as maybe
use mathlib.Core.Option.{some, none}
use Prim.Native.Nat.{ℕ, ◌+◌, ◌≤◌}
use native.Mathlib.Omega.{arith}
use lib.ListN.{length, drop, length-drop, length-append}
use Rattle.std.specs.Prelude.{Option, Some, None}
use Rattle.capture_frames.specs.Frames.{captured_in, record_good, frame_in}
use Rattle.capture_frames.specs.Frames.{after_record, with_frame, frames_from}
use Rattle.capture_frames.specs.Sentences.{captured_bytes}
use Rattle.capture_frames.proofs.Records.{good_record, frame_length, frames_end, frames_next, frames_fault}
use Rattle.captures.specs.Says.{measured_of}

-- The bytes of frames counted up to a place, and what is left from there on.
abbrev plus : ℕ → Option ℕ → Option ℕ
plus n None = None
plus n (Some m) = Some (n + m)

pub record MeasuredTo (records rest : List ℕ) (bytes : ℕ) : Type 0 where
  pub few : bytes + length rest ≤ length records
  pub total_is : measured_of (frames_from records) ≡ plus bytes (measured_of (frames_from rest))

-- A frame more is its bytes more.
frame_more : (frame : List ℕ) (o : maybe.Option (List (List ℕ)))
    → measured_of (with_frame frame o) ≡ plus (length frame) (measured_of o)
frame_more frame none = refl
frame_more frame (some frames) = ap Some (length-append frame (captured_bytes frames))

plus_plus : (n m : ℕ) (o : Option ℕ) → plus n (plus m o) ≡ plus (n + m) o
plus_plus n m None = refl
plus_plus n m (Some k) = ap Some (omega arith)

module _ {records rest : List ℕ} {bytes : ℕ} (w : MeasuredTo records rest bytes) where
  pub measure_refuses : (length rest ≡ 0 → ⊥) → record_good rest ≡ false → None ≡ measured_of (frames_from records)
  measure_refuses some_left t = sym (w.total_is ∙ rw (frames_fault rest some_left t))

  -- A good record leaves less by its own length, which the code has as a number.
  module _ (some_left : length rest ≡ 0 → ⊥) (t : record_good rest ≡ true) {n : ℕ} (is_n : n ≡ captured_in rest) where
    pub record_within : 16 + n ≤ length rest
    record_within = omega (arith, is_n, (good_record rest t).all_there)

    pub measure_goes_on : MeasuredTo records (drop (16 + n) rest) (bytes + n)
    measure_goes_on = record {
      few = omega (arith, w.few, record_within, length-drop (16 + n) rest);
      total_is =
          w.total_is
          ∙ ap (λ (o : maybe.Option (List (List ℕ))). plus bytes (measured_of o)) (frames_next rest some_left t)
          ∙ ap (plus bytes) (frame_more (frame_in rest) (frames_from (after_record rest)))
          ∙ plus_plus bytes (length (frame_in rest)) (measured_of (frames_from (after_record rest)))
          ∙ rw (frame_length rest (good_record rest t), ← is_n);
    }

  pub measure_ends : length rest ≡ 0 → Some bytes ≡ measured_of (frames_from records)
  measure_ends done = sym (w.total_is ∙ rw (frames_end rest done) (ap Some (omega arith)))
