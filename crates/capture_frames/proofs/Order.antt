-- The answers in their order, each where those before it do not come: "19, Q below 8, tested first of the three; 1
-- comes before them and 16 after".
use mathlib.Core.Path.{◌≡◌}
use mathlib.Core.Bool.{true, false}
use mathlib.Core.List.{List}
use Prim.Native.Nat.{ℕ, suc, ◌≤◌, ◌<◌}
use lib.ListN.{length}
use borrow.Author.Tests.{lt-ltb, le-ltb}
use Rattle.model.specs.Sizes.{Sizes, accepts, paper_limits}
use Rattle.capture_frames.specs.Frames.{header_good, frames_in}
use Rattle.capture_frames.specs.Script.{capture_script, faulty, capture_fault, capture_number}

module _ (s : Sizes) (capture : List ℕ) where
  pub answers-1 : accepts paper_limits s ≡ false → capture_fault s capture ≡ 1
  answers-1 a = rw a

  module _ (a : accepts paper_limits s ≡ true) where
    pub answers-19 : s.Q < 8 → capture_fault s capture ≡ 19
    answers-19 few = rw (a, lt-ltb s.Q 8 few)

    module _ (many : 8 ≤ s.Q) where
      pub answers-17 : header_good capture ≡ false → capture_fault s capture ≡ 17
      answers-17 h = rw (a, le-ltb s.Q 8 many, h)

      module _ (h : header_good capture ≡ true) where
        pub answers-18 : faulty (frames_in capture) ≡ true → capture_fault s capture ≡ 18
        answers-18 f = rw (a, le-ltb s.Q 8 many, h, f)

        pub answers-none : faulty (frames_in capture) ≡ false → capture_fault s capture ≡ 0
        answers-none f = rw (a, le-ltb s.Q 8 many, h, f)

  -- 16 after them all.
  module _ (room : ℕ) where
    pub fault_first : {n : ℕ} → capture_fault s capture ≡ suc n → capture_number s capture room ≡ suc n
    fault_first e = rw e

    module _ (e : capture_fault s capture ≡ 0) where
      pub answers-16 : room < length (capture_script s capture) → capture_number s capture room ≡ 16
      answers-16 short = rw (e, lt-ltb room (length (capture_script s capture)) short)

      pub answers-0 : length (capture_script s capture) ≤ room → capture_number s capture room ≡ 0
      answers-0 enough = rw (e, le-ltb room (length (capture_script s capture)) enough)
