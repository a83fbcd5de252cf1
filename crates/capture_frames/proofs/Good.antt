-- A capture that is good for its sizes, so that none of 1, 19, 17 and 18 comes, as facts: `good_capture`. Where a test
-- found something, its number would have come.
use mathlib.Core.Path.{◌≡◌, refl}
use mathlib.Core.Bool.{true, false}
use mathlib.Core.List.{List}
use mathlib.Core.Option.{Option, some, none}
use Prim.Native.Nat.{ℕ, suc, ◌≤◌}
use native.Mathlib.Omega.{arith}
use lib.Dec.{ltb}
use lib.ListN.{length}
use borrow.Author.Tests.{leb-true, ltb-true, ltb-false}
use Rattle.model.specs.Sizes.{Sizes, accepts, paper_limits}
use Rattle.model.proofs.basics.Tests.{by_test, true_not_false}
use Rattle.model.proofs.basics.AllOf.{all_true_at}
use Rattle.capture_frames.specs.Frames.{header_bytes, header_tests, header_good, frames_in}
use Rattle.capture_frames.specs.Script.{or_none, frames_of, faulty, capture_fault}
use Rattle.capture_frames.proofs.Order.{answers-1, answers-19, answers-17, answers-18}

pub record GoodCapture (s : Sizes) (capture : List ℕ) : Type 0 where
  pub accepted : accepts paper_limits s ≡ true
  pub eight_queues : 8 ≤ s.Q
  pub header_there : header_bytes ≤ length capture
  pub header_good : header_good capture ≡ true
  pub frames_there : frames_in capture ≡ some (frames_of capture)

frames_of_some : (o : Option (List (List ℕ))) → faulty o ≡ false → o ≡ some (or_none o)
frames_of_some none e = absurd (true_not_false true refl e)
frames_of_some (some frames) e = refl

pub good_capture : (s : Sizes) (capture : List ℕ) → capture_fault s capture ≡ 0 → GoodCapture s capture
good_capture s capture e = record {
  accepted = sizes-good;
  eight_queues = many;
  header_there = leb-true header_bytes (length capture) (all_true_at (header_tests capture) 0 header);
  header_good = header;
  frames_there = frames_of_some (frames_in capture) records_good;
}
  where
    -- No number above 0 has come.
    not_so : {A : Type 0} {n : ℕ} → capture_fault s capture ≡ suc n → A
    not_so f = absurd (omega (arith, e, f))

    sizes-good : accepts paper_limits s ≡ true
    sizes-good = by_test (accepts paper_limits s) (λ t. t) (λ t. not_so (answers-1 s capture t))

    many : 8 ≤ s.Q
    many =
        by_test (ltb s.Q 8)
        (λ t. not_so (answers-19 s capture sizes-good (ltb-true s.Q 8 t)))
        (λ t. ltb-false s.Q 8 t)

    header : header_good capture ≡ true
    header = by_test (header_good capture) (λ t. t) (λ t. not_so (answers-17 s capture sizes-good many t))

    records_good : faulty (frames_in capture) ≡ false
    records_good =
        by_test (faulty (frames_in capture))
        (λ t. not_so (answers-18 s capture sizes-good many header t))
        (λ t. t)
