-- A header's tests: the library's comparison of a slice's start is the definition's.
use mathlib.Core.Path.{◌≡◌, refl, ap}
use mathlib.Core.Bool.{Bool, true, false, ◌&&◌}
use mathlib.Core.List.{List, [], ◌∷◌}
use Prim.Native.Nat.{ℕ, ◌≤◌, ◌<◌}
use lib.Dec.{eqb}
use lib.ListN.{length, drop}
use borrow.Author.Tests.{lt-leb, le-leb}
use Rattle.std.specs.List as slices
use Rattle.model.proofs.basics.Tests.{by_test}
use Rattle.model.proofs.basics.AllOf.{all_true_not}
use Rattle.capture_frames.specs.Frames.{starts_with, first_bytes, link_type, header_tests, header_good}

pub same_start : (expected bytes : List ℕ) → slices.starts_with eqb bytes expected ≡ starts_with expected bytes
same_start [] bytes = refl
same_start (x ∷ expected) [] = refl
same_start (x ∷ expected) (y ∷ bytes) = ap (λ (t : Bool). eqb x y && t) (same_start expected bytes)

-- A header's tests, in the order of the code.
pub header_short : (capture : List ℕ) → length capture < 24 → header_good capture ≡ false
header_short capture h = all_true_not (header_tests capture) 0 (lt-leb 24 (length capture) h)

pub header_other : (capture : List ℕ) → starts_with first_bytes capture ≡ false → header_good capture ≡ false
header_other capture t = all_true_not (header_tests capture) 1 t

pub header_read : (capture : List ℕ) → 24 ≤ length capture → starts_with first_bytes capture ≡ true
    → header_good capture ≡ starts_with link_type (drop 20 capture)
header_read capture h t =
    rw (le-leb 24 (length capture) h, t) (by_test (starts_with link_type (drop 20 capture)) (λ u. rw u) (λ u. rw u))
