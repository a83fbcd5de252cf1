-- A good header is the one named, byte by byte, and the other way round.
use mathlib.Core.Path.{◌≡◌, refl, sym}
use mathlib.Core.Bool.{true}
use mathlib.Core.List.{List, [], ◌∷◌}
use Prim.Native.Nat.{ℕ}
use native.Mathlib.Omega.{arith}
use lib.Dec.{eqb}
use lib.ListN.{length, take, drop}
use borrow.Author.Tests.{leb-true, le-leb, eqb-true, eq-eqb}
use Rattle.model.proofs.basics.Tests.{and_left, and_right, and_both}
use Rattle.model.proofs.basics.AllOf.{all_true_at}
use Rattle.capture_frames.specs.Frames.{starts_with, first_bytes, link_type, header_tests, header_good}
use Rattle.capture_frames.specs.Sentences.{NamedHeader}

-- Bytes that a list begins with are its first ones.
begins : (expected bytes : List ℕ) → starts_with expected bytes ≡ true → take (length expected) bytes ≡ expected
begins [] bytes t = refl
begins (x ∷ expected) [] t = absurd (let z : ◌≡◌ {A = ℕ} 0 1 = cc in omega arith)
begins (x ∷ expected) (y ∷ bytes) t =
    rw (
      ← eqb-true x y (and_left (eqb x y) (starts_with expected bytes) t),
      begins expected bytes (and_right (eqb x y) (starts_with expected bytes) t),
    )

begun : (expected bytes : List ℕ) → take (length expected) bytes ≡ expected → starts_with expected bytes ≡ true
begun [] bytes e = refl
begun (x ∷ expected) [] e = absurd (let z : ◌≡◌ {A = ℕ} 0 1 = cc in omega arith)
begun (x ∷ expected) (y ∷ bytes) e =
    let same : y ≡ x = cc in
    let others : take (length expected) bytes ≡ expected = cc in
    and_both (eqb x y) (starts_with expected bytes) (eq-eqb x y (sym same)) (begun expected bytes others)

pub good_is_named : (capture : List ℕ) → header_good capture ≡ true → NamedHeader capture
good_is_named capture t = record {
  all_there = leb-true 24 (length capture) (all_true_at (header_tests capture) 0 t);
  first_are = begins first_bytes capture (all_true_at (header_tests capture) 1 t);
  link_is = begins link_type (drop 20 capture) (all_true_at (header_tests capture) 2 t);
}

pub named_is_good : (capture : List ℕ) → NamedHeader capture → header_good capture ≡ true
named_is_good capture w =
    rw (
      le-leb 24 (length capture) w.all_there,
      begun first_bytes capture w.first_are,
      begun link_type (drop 20 capture) w.link_is,
    )
