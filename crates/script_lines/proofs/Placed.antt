-- Bytes that are put one piece behind another stand as they would if all were put at once.
use mathlib.Core.Path.{◌≡◌, refl, ap, sym, ◌∙◌}
use mathlib.Core.List.{List, [], ◌∷◌, ◌++◌, append_assoc}
use Prim.Native.Nat.{ℕ, ◌+◌, ◌≤◌, ◌<◌}
use native.Mathlib.Numerals.{add-one}
use native.Mathlib.Omega.{arith}
use lib.ListN.{length, take, drop, set, length-append, length-take, take-append-drop}
use lib.Seq.{take_at, drop_at, drop-drop, set_split}
use Rattle.model.specs.Slot.{placed}
use Rattle.model.proofs.one_slot.Kept.{length-placed}
use Rattle.script_lines.specs.Says.{PutSays}

-- What stands before, in and behind the place that was written.
pub placed-none : (p : ℕ) (o : List ℕ) → placed p [] o ≡ o
placed-none p o = let e : p + 0 ≡ p = omega arith in rw (e, take-append-drop)

pub take-placed : (p : ℕ) (xs o : List ℕ) → p ≤ length o → take (p + length xs) (placed p xs o) ≡ take p o ++ xs
take-placed p xs o h =
    let e : length (take p o ++ xs) ≡ p + length xs = simp (length-append, length-take) (omega arith) in
    rw (← (append_assoc (take p o) xs (drop (p + length xs) o)))
    (take_at (take p o ++ xs) (drop (p + length xs) o) (p + length xs) e)

pub drop-placed : (p : ℕ) (xs o : List ℕ) → p ≤ length o
    → drop (p + length xs) (placed p xs o) ≡ drop (p + length xs) o
drop-placed p xs o h =
    let e : length (take p o ++ xs) ≡ p + length xs = simp (length-append, length-take) (omega arith) in
    rw (← (append_assoc (take p o) xs (drop (p + length xs) o)))
    (drop_at (take p o ++ xs) (drop (p + length xs) o) (p + length xs) e)

pub placed-then : (p : ℕ) (xs ys o : List ℕ) → p + length (xs ++ ys) ≤ length o
    → placed (p + length xs) ys (placed p xs o) ≡ placed p (xs ++ ys) o
placed-then p xs ys o h =
    let front = take-placed p xs o (omega arith) in
    let behind : drop (p + length xs + length ys) (placed p xs o) ≡ drop (p + length xs + length ys) o =
    sym (drop-drop (length ys) (p + length xs) (placed p xs o))
    ∙ ap (drop (length ys)) (drop-placed p xs o (omega arith))
    ∙ drop-drop (length ys) (p + length xs) o in
    let e : p + length (xs ++ ys) ≡ p + length xs + length ys = simp length-append (omega arith) in
    rw (front, behind, e) (simp append_assoc)

-- The same as laws of what putting promises.
pub put_nothing : (p : ℕ) (o : List ℕ) → PutSays [] p o p o
put_nothing p o = record { place_is = omega arith; output_is = sym (placed-none p o) }

module _ {xs : List ℕ} {p : ℕ} {o : List ℕ} {r : ℕ} {o' : List ℕ} (put : PutSays xs p o r o') where
  pub put_keeps_length : p + length xs ≤ length o → length o' ≡ length o
  put_keeps_length h = ap length put.output_is ∙ length-placed p xs o h

  pub put_then_put : {ys : List ℕ} {r' : ℕ} {o'' : List ℕ} → PutSays ys r o' r' o'' → p + length (xs ++ ys) ≤ length o
      → PutSays (xs ++ ys) p o r' o''
  put_then_put {ys} {r'} {o''} next h = record {
    place_is = simp length-append (omega (arith, put.place_is, next.place_is));
    output_is =
        next.output_is ∙ rw (put.place_is, put.output_is) (placed-then p xs ys o h);
  }

-- One byte is a store to its place.
pub put_one : (v p : ℕ) (o : List ℕ) → p < length o → PutSays (v ∷ []) p o (p + 1) (set o p v)
put_one v p o h = record { place_is = refl; output_is = rw add-one (set_split o p v h) }
