-- A loop that closes entries up over place p: what it keeps, and that the bytes are then those without the oldest.
use mathlib.Core.Path.{◌≡◌, refl, ap, sym, ◌∙◌}
use mathlib.Core.List.{List, ◌∷◌, [], ◌++◌, map, map-append}
use Prim.Native.Nat.{ℕ, zero, suc, ◌+◌, ◌-◌, ◌%◌, ◌≤◌, ◌<◌}
use native.Mathlib.Numerals.{add-one}
use native.Mathlib.Nat.{zero-add}
use native.Mathlib.Omega.{arith}
use Rattle.std.specs.List.{copy_within}
use lib.ListN.{length, take, drop, get_or}
use lib.ListN.{length-append, length-drop}
use lib.Seq.{take_all, take-append_seam, take-take, length-take-le}
use lib.Seq.{take-add, take-append-le, take-append-add, drop-append-add}
use Rattle.model.specs.State.{Byte, count_of}
use Rattle.layout.specs.Entries.{byte_of, bytes_in}
use Rattle.caches.specs.Says.{place_of, ClosedUp, TookOldest}
use Rattle.layout.proofs.Entries.{bytes-length, byte_at}
use Rattle.caches.proofs.Places.{without-oldest, oldest_within, oldest_is}

-- A part of the entries, as bytes, is that part of the bytes.
map-take : (i : ℕ) (xs : List ℕ) → map byte_of (take i xs) ≡ take i (map byte_of xs)
map-take zero xs = refl
map-take (suc i) [] = refl
map-take (suc i) (x ∷ xs) = ap (λ (ys : List Byte). byte_of x ∷ ys) (map-take i xs)

map-drop : (i : ℕ) (xs : List ℕ) → map byte_of (drop i xs) ≡ drop i (map byte_of xs)
map-drop zero xs = refl
map-drop (suc i) [] = refl
map-drop (suc i) (x ∷ xs) = map-drop i xs

pub bytes-closed : (p n : ℕ) (before after : List ℕ) → p ≤ n → ClosedUp p n before after
    → bytes_in (n - 1) after ≡ take p (bytes_in n before) ++ drop (p + 1) (bytes_in n before)
unfolding bytes_in
bytes-closed p n before after h c =
    rw (c.closed, ← take-take p n before h, map-append)
    (rw (map-take p (take n before), map-drop (p + 1) (take n before)))

-- A part of the entries, k from place p on, of which all but the first were copied to its start.
module _ (p k : ℕ) (before ys : List ℕ) (h : p + k ≤ length before) (some_there : 1 ≤ k)
    (moved : ys ≡ copy_within (take k (drop p before)) 1 (length (take k (drop p before))) 0) where
  abbrev front : List ℕ
  front = take p before

  abbrev part : List ℕ
  part = take k (drop p before)

  abbrev whole : List ℕ
  whole = front ++ (ys ++ drop k (drop p before))

  front_long : length front ≡ p
  front_long = length-take-le p before (omega arith)

  part_long : length part ≡ k
  part_long = length-take-le k (drop p before) (simp length-drop (omega arith))

  -- The part's entries but the first, and its last.
  rest_long : length (drop 1 part) ≡ k - 1
  rest_long = length-drop 1 part ∙ rw part_long

  part_moved : ys ≡ drop 1 part ++ drop (k - 1) part
  part_moved =
      let all : take (k - 1) (drop 1 part) ≡ drop 1 part = take_all (k - 1) (drop 1 part) (omega (arith, rest_long)) in
      moved ∙ rw (part_long, all, zero-add)

  part_closed : take (k - 1) ys ≡ drop 1 part
  part_closed = rw (part_moved, ← rest_long) (take-append_seam (drop 1 part) _)

  whole_front : take (p + (k - 1)) whole ≡ front ++ drop 1 part
  whole_front =
      ap (λ (m : ℕ). take (m + (k - 1)) whole) (sym front_long)
      ∙ take-append-add front (ys ++ drop k (drop p before)) (k - 1)
      ∙ ap (λ (zs : List ℕ). front ++ zs)
      (take-append-le (k - 1) ys _ (rw part_moved (simp (length-append, length-drop) (omega (arith, part_long)))) ∙ part_closed)

  part_is : drop (p + 1) (take (p + k) before) ≡ drop 1 part
  part_is = rw (take-add p k before) (rw front_long at (drop-append-add front part 1))

  pub closed-within : ClosedUp p (p + k) before whole
  closed-within = record {
    closed = let e : p + k - 1 ≡ p + (k - 1) = omega arith in rw (e, part_is) whole_front;
    same_length = rw part_moved (simp (length-append, front_long, length-drop) (omega (arith, part_long)));
  }

-- Closing up over the oldest byte of a queue takes it out.
module _ (q n : ℕ) (before : List ℕ) (h : n ≤ length before) (some_there : 1 ≤ count_of q (bytes_in n before)) where
  pub oldest_below : place_of q (bytes_in n before) < n
  oldest_below = omega (arith, oldest_within q (bytes_in n before) some_there, bytes-length n before h)

  pub took_oldest : (p : ℕ) (after : List ℕ) → p ≡ place_of q (bytes_in n before) → ClosedUp p n before after
      → TookOldest n q before after (get_or before p 0 % 256)
  unfolding byte_of
  took_oldest p after e c =
      let l : p < n = omega (arith, e, oldest_below) in
      record {
        left =
            bytes-closed p n before after (omega arith) c
            ∙ rw (e, add-one) (sym (without-oldest q (bytes_in n before)));
        value_is =
            oldest_is q (bytes_in n before) (byte_of 0) some_there
            ∙ rw (← e, byte_at n before p l);
        same_length = c.same_length;
      }
