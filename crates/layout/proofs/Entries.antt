-- The first n entries of an array as bytes: one more of them, one stored behind them, and the byte at a place.
use mathlib.Core.Path.{◌≡◌, refl, ap, ◌∙◌}
use mathlib.Core.List.{List, [], ◌∷◌, ◌++◌, map-append}
use Prim.Native.Nat.{ℕ, ◌+◌, ◌*◌, ◌≤◌, ◌<◌}
use native.Mathlib.Numerals.{add-one}
use lib.Arith.{digits_div, digits_mod}
use lib.ListN.{length, take, set, get_or, length-map, get_or-map}
use lib.Seq.{take-suc, take-suc-set, length-take-le, get_or-take}
use Rattle.model.specs.State.{Byte, byte}
use Rattle.layout.specs.Entries.{byte_of, bytes_in}

-- A queue and a value as one number are that byte.
pub entry-is : (q v : ℕ) → v < 256 → byte_of (q * 256 + v) ≡ byte q v
unfolding byte_of
entry-is q v h = rw (digits_div q h, digits_mod q h)

pub bytes-none : (xs : List ℕ) → bytes_in 0 xs ≡ []
unfolding bytes_in
bytes-none xs = refl

pub bytes-length : (n : ℕ) (xs : List ℕ) → n ≤ length xs → length (bytes_in n xs) ≡ n
unfolding bytes_in
bytes-length n xs h = length-map (take n xs) byte_of ∙ length-take-le n xs h

pub byte_at : (n : ℕ) (xs : List ℕ) (i : ℕ) → i < n → get_or (bytes_in n xs) i (byte_of 0) ≡ byte_of (get_or xs i 0)
unfolding bytes_in
byte_at n xs i h = get_or-map byte_of (take n xs) i 0 ∙ ap byte_of (get_or-take n xs i 0 h)

-- One entry more, and one stored behind the first n.
module _ (n : ℕ) (xs : List ℕ) (h : n < length xs) where
  pub take_more : take (n + 1) xs ≡ take n xs ++ get_or xs n 0 ∷ []
  take_more = ap (λ (i : ℕ). take i xs) (add-one n) ∙ take-suc xs n 0 h

  pub take-stored : (e : ℕ) → take (n + 1) (set xs n e) ≡ take n xs ++ e ∷ []
  take-stored e = ap (λ (i : ℕ). take i (set xs n e)) (add-one n) ∙ take-suc-set xs n e h

  pub bytes-more : bytes_in (n + 1) xs ≡ bytes_in n xs ++ byte_of (get_or xs n 0) ∷ []
  unfolding bytes_in
  bytes-more = rw take_more (map-append byte_of (take n xs) (get_or xs n 0 ∷ []))

  pub bytes-stored : (e : ℕ) → bytes_in (n + 1) (set xs n e) ≡ bytes_in n xs ++ byte_of e ∷ []
  unfolding bytes_in
  bytes-stored e = rw (take-stored e) (map-append byte_of (take n xs) (e ∷ []))

  pub byte-stored : (q v : ℕ) → v < 256 → bytes_in (n + 1) (set xs n (q * 256 + v)) ≡ bytes_in n xs ++ byte q v ∷ []
  byte-stored q v l = bytes-stored (q * 256 + v) ∙ ap (λ (y : Byte). bytes_in n xs ++ y ∷ []) (entry-is q v l)
