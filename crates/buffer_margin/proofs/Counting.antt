-- The entries and the cells that the code counts are the bytes and the Owed cells of a queue; and a view of an array
-- past its end is the view of the whole array.
use mathlib.Core.Path.{◌≡◌, refl, ap, sym, ◌∙◌}
use mathlib.Core.Bool.{Bool, true, false, cond, ◌&&◌}
use mathlib.Core.List.{List, [], ◌∷◌, map}
use Prim.Native.Nat.{ℕ, zero, suc, ◌+◌, ◌/◌, ◌%◌, ◌≤◌, min}
use mir.Val.{bool_byte}
use native.Mathlib.Nat.{min-eq_left, min-eq_right}
use native.Mathlib.Omega.{arith}
use lib.Dec.{eqb, leb}
use lib.ListN.{length, take, length-take}
use lib.Seq.{take-length}
use borrow.Author.Tests.{leb-true, leb-false}
use Rattle.std.proofs.Common.{filter}
use Rattle.std.proofs.lemmas.List.Sums.{length-filter, count_by-le-length}
use Rattle.model.specs.Basics.{choose}
use Rattle.model.specs.State.{count_of, owes, owed_of}
use Rattle.model.proofs.basics.Tests.{by_test}
use Rattle.layout.specs.Entries.{byte_of, bytes_in, cell_of, cells_in}
use Rattle.layout.proofs.Cells.{cell_owed, cell_owes_nothing}

-- One entry more, of the queue or not.
one_more : (t : Bool) (e v : ℕ) (es vs : List ℕ) → length es ≡ length vs
    → length (cond t (e ∷ es) es) ≡ length (choose t (v ∷ vs) vs)
one_more true e v es vs h = ap suc h
one_more false e v es vs h = h

entries_counted : (q : ℕ) (xs : List ℕ) → length (filter (λ e. eqb (e / 256) q) xs) ≡ count_of q (map byte_of xs)
unfolding byte_of
entries_counted q [] = refl
entries_counted q (e ∷ xs) = one_more (eqb (e / 256) q) e (e % 256) _ _ (entries_counted q xs)

pub bytes_counted : (q n : ℕ) (xs : List ℕ) → length (filter (λ e. eqb (e / 256) q) (take n xs)) ≡ count_of q (bytes_in n xs)
unfolding bytes_in
bytes_counted q n xs = entries_counted q (take n xs)

-- One cell more, which is Owed from 131,072 on.
one_owed : (t : Bool) (c n : ℕ) (cs : List ℕ) → length cs ≡ n → length (cond t (c ∷ cs) cs) ≡ choose t 1 0 + n
one_owed true c n cs h = omega (arith, h)
one_owed false c n cs h = omega (arith, h)

owes_by_number : (q c : ℕ) → choose (leb 131072 c && eqb (c / 256 % 256) q) 1 0 ≡ owes q (cell_of c)
owes_by_number q c =
    by_test (leb 131072 c)
    (λ t. rw (t, cell_owed c (leb-true 131072 c t)))
    (λ t. rw (t, cell_owes_nothing c q (omega (arith, leb-false 131072 c t))))

cells_owed : (q : ℕ) (xs : List ℕ)
    → length (filter (λ c. leb 131072 c && eqb (c / 256 % 256) q) xs) ≡ owed_of q (map cell_of xs)
cells_owed q [] = refl
cells_owed q (c ∷ xs) =
    one_owed (leb 131072 c && eqb (c / 256 % 256) q) c _ _ (cells_owed q xs)
    ∙ ap (λ (n : ℕ). n + owed_of q (map cell_of xs)) (owes_by_number q c)

pub owed_counted : (q n : ℕ) (xs : List ℕ)
    → length (filter (λ c. leb 131072 c && eqb (c / 256 % 256) q) (take n xs)) ≡ owed_of q (cells_in n xs)
unfolding cells_in
owed_counted q n xs = cells_owed q (take n xs)

-- The first n of a list are the first of it that there are.
take_past : (n : ℕ) (xs : List ℕ) → length xs ≤ n → take n xs ≡ xs
take_past zero [] h = refl
take_past zero (x ∷ xs) h = absurd (omega arith)
take_past (suc n) [] h = refl
take_past (suc n) (x ∷ xs) h = ap (λ (l : List ℕ). x ∷ l) (take_past n xs (omega arith))

take_within : (n : ℕ) (xs : List ℕ) → take (min n (length xs)) xs ≡ take n xs
take_within n xs =
    by_test (leb n (length xs))
    (λ t. ap (λ (k : ℕ). take k xs) (min-eq_left (leb-true n (length xs) t)))
    (λ t. let past : length xs ≤ n = omega (arith, leb-false n (length xs) t) in
    ap (λ (k : ℕ). take k xs) (min-eq_right past) ∙ take-length xs ∙ sym (take_past n xs past))

pub bytes-within : (n m : ℕ) (xs : List ℕ) → length xs ≡ m → bytes_in (min n m) xs ≡ bytes_in n xs
unfolding bytes_in
bytes-within n m xs e = rw (← e, take_within n xs)

pub cells_within : (n m : ℕ) (xs : List ℕ) → length xs ≡ m → cells_in (min n m) xs ≡ cells_in n xs
unfolding cells_in
cells_within n m xs e = rw (← e, take_within n xs)

-- A count of the first i, and one more or none, is at most the length and one more.
bit : (t : Bool) → bool_byte t ≤ 1
bit true = omega arith
bit false = omega arith

pub counts_within : (p : ℕ → Bool) (xs : List ℕ) (i : ℕ) (t : Bool)
    → length (filter p (take i xs)) + bool_byte t ≤ length xs + 1
counts_within p xs i t =
    omega (
      arith,
      length-filter p (take i xs),
      count_by-le-length p (take i xs),
      length-take i xs,
      bit t,
    )
