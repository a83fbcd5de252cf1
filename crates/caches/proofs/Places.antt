-- The place of a queue's oldest byte: where a search has it, and what stands there and around it.
use mathlib.Core.Path.{◌≡◌, refl, ap, ◌∙◌}
use mathlib.Core.Bool.{true, false, ◌||◌}
use mathlib.Core.List.{List, [], ◌∷◌, ◌++◌, map}
use mathlib.Core.Option.{some}
use Prim.Native.Nat.{ℕ, zero, suc, ◌+◌, ◌-◌, ◌*◌, ◌/◌, ◌≤◌, ◌<◌}
use native.Mathlib.Nat.{zero-add}
use native.Mathlib.Omega.{arith}
use lib.Dec.{eqb, ltb}
use lib.ListN.{length, take, drop, get_or, length-take, length-drop}
use lib.Seq.{get_or-take, get_or-drop}
use denote.Ref.{Bor}
use Rattle.std.proofs.Common.{Option, Some, None, IsSomeAnd, IfSome}
use Rattle.std.specs.Option.{option_map}
use Rattle.std.specs.List.{IsSubsliceAt, fold, AllWithin, HoldsAt}
use borrow.Author.Tests.{eq-eqb, ne_eqb, ltb-true, ltb-false}
use Rattle.model.specs.State.{Byte, count_of}
use Rattle.model.specs.Slot.{oldest_of, without}
use Rattle.model.proofs.basics.Tests.{by_test, true_not_false}
use Rattle.layout.specs.Entries.{byte_of}
use Rattle.caches.specs.Says.{NoneOf, place_of}

-- None in one part and none in the next.
pub none_in_both : (q : ℕ) (xs : List ℕ) (n m : ℕ) → NoneOf q xs 0 n → NoneOf q xs n m → NoneOf q xs 0 (n + m)
none_in_both q xs n m first next k l e =
    by_test (ltb k n)
    (λ t. first k (ltb-true k n t) e)
    (λ t. let f : n + (k - n) ≡ 0 + k = omega (arith, ltb-false k n t) in
    next (k - n) (omega (arith, l, ltb-false k n t)) (ap (λ (i : ℕ). get_or xs i 0 / 256) f ∙ e))

-- What stands in a part, at its place of the whole; and none in the part is none at its places of the whole.
pub part_at : (xs : List ℕ) (i m k : ℕ) → k < length (take m (drop i xs)) → get_or (take m (drop i xs)) k 0 ≡ get_or xs (i + k) 0
part_at xs i m k l = get_or-take m (drop i xs) k 0 (omega (arith, simp length-take at l)) ∙ rw get_or-drop

pub none_in_part : (q : ℕ) (xs : List ℕ) (i m n : ℕ) → n ≤ length (take m (drop i xs))
    → NoneOf q (take m (drop i xs)) 0 n → NoneOf q xs i n
none_in_part q xs i m n h none k l e = none k l (rw (zero-add, part_at xs i m k (omega arith)) e)

-- None in a chunk of 32 is none at its places of the whole, and none in each of m chunks is none before place m * 32.
pub chunk_clear : (q : ℕ) (xs : List ℕ) (j : ℕ) (P : Bor (List ℕ) → Type 0)
    → ((x : Bor (List ℕ)) → P x → NoneOf q x.now 0 (length x.now))
    → (o : Option (Bor (List ℕ))) → IsSomeAnd o P
    → IfSome o (λ x. (length x.now ≡ 32) × (j * 32 + 32 ≤ length xs) × IsSubsliceAt 32 xs (j * 32) x.now)
    → NoneOf q xs (j * 32) 32
chunk_clear q xs j P f None none part k l e = absurd none
chunk_clear q xs j P f (Some x) none part k l e =
    f x none k (omega (arith, part.0)) (rw (zero-add, part.2.2 k 0 l) e)

pub some_there : {A : Type 0} (P : A → Type 0) (o : Option A) (y : A) → option_map (λ z. z) o ≡ Some y → IfSome o P → IsSomeAnd o P
some_there P None y e h = let z : ◌≡◌ {A = ℕ} 0 1 = cc in absurd (omega arith)
some_there P (Some x) y e h = h

pub none_in_chunks : (q : ℕ) (xs : List ℕ) (m : ℕ) → ((j : ℕ) → j < m → NoneOf q xs (j * 32) 32)
    → NoneOf q xs 0 (m * 32)
none_in_chunks q xs zero none = λ k l e. omega arith
none_in_chunks q xs (suc m) none =
    let next : m * 32 + 32 ≡ suc m * 32 = omega arith in
    rw next at (none_in_both q xs (m * 32) 32 (none_in_chunks q xs m (λ j l. none j (omega arith))) (none m (omega arith)))

-- A fold that is true from the first entry of q on, and ends as false.
folded-true : (q : ℕ) (xs : List ℕ) → fold (λ found x. found || eqb (x / 256) q) true xs ≡ true
folded-true q [] = refl
folded-true q (x ∷ xs) = folded-true q xs

pub none-folded : (q : ℕ) (xs : List ℕ) → fold (λ found x. found || eqb (x / 256) q) false xs ≡ false
    → NoneOf q xs 0 (length xs)
none-folded q [] f k l e = omega arith
none-folded q (x ∷ xs) f zero l e = absurd (true_not_false _ (folded-true q xs) (rw (eq-eqb (x / 256) q e) at f))
none-folded q (x ∷ xs) f (suc k) l e =
    by_test (eqb (x / 256) q)
    (λ t. absurd (true_not_false _ (folded-true q xs) (rw t at f)))
    (λ t. none-folded q xs (rw t at f) k (omega arith) (rw zero-add (rw zero-add at e)))

-- Where a search ends: none before it, and at it one of the queue, unless it is the end.
pub search_ends : (q : ℕ) (xs : List ℕ) (i : ℕ) → i ≤ length xs → NoneOf q xs 0 i
    → (i < length xs → get_or xs i 0 / 256 ≡ q) → i ≡ place_of q (map byte_of xs)
unfolding place_of byte_of
search_ends q [] i l none hit = omega arith
search_ends q (x ∷ xs) zero l none hit = rw (eq-eqb (x / 256) q (hit (omega arith)))
search_ends q (x ∷ xs) (suc i) l none hit =
    rw (ne_eqb (x / 256) q (none 0 (omega arith)))
    (ap suc (search_ends q xs i (omega arith)
    (λ k m e. none (suc k) (omega arith) (rw zero-add (rw zero-add at e)))
    (λ m. hit (omega arith))))

-- A search of what stands from a place on, with none before that place.
module _ (q : ℕ) (xs : List ℕ) (start : ℕ) (h : start ≤ length xs) (before : NoneOf q xs 0 start) where
  abbrev rest : List ℕ
  rest = take (length xs - start) (drop start xs)

  rest_long : length rest ≡ length xs - start
  rest_long = simp (length-take, length-drop) (omega arith)

  none_on : (n : ℕ) → n ≤ length rest → AllWithin (λ x. x / 256 ≡ q → ⊥) rest 0 n → NoneOf q xs 0 (start + n)
  none_on n l none =
      none_in_both q xs start n before
      (none_in_part q xs start (length xs - start) n l (λ k m e. none k 0 (omega arith) m (rw zero-add at e)))

  pub place_found : (i : ℕ)
      → (i < length rest) × HoldsAt (λ x. x / 256 ≡ q) rest i × AllWithin (λ x. x / 256 ≡ q → ⊥) rest 0 i
      → start + i ≡ place_of q (map byte_of xs)
  place_found i found =
      search_ends q xs (start + i)
      (omega (arith, rest_long, found.0))
      (none_on i (omega (arith, found.0)) found.2)
      (λ m. rw (part_at xs start (length xs - start) i found.0) at (found.1 0))

  pub place_none : AllWithin (λ x. x / 256 ≡ q → ⊥) rest 0 (length rest) → length xs ≡ place_of q (map byte_of xs)
  place_none none =
      let all : start + length rest ≡ length xs = omega (arith, rest_long) in
      search_ends q xs (length xs) (omega arith)
      (rw all at (none_on (length rest) (omega arith) none))
      (λ m. absurd (omega arith))

-- Without its oldest byte of q a cache is what stands before that place and after it.
pub without-oldest : (q : ℕ) (xs : List Byte)
    → without 1 q xs ≡ take (place_of q xs) xs ++ drop (suc (place_of q xs)) xs
unfolding place_of
without-oldest q [] = refl
without-oldest q (x ∷ xs) =
    by_test (eqb x.queue q)
    (λ t. rw t)
    (λ t. rw t (ap (λ (ys : List Byte). x ∷ ys) (without-oldest q xs)))

-- A queue that has bytes has its oldest at that place.
pub oldest_within : (q : ℕ) (xs : List Byte) → 1 ≤ count_of q xs → place_of q xs < length xs
unfolding place_of
oldest_within q [] h = absurd (omega arith)
oldest_within q (x ∷ xs) h =
    by_test (eqb x.queue q)
    (λ t. rw t (omega arith))
    (λ t. rw t (omega (arith, oldest_within q xs (rw t at h))))

pub oldest_is : (q : ℕ) (xs : List Byte) (d : Byte) → 1 ≤ count_of q xs
    → oldest_of q xs ≡ some (get_or xs (place_of q xs) d).value
unfolding place_of
oldest_is q [] d h = absurd (omega arith)
oldest_is q (x ∷ xs) d h =
    by_test (eqb x.queue q)
    (λ t. rw t)
    (λ t. rw t (oldest_is q xs d (rw t at h)))
