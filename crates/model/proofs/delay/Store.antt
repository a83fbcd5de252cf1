-- The blocks of a queue in the slow store, in ring order: one more block joins at the end, and a write changes that
-- block and no other, because no two blocks share a place. `ring-longer`, `block_written` and `block_untouched` say
-- it.
use mathlib.Core.Path.{◌≡◌, refl, ap, sym, ◌∙◌}
use mathlib.Core.Bool.{false}
use mathlib.Core.List.{List, ◌++◌, append_assoc, append-nil}
use Prim.Native.Nat.{ℕ, zero, suc, ◌+◌, ◌-◌, ◌*◌, ◌<◌, ◌≤◌, ◌%◌, ◌/◌}
use native.Mathlib.Omega.{arith}
use native.Mathlib.Nat.{mod-lt, mod-eq_of_lt, mod-add-mod, mod-eq-sub-mod, mul-le-mul_right}
use lib.Dec.{ltb}
use lib.ListN.{length, drop, take, length-append, length-take, length-drop, take-append-drop}
use lib.Seq.{take-append-le, drop-append-le, take_at, drop_at, drop-drop}
use lib.Arith.{digits_div}
use borrow.Author.Tests.{ltb-true, ltb-false}
use Rattle.model.specs.Sizes.{Sizes}
use Rattle.model.specs.Slot.{block_at, placed}
use Rattle.model.specs.Ideal.{ring_bytes}
use Rattle.model.proofs.basics.Tests.{by_test}

-- Places along a ring of K blocks from block `first` on.
step_around : (K first n : ℕ) → ((first + 1) % K + n) % K ≡ (first + suc n) % K
step_around K first n =
    mod-add-mod (first + 1) K n ∙ ap (λ (m : ℕ). m % K) (let e : first + 1 + n ≡ first + suc n = omega arith in e)

at_first : (K first : ℕ) → first < K → (first + 0) % K ≡ first
at_first K first l = ap (λ (m : ℕ). m % K) (let e : first + 0 ≡ first = omega arith in e) ∙ mod-eq_of_lt l

wraps : (K a : ℕ) → a < K + K → ltb a K ≡ false → a % K ≡ a - K
wraps K a l t = mod-eq-sub-mod (ltb-false a K t) ∙ mod-eq_of_lt (omega (arith, ltb-false a K t))

pub ring-places_apart : (K first i n : ℕ) → first < K → i < n → n < K → (first + i) % K ≡ (first + n) % K → ⊥
ring-places_apart K first i n l m h e =
    by_test (ltb (first + i) K)
    (λ t. by_test (ltb (first + n) K)
    (λ u. omega (arith, e, mod-eq_of_lt (ltb-true (first + i) K t), mod-eq_of_lt (ltb-true (first + n) K u)))
    (λ u. omega (
      arith,
      e,
      mod-eq_of_lt (ltb-true (first + i) K t),
      wraps K (first + n) (omega arith) u,
      ltb-false (first + n) K u,
    )))
    (λ t. by_test (ltb (first + n) K)
    (λ u. omega (arith, ltb-true (first + n) K u, ltb-false (first + i) K t))
    (λ u. omega (
      arith,
      e,
      wraps K (first + i) (omega arith) t,
      wraps K (first + n) (omega arith) u,
      ltb-false (first + n) K u,
      ltb-false (first + i) K t,
    )))

-- One more block at the end.
pub ring-longer : (s : Sizes) (store : List ℕ) (q first n : ℕ) → first < s.K
    → ring_bytes s store q first (n + 1) ≡ ring_bytes s store q first n ++ block_at s store q ((first + n) % s.K)
ring-longer s store q first n l =
    ap (ring_bytes s store q first) (let e : n + 1 ≡ suc n = omega arith in e) ∙ longer first n l
  where
    longer : (first n : ℕ) → first < s.K
        → ring_bytes s store q first (suc n) ≡ ring_bytes s store q first n ++ block_at s store q ((first + n) % s.K)
    longer first zero l = append-nil (block_at s store q first) ∙ ap (block_at s store q) (sym (at_first s.K first l))
    longer first (suc n) l =
        ap (λ (r : List ℕ). block_at s store q first ++ r)
        (longer next n (mod-lt (first + 1) (omega arith))
        ∙ ap (λ (i : ℕ). ring_bytes s store q next n ++ block_at s store q i) (step_around s.K first n))
        ∙ sym (append_assoc (block_at s store q first) (ring_bytes s store q next n)
        (block_at s store q ((first + suc n) % s.K)))
      where
        next : ℕ
        next = (first + 1) % s.K

pub ring-length : (s : Sizes) (store : List ℕ) (q first n : ℕ) → first < s.K
    → ((k : ℕ) → k < s.K → length (block_at s store q k) ≡ s.b)
    → length (ring_bytes s store q first n) ≡ s.b * n
ring-length s store q first zero l h = omega arith
ring-length s store q first (suc n) l h =
    omega (
      arith,
      length-append (block_at s store q first) (ring_bytes s store q ((first + 1) % s.K) n),
      h first l,
      ring-length s store q ((first + 1) % s.K) n (mod-lt (first + 1) (omega arith)) h,
    )

-- Two stores that have the same blocks at the places of a ring.
pub ring-same : (s : Sizes) (store store' : List ℕ) (q first n : ℕ) → first < s.K
    → ((i : ℕ) → i < n → block_at s store' q ((first + i) % s.K) ≡ block_at s store q ((first + i) % s.K))
    → ring_bytes s store' q first n ≡ ring_bytes s store q first n
ring-same s store store' q first zero l h = refl
ring-same s store store' q first (suc n) l h =
    ap (λ (r : List ℕ). r ++ ring_bytes s store' q next n) here
    ∙ ap (λ (r : List ℕ). block_at s store q first ++ r)
    (ring-same s store store' q next n (mod-lt (first + 1) (omega arith))
    (λ i k. rw (step_around s.K first i) (h (suc i) (omega arith))))
  where
    next : ℕ
    next = (first + 1) % s.K

    here : block_at s store' q first ≡ block_at s store q first
    here = rw (at_first s.K first l) at (h 0 (omega arith))

-- The store in blocks of b bytes, of which block m is written.
slice_front : (p b : ℕ) (xs ys : List ℕ) → p + b ≤ length xs → take b (drop p (xs ++ ys)) ≡ take b (drop p xs)
slice_front p b xs ys h =
    ap (take b) (drop-append-le p xs ys (omega arith)) ∙ take-append-le b (drop p xs) ys
    (omega (arith, length-drop p xs))

module _ (b m : ℕ) (values store : List ℕ) (size : length values ≡ b) (fits : m * b + b ≤ length store) where
  abbrev written : List ℕ
  written = placed (m * b) values store

  abbrev front : List ℕ
  front = take (m * b) store

  abbrev back : List ℕ
  back = drop (m * b + length values) store

  front_long : length front ≡ m * b
  front_long = omega (arith, length-take (m * b) store)

  pub block_written : take b (drop (m * b) written) ≡ values
  block_written = ap (take b) (drop_at front (values ++ back) (m * b) front_long) ∙ take_at values back b size

  past_written : drop (m * b + b) written ≡ drop (m * b + b) store
  past_written =
      sym (drop-drop b (m * b) written)
      ∙ ap (drop b) (drop_at front (values ++ back) (m * b) front_long)
      ∙ drop_at values back b size
      ∙ ap (λ (n : ℕ). drop (m * b + n) store) size

  pub block_untouched : (n : ℕ) → (n ≡ m → ⊥) → take b (drop (n * b) written) ≡ take b (drop (n * b) store)
  block_untouched n apart = by_test (ltb n m) (λ t. before (ltb-true n m t))
      (λ t. after (omega (arith, ltb-false n m t, apart)))
    where
      before : n < m → take b (drop (n * b) written) ≡ take b (drop (n * b) store)
      before l =
          slice_front (n * b) b front (values ++ back) ends
          ∙ sym (slice_front (n * b) b front (drop (m * b) store) ends)
          ∙ ap (λ (r : List ℕ). take b (drop (n * b) r)) (take-append-drop (m * b) store)
        where
          ends : n * b + b ≤ length front
          ends = omega (arith, front_long, mul-le-mul_right {m = suc n} b l)

      after : m < n → take b (drop (n * b) written) ≡ take b (drop (n * b) store)
      after l = ap (take b) (at written ∙ ap (drop further) past_written ∙ sym (at store))
        where
          further : ℕ
          further = n * b - (m * b + b)

          at : (r : List ℕ) → drop (n * b) r ≡ drop further (drop (m * b + b) r)
          at r =
              ap (λ (i : ℕ). drop i r)
              (let e : n * b ≡ m * b + b + further = omega (arith, mul-le-mul_right {m = suc m} b l) in e)
              ∙ sym (drop-drop further (m * b + b) r)

-- The number of a block tells its queue and its place in the ring.
pub block_numbers_apart : (K q k q' k' : ℕ) → k < K → k' < K → q * K + k ≡ q' * K + k' → (q ≡ q') × (k ≡ k')
block_numbers_apart K q k q' k' l l' e =
    let same : q ≡ q' = sym (digits_div q l) ∙ ap (λ (n : ℕ). n / K) e ∙ digits_div q' l' in
    (same, omega (arith, e, ap (λ (n : ℕ). n * K) same))
