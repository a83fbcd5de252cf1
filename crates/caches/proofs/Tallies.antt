-- Counts by queue taken byte by byte: they start at 0, and each byte adds one to the count of its queue.
use mathlib.Core.Path.{◌≡◌, refl, ap, ◌∙◌}
use mathlib.Core.List.{List, [], ◌∷◌, ◌++◌}
use Prim.Native.Nat.{ℕ, ◌+◌, ◌/◌, ◌≤◌, ◌<◌}
use native.Mathlib.Omega.{arith}
use lib.Dec.{eqb}
use lib.ListN.{length, set, get_or, replicate, length-set}
use Rattle.model.specs.State.{Byte, count_of}
use Rattle.model.proofs.basics.Tests.{by_test, at_queue_lem, update_same, update_other}
use Rattle.model.proofs.basics.Bytes.{count_append, count_one_same, count_one_other}
use Rattle.layout.specs.Lengths.{queue_places}
use Rattle.layout.specs.Entries.{byte_of, bytes_in, counts_in}
use Rattle.layout.specs.Counts.{Tally}
use Rattle.layout.proofs.Entries.{bytes-none, bytes-more}
use Rattle.layout.proofs.Counts.{counts_zero, counts_stored}

-- A count is at most the number of bytes, so it fits its array.
pub count_le : (q : ℕ) (xs : List Byte) → count_of q xs ≤ length xs
count_le q [] = omega arith
count_le q (x ∷ xs) =
    by_test (eqb x.queue q)
    (λ t. rw t (omega (arith, count_le q xs)))
    (λ t. rw t (omega (arith, count_le q xs)))

-- No byte yet, and one byte more.
pub tally_starts : (xs : List ℕ) → Tally (replicate queue_places 0) (bytes_in 0 xs)
tally_starts xs = rw (bytes-none xs) (record { long = refl; count_is = counts_zero queue_places })

pub tally_at : (counts : List ℕ) (xs : List Byte) (q : ℕ) → Tally counts xs → get_or counts q 0 ≡ count_of q xs
unfolding counts_in
tally_at counts xs q w = w.count_is q

tally_more : (counts : List ℕ) (xs : List Byte) (y : Byte) → y.queue < queue_places → Tally counts xs
    → Tally (set counts y.queue (get_or counts y.queue 0 + 1)) (xs ++ y ∷ [])
unfolding counts_in
tally_more counts xs y l w =
    let q = y.queue in
    let n = get_or counts q 0 + 1 in
    let stored = counts_stored counts q n (omega (arith, w.long)) in
    record {
      long = length-set counts q n ∙ w.long;
      count_is =
          at_queue_lem (λ p. counts_in (set counts q n) p ≡ count_of p (xs ++ y ∷ [])) q
          (ap (λ (f : ℕ → ℕ). f q) stored
          ∙ update_same (counts_in counts) q n
          ∙ omega (arith, w.count_is q, count_append q xs (y ∷ []), count_one_same y))
          (λ p t.
          ap (λ (f : ℕ → ℕ). f p) stored
          ∙ update_other (counts_in counts) q n p t
          ∙ omega (arith, w.count_is p, count_append p xs (y ∷ []), count_one_other y p t));
    }

pub tally_one : (counts xs : List ℕ) (i : ℕ) → i < length xs → get_or xs i 0 / 256 < queue_places
    → Tally counts (bytes_in i xs)
    → Tally (set counts (get_or xs i 0 / 256) (get_or counts (get_or xs i 0 / 256) 0 + 1)) (bytes_in (i + 1) xs)
unfolding byte_of
tally_one counts xs i h l w = rw (bytes-more i xs h) (tally_more counts (bytes_in i xs) (byte_of (get_or xs i 0)) l w)
