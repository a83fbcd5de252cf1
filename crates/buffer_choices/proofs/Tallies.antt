-- Counts of every queue that an entry can name: they start at 0, and each entry adds one to the count of its queue.
use mathlib.Core.Path.{◌≡◌, refl, ap, ◌∙◌}
use mathlib.Core.List.{List, [], ◌∷◌, ◌++◌}
use Prim.Native.Nat.{ℕ, ◌+◌, ◌/◌, ◌≤◌, ◌<◌}
use native.Mathlib.Omega.{arith}
use lib.ListN.{length, set, get_or, replicate, length-set}
use Rattle.model.specs.State.{Byte, count_of}
use Rattle.model.proofs.basics.Tests.{at_queue_lem, update_same, update_other}
use Rattle.model.proofs.basics.Bytes.{count_append, count_one_same, count_one_other}
use Rattle.layout.specs.Entries.{byte_of, bytes_in, counts_in}
use Rattle.layout.proofs.Entries.{bytes-none, bytes-more, bytes-length}
use Rattle.layout.proofs.Counts.{counts_zero, counts_stored}
use Rattle.caches.proofs.Tallies.{count_le}
use Rattle.buffer_choices.specs.Says.{TallyOfAll}

pub tally_starts : (xs : List ℕ) → TallyOfAll (replicate 256 0) (bytes_in 0 xs)
tally_starts xs = rw (bytes-none xs) (record { long = refl; count_is = counts_zero 256 })

-- A count is at most the number of entries, so that it fits.
pub tally_low : (counts xs : List ℕ) (i q : ℕ) → i ≤ length xs → TallyOfAll counts (bytes_in i xs) → get_or counts q 0 ≤ i
unfolding counts_in
tally_low counts xs i q h w = omega (arith, w.count_is q, count_le q (bytes_in i xs), bytes-length i xs h)

tally_more : (counts : List ℕ) (xs : List Byte) (y : Byte) → y.queue < 256 → TallyOfAll counts xs
    → TallyOfAll (set counts y.queue (get_or counts y.queue 0 + 1)) (xs ++ y ∷ [])
unfolding counts_in
tally_more counts xs y l w =
    let q = y.queue in
    let n = get_or counts q 0 + 1 in
    let storedNow = counts_stored counts q n (omega (arith, w.long)) in
    record {
      long = length-set counts q n ∙ w.long;
      count_is =
          at_queue_lem (λ p. counts_in (set counts q n) p ≡ count_of p (xs ++ y ∷ [])) q
          (ap (λ (f : ℕ → ℕ). f q) storedNow
          ∙ update_same (counts_in counts) q n
          ∙ omega (arith, w.count_is q, count_append q xs (y ∷ []), count_one_same y))
          (λ p t.
          ap (λ (f : ℕ → ℕ). f p) storedNow
          ∙ update_other (counts_in counts) q n p t
          ∙ omega (arith, w.count_is p, count_append p xs (y ∷ []), count_one_other y p t));
    }

pub tally_one : (counts xs : List ℕ) (i : ℕ) → i < length xs → get_or xs i 0 / 256 < 256
    → TallyOfAll counts (bytes_in i xs)
    → TallyOfAll (set counts (get_or xs i 0 / 256) (get_or counts (get_or xs i 0 / 256) 0 + 1)) (bytes_in (i + 1) xs)
unfolding byte_of
tally_one counts xs i h l w = rw (bytes-more i xs h) (tally_more counts (bytes_in i xs) (byte_of (get_or xs i 0)) l w)
