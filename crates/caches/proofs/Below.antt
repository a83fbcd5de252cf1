-- All queues of the first n entries are below a number: that of one of them, and the test of all.
use mathlib.Core.Path.{◌≡◌, refl, ap}
use mathlib.Core.Bool.{true, ◌&&◌}
use mathlib.Core.List.{List, [], ◌∷◌, map}
use Prim.Native.Nat.{ℕ, ◌/◌, ◌≤◌, ◌<◌}
use native.Mathlib.Omega.{arith}
use lib.Dec.{ltb}
use lib.ListN.{length, get_or}
use borrow.Author.Tests.{ltb-true}
use Rattle.std.specs.List.{list_all}
use Rattle.model.specs.Basics.{all_of}
use Rattle.model.specs.State.{byte_below}
use Rattle.model.proofs.basics.AllOf.{all_of_at}
use Rattle.layout.specs.Entries.{byte_of, bytes_in}
use Rattle.layout.proofs.Entries.{bytes-length, byte_at}

-- The entries' queues are below a number, as the bytes' are.
module _ (queues : ℕ) (xs : List ℕ) where
  pub queue_below : (n i : ℕ) → n ≤ length xs → all_of (byte_below queues) (bytes_in n xs) ≡ true → i < n
      → get_or xs i 0 / 256 < queues
  unfolding byte_of
  queue_below n i h e l =
      ltb-true (get_or xs i 0 / 256) queues
      (rw (byte_at n xs i l) at
      (all_of_at (byte_below queues) (bytes_in n xs) i (byte_of 0) e (omega (arith, bytes-length n xs h))))

-- The test of the entries is that of the bytes.
pub entries_below : (queues : ℕ) (xs : List ℕ) → list_all (λ x. ltb (x / 256) queues) xs
    ≡ all_of (byte_below queues) (map byte_of xs)
unfolding byte_of
entries_below queues [] = refl
entries_below queues (x ∷ xs) = ap (λ t. ltb (x / 256) queues && t) (entries_below queues xs)
