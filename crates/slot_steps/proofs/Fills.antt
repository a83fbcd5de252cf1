-- A queue has at most as many bytes in a cache as the cache has.
use mathlib.Core.List.{List}
use Prim.Native.Nat.{ℕ, ◌≤◌}
use native.Mathlib.Omega.{arith}
use lib.ListN.{length}
use Rattle.model.specs.State.{count_of}
use Rattle.layout.specs.Entries.{bytes_in}
use Rattle.layout.proofs.Entries.{bytes-length}
use Rattle.caches.proofs.Tallies.{count_le}

pub count_in_fill : (q fill : ℕ) (xs : List ℕ) → fill ≤ length xs → count_of q (bytes_in fill xs) ≤ fill
count_in_fill q fill xs h = omega (arith, count_le q (bytes_in fill xs), bytes-length fill xs h)
