-- A block that a queue has in the store lies within the store.
use mathlib.Core.List.{List}
use Prim.Native.Nat.{ℕ, ◌+◌, ◌*◌, ◌≤◌, ◌<◌}
use native.Mathlib.Omega.{arith}
use lib.ListN.{length}
use Rattle.model.specs.Sizes.{store_bytes}
use Rattle.model.proofs.basics.Rings.{place_fits}
use Rattle.layout.specs.Lengths.{queue_places}
use Rattle.layout.specs.declared.Regs.{Regs}
use Rattle.layout.specs.Views.{sizes_in}
use Rattle.layout.proofs.Ranges.{InLimits}

-- Block k of queue q, with sizes within the limits and a store that is long enough.
pub record InStore (regs : Regs) (store : List ℕ) (q k : ℕ) : Type 0 where
  pub limits : InLimits regs
  pub store_long : store_bytes (sizes_in regs) ≤ length store
  pub queue_low : q < regs.queues
  pub block_low : k < regs.depth

module _ {regs : Regs} {store : List ℕ} {q k : ℕ} (w : InStore regs store q k) where
  pub queue_in_arrays : q < queue_places
  queue_in_arrays = omega (arith, w.queue_low, w.limits.q_high)

  pub block_in_store : (q * regs.depth + k) * regs.block + regs.block ≤ length store
  block_in_store =
      omega (
        arith,
        place_fits regs.queues regs.depth regs.block q k w.queue_low w.block_low,
        w.store_long,
      )
