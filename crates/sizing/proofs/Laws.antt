-- The sizing rule's product is small.
use mathlib.Core.Path.{◌≡◌}
use Prim.Native.Nat.{ℕ, ◌*◌, ◌≤◌}
use native.Mathlib.Omega.{arith}
use native.Mathlib.Nat.{mul-le-mul}
use Rattle.model.specs.Sizes.{cycle_time}

-- Up to grade 15 a cycle time is at most 80 ns. `block_size` is proved without it; docs/changes/2.4.md names it.
pub product_small : (rate grade time : ℕ) → time ≡ cycle_time grade → rate ≤ 100 → grade ≤ 15 → rate * time ≤ 8000
product_small rate grade time e l m =
    rw e (mul-le-mul {n₁ = rate} {m₁ = cycle_time grade} {n₂ = 100} {m₂ = 80} l (omega arith))
