-- The queue that a slot writes is one of the Q, and has a block.
use mathlib.Core.Path.{◌≡◌}
use mathlib.Core.Bool.{Bool, true, false}
use mathlib.Core.Option.{some, none}
use Prim.Native.Nat.{ℕ, ◌-◌, ◌≤◌, ◌<◌}
use lib.Dec.{eqb}
use Rattle.model.specs.Basics.{choose}
use Rattle.model.specs.Sizes.{Sizes}
use Rattle.model.specs.Slot.{fullest}
use Rattle.model.proofs.basics.Tests.{none_not_some}
use Rattle.model.proofs.meaning.Fullest.{fullest-some}
use Rattle.slot_plan.specs.Says.{write_now}

pub write_has_block : (phase : ℕ) (s : Sizes) (tails : ℕ → ℕ) (q : ℕ) → write_now phase s tails ≡ some q
    → (q < s.Q) × (s.b ≤ tails q)
write_has_block phase s tails q e = go (eqb phase (s.b - 1)) e
  where
    go : (t : Bool) → choose t (fullest s.b tails s.Q) none ≡ some q → (q < s.Q) × (s.b ≤ tails q)
    go true e = let f = fullest-some s.b tails s.Q q e in (f.below, f.has_block)
    go false e = absurd (none_not_some q e)
