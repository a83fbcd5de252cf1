-- A state that keeps the rules can be counted: its fills lie in their arrays, and its queue numbers have a place. The
-- counts are then its own.
use mathlib.Core.Path.{◌≡◌}
use mathlib.Core.Bool.{true}
use Prim.Native.Nat.{◌≤◌}
use native.Mathlib.Omega.{arith}
use Rattle.model.specs.Sizes.{paper}
use Rattle.model.specs.State.{State, keeps}
use Rattle.model.proofs.basics.Bytes.{below_holds}
use Rattle.model.proofs.basics.Cells.{cells_below_holds}
use Rattle.model.proofs.one_slot.Rules.{Keeps, keeps-facts}
use Rattle.layout.specs.declared.Regs.{Regs}
use Rattle.layout.specs.Lengths.{queue_places}
use Rattle.layout.specs.Counts.{ByQueue, Tallies}
use Rattle.layout.specs.Views.{Arrays, Long, state_in}
use Rattle.layout.proofs.Fits.{tail_in_array, head_in_array}
use Rattle.layout.proofs.Ranges.{in_limits}
use Rattle.slot_counts.specs.Says.{Countable, TakeSays}

module _ (regs : Regs) (m : Arrays) where
  pub countable : Long m → keeps paper (state_in regs m) ≡ true → Countable regs m.tail m.head m.cells
  countable long kept = record {
    tail_long = long.tail_long;
    head_long = long.head_long;
    cells_long = long.cells_long;
    tail_in = omega (arith, tail_in_array regs m long v.sizes-ok v.tail_fits);
    head_in = omega (arith, head_in_array regs m long v.sizes-ok v.head_fits);
    sizes-ok = v.sizes-ok;
    tail_known = below_holds regs.queues queue_places few x.tail v.within.tail_below;
    head_known = below_holds regs.queues queue_places few x.head v.within.head_below;
    cells_known = cells_below_holds regs.queues queue_places few x.cells v.within.cells_below;
  }
    where
      x : State
      x = state_in regs m

      v : Keeps paper (state_in regs m)
      v = keeps-facts paper (state_in regs m) kept

      few : regs.queues ≤ queue_places
      few = (in_limits regs v.sizes-ok).q_high

  pub tallied : {counts : ByQueue} → TakeSays regs m.tail m.head m.cells counts
      → Tallies (state_in regs m) counts
  tallied t = record { tails_are = t.tails_are; heads_are = t.heads_are; owed_are = t.owed_are }
