-- `count_of` meets its contract: with one entry more the count fits.
use Prim.Native.Nat.{◌/◌}
use native.Mathlib.Omega.{arith}
use lib.Dec.{eqb}
use lib.ListN.{get_or}
use Rattle.buffer_margin.proofs.Counting.{counts_within}
use Rattle.buffer_margin.proofs.count_of.Goals as goal

pub overflow_add-count : goal.overflow_add-count
overflow_add-count c =
    let entry = get_or c.args.entries.now c.loop-entry.entry-index 0 in
    omega (
      arith,
      c.loop-entry.invariant,
      c.from-count.ensures,
      counts_within (λ e. eqb (e / 256) c.args.q) c.args.entries.now c.loop-entry.entry-index
          (eqb (entry / 256) c.args.q),
    )
