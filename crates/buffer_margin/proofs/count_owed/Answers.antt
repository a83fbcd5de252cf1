-- `count_owed` meets its contract: with one cell more the count fits.
use mathlib.Core.Bool.{◌&&◌}
use Prim.Native.Nat.{◌/◌, ◌%◌}
use native.Mathlib.Omega.{arith}
use lib.Dec.{eqb, leb}
use lib.ListN.{get_or}
use Rattle.buffer_margin.proofs.Counting.{counts_within}
use Rattle.buffer_margin.proofs.count_owed.Goals as goal

pub overflow_add-count : goal.overflow_add-count
overflow_add-count c =
    let cell = get_or c.args.cells.now c.loop-cell.cell-index 0 in
    omega (
      arith,
      c.loop-cell.invariant,
      c.from-count.ensures,
      counts_within (λ x. leb 131072 x && eqb (x / 256 % 256) c.args.q) c.args.cells.now c.loop-cell.cell-index
          (leb 131072 cell && eqb (cell / 256 % 256) c.args.q),
    )
