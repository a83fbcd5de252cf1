-- `tally_owed` meets its contract: before a cell the counts are those of the cells before it, so that none passes the
-- number of cells.
use mathlib.Core.Path.{◌≡◌}
use Prim.Native.Nat.{◌/◌, ◌%◌, ◌≤◌, ◌<◌}
use native.Mathlib.Omega.{arith}
use lib.ListN.{get_or, take, length-take}
use lib.Seq.{get_or-take}
use Rattle.layout.specs.Lengths.{queue_places}
use Rattle.layout.proofs.Cells.{queue_below}
use Rattle.lookahead.proofs.Turns.{tally_starts, tally_counts, tally_skips, count_at_most}
use Rattle.lookahead.proofs.tally_owed.Goals as goal
use Rattle.lookahead.proofs.tally_owed.Goals.{In-loop-cell, then-cell-ge-OWED, else-cell-ge-OWED}

pub loop-cell-init : goal.loop-cell-init
loop-cell-init c = tally_starts c.args.n c.args.cells.now

-- The cell that a turn reads is that of its place, and if it is Owed its queue has a count.
in_first : (c : In-loop-cell) → c.loop-cell.cell-index < c.args.n
in_first c = omega (arith, simp length-take at c.loop-cell-test.true)

cell_read : (c : In-loop-cell)
    → get_or (take c.args.n c.args.cells.now) c.loop-cell.cell-index 0 ≡ get_or c.args.cells.now c.loop-cell.cell-index 0
cell_read c = get_or-take c.args.n c.args.cells.now c.loop-cell.cell-index 0 (in_first c)

owed_queue : (c : In-loop-cell) → 65536 ≤ get_or (take c.args.n c.args.cells.now) c.loop-cell.cell-index 0
    → get_or (take c.args.n c.args.cells.now) c.loop-cell.cell-index 0 / 256 % 256 < queue_places
owed_queue c h =
    rw (cell_read c)
    (queue_below c.args.cells.now c.requires.1 (in_first c) queue_places c.requires.2 (rw (cell_read c) at h))

pub bounds-counts-q : goal.bounds-counts-q
bounds-counts-q c = owed_queue (goal.at.bounds-counts-q c).In-loop-cell (omega arith)

pub overflow_add-counts : goal.overflow_add-counts
overflow_add-counts c =
    let a = c.args in
    let queue = get_or (take a.n a.cells.now) c.loop-cell.cell-index 0 / 256 % 256 in
    let first = in_first (goal.at.overflow_add-counts c).In-loop-cell in
    omega (arith, first, count_at_most c.requires.1 c.loop-cell.invariant first queue)

pub bounds-counts-q-then-cell-ge-OWED : goal.bounds-counts-q-then-cell-ge-OWED
bounds-counts-q-then-cell-ge-OWED c = owed_queue (goal.at.bounds-counts-q-then-cell-ge-OWED c).In-loop-cell (omega arith)

-- By the arm that counts an Owed cell, or past a cell that owes nothing.
pub loop-cell-preserved : goal.loop-cell-preserved
loop-cell-preserved c =
    let turn = (goal.at.loop-cell-preserved c).In-loop-cell in
    let inv = c.loop-cell.invariant in
    let fits = c.requires.1 in
    elim c.if-cell-ge-OWED.branch [
      | then-cell-ge-OWED w ↦
          let owing = rw (cell_read turn) at w.if-cell-ge-OWED.true in
          let below = queue_below c.args.cells.now fits (in_first turn) queue_places c.requires.2 (omega (arith, owing)) in
          rw (w.counts-is, cell_read turn) (tally_counts fits inv (in_first turn) owing below)
      | else-cell-ge-OWED w ↦
          rw w.counts-is (tally_skips fits inv (in_first turn) (omega (arith, cell_read turn, w.if-cell-ge-OWED.false)))
    ]
