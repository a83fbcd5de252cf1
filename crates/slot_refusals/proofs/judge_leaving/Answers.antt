-- `judge_leaving` meets its contract: a cell is Owed by its size alone, and its queue is below 64.
use Prim.Native.Nat.{◌/◌, ◌%◌}
use native.Mathlib.Omega.{arith}
use borrow.Author.Tests.{ltb-true}
use Rattle.layout.specs.Lengths.{queue_places}
use Rattle.layout.specs.Entries.{counts_in}
use Rattle.layout.proofs.Cells.{cell_below_lem}
use Rattle.slot_refusals.proofs.Judging.{leaving_uncovered, leaving_covered, leaving_not_owed}
use Rattle.slot_refusals.proofs.judge_leaving.Goals as goal

pub bounds-heads-q : goal.bounds-heads-q
bounds-heads-q c =
    let start = c in
    ltb-true (start.args.cell / 256 % 256) queue_places
    (rw (cell_below_lem start.args.cell queue_places (omega arith)) at start.requires)

pub returns-then-heads-q-eq0-clause-number : goal.returns-then-heads-q-eq0-clause-number
unfolding counts_in
returns-then-heads-q-eq0-clause-number c =
    let a = c.args in
    leaving_uncovered (counts_in a.heads.now) a.cell c.if-cell-ge-OWED.true c.if-heads-q-eq0.true

pub returns-else-heads-q-eq0-clause-number : goal.returns-else-heads-q-eq0-clause-number
unfolding counts_in
returns-else-heads-q-eq0-clause-number c =
    let a = c.args in
    leaving_covered (counts_in a.heads.now) a.cell c.if-cell-ge-OWED.true c.if-heads-q-eq0.false

pub returns-else-cell-ge-OWED-clause-number : goal.returns-else-cell-ge-OWED-clause-number
returns-else-cell-ge-OWED-clause-number c =
    let a = c.args in
    leaving_not_owed (counts_in a.heads.now) a.cell (omega (arith, c.if-cell-ge-OWED.false))
