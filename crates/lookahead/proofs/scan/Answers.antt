-- `scan` meets its contract: before cell i the scan of the cells from `from` on answers as that of the cells from i on
-- with the credits left, whatever follows; the measure is the number of cells left.
use mathlib.Core.Path.{◌≡◌}
use Prim.Native.Nat.{◌<◌}
use native.Mathlib.Omega.{arith}
use lib.ListN.{length}
use borrow.Author.Rules.{rules}
use Rattle.layout.specs.Lengths.{queue_places}
use Rattle.layout.proofs.Cells.{queue_at, queue_below}
use Rattle.lookahead.proofs.Turns.{scan_starts, scan_ends_lem, scan_covers, scan_lacks, scan_empties}
use Rattle.lookahead.proofs.scan.Goals as goal
use Rattle.lookahead.proofs.scan.Goals.{Then-c-ge-HELD}

-- A cell that the scan comes to and that is not empty is of a queue below 64.
its-queue : (c : Then-c-ge-HELD)
    → queue_at c.args.cells.now c.loop-i.i < queue_places
its-queue c =
    let start = c in
    queue_below start.args.cells.now start.requires.1 (omega arith) queue_places start.requires.2 (omega arith)

pub loop-i-init : goal.loop-i-init
loop-i-init c =
    let start = c in
    let long : length start.args.credits ≡ queue_places = search rules in
    scan_starts start.requires.0 long

pub bounds-left-q : goal.bounds-left-q
bounds-left-q c = queue_below c.args.cells.now c.requires.1 (omega arith) queue_places c.requires.2 (omega arith)

pub bounds-left-q-then-c-ge-HELD : goal.bounds-left-q-then-c-ge-HELD
bounds-left-q-then-c-ge-HELD c = its-queue (goal.at.bounds-left-q-then-c-ge-HELD c).Then-c-ge-HELD

pub bounds-left-q-then-c-ge-HELD-2 : goal.bounds-left-q-then-c-ge-HELD-2
bounds-left-q-then-c-ge-HELD-2 c = its-queue (goal.at.bounds-left-q-then-c-ge-HELD-2 c).Then-c-ge-HELD

-- By the arm that takes what the cell takes of the credits, or past empty cells.
pub loop-i-preserved-then-c-ge-HELD : goal.loop-i-preserved-then-c-ge-HELD
loop-i-preserved-then-c-ge-HELD c =
    let cell = c in
    let at = cell in
    scan_covers at.requires.1 at.loop-i.invariant (omega arith) (its-queue (goal.at.loop-i-preserved-then-c-ge-HELD c).Then-c-ge-HELD) (omega (arith, c.if-left-q.false))

pub past_empties-i-requires : goal.past_empties-i-requires
past_empties-i-requires c =
    let at = c in
    (omega arith, at.requires.1)

pub loop-i-smaller : goal.loop-i-smaller
loop-i-smaller c = omega (arith, c.past_empties-i.ensures.onward, c.past_empties-i.ensures.within)

pub loop-i-preserved : goal.loop-i-preserved
loop-i-preserved c =
    let cell = c in
    let at = cell in
    scan_empties at.requires.1 at.loop-i.invariant (omega (arith, cell.if-c-ge-HELD.false)) c.past_empties-i.ensures

pub returns-then-i-l : goal.returns-then-i-l
returns-then-i-l c =
    let inv = c.loop-i.invariant in
    (scan_ends_lem c.requires.1 inv c.if-i-l.true, inv.onwards, inv.within)

pub returns-then-left-q : goal.returns-then-left-q
returns-then-left-q c =
    let inv = c.loop-i.invariant in
    let fits = c.requires.1 in
    (scan_lacks fits inv (omega arith) c.if-left-q.true, inv.onwards, inv.within)
