-- `scan` meets its contract: before cell i it answers as the scan of the cells from i on with the credits left.
use Rattle.std.proofs.Common.{◌≤◌, length, arith, rules}
use Rattle.model.proofs.basics.Tests.{positive}
use Rattle.buffer_choices.proofs.Scanning.{scan_starts, scan_ends_lem, scan_skips, scan_finds, scan_spends}
use Rattle.buffer_choices.proofs.scan.Goals as goal
use Rattle.buffer_choices.proofs.scan.Goals.{then-cell-ge-OWED+else-left-q-eq0, else-cell-ge-OWED}

pub loop-i-init : goal.loop-i-init
loop-i-init c = scan_starts (length c.args.cells.now) c.args.cells.now c.args.credits (search rules)

pub loop-i-preserved : goal.loop-i-preserved
loop-i-preserved c =
    let all : length c.args.cells.now ≤ length c.args.cells.now = omega arith in
    let inv = c.loop-i.invariant in
    elim c.if-cell-ge-OWED.branch [
      | then-cell-ge-OWED+else-left-q-eq0 w ↦ rw w.left-is (scan_spends all inv (omega arith) (omega (arith, w.if-cell-ge-OWED.true)) (omega arith)
          (positive _ w.if-left-q-eq0.false))
      | else-cell-ge-OWED w ↦ rw w.left-is (scan_skips all inv (omega arith) (omega (arith, w.if-cell-ge-OWED.false)))
    ]

pub returns-then-left-q-eq0 : goal.returns-then-left-q-eq0
returns-then-left-q-eq0 c =
    scan_finds (omega arith) c.loop-i.invariant (omega arith) (omega (arith, c.if-cell-ge-OWED.true)) c.if-left-q-eq0.true

pub returns : goal.returns
returns c = scan_ends_lem (omega arith) c.loop-i.invariant (omega arith)
