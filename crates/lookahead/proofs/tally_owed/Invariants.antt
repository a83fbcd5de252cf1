-- `tally_owed` meets its contract: before a cell the counts are those of the cells before it, so that none passes the
-- number of cells.
use Rattle.lookahead.proofs.Turns.{TalliedTo}
use Rattle.lookahead.proofs.tally_owed.Given as goal

abbrev pub invariant-loop-cell : goal.invariant-loop-cell
invariant-loop-cell l = TalliedTo l.cell-index l.n l.cells l.counts
