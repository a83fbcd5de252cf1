-- `tally` meets its contract: the counts start at 0, and each entry adds one to the count of its queue.
use Rattle.std.proofs.Common.{◌/◌, get_or, arith}
use Rattle.buffer_choices.proofs.Tallies.{tally_starts, tally_low, tally_one}
use Rattle.buffer_choices.proofs.tally.Goals as goal

pub loop-entry-init : goal.loop-entry-init
loop-entry-init c = tally_starts c.args.entries.now

pub overflow_add-counts : goal.overflow_add-counts
overflow_add-counts c =
    let entries = c.args.entries.now in
    let l = c.loop-entry in
    omega (arith, tally_low l.counts entries l.entry-index (get_or entries l.entry-index 0 / 256) (omega arith) l.invariant)

pub loop-entry-preserved : goal.loop-entry-preserved
loop-entry-preserved c =
    let l = c.loop-entry in
    tally_one l.counts c.args.entries.now l.entry-index (omega arith) (omega (arith, c.type_inv.entries l.entry-index))
    l.invariant
