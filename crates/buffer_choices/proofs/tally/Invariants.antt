-- `tally` meets its contract: the counts are those of the entries so far.
use Rattle.layout.specs.Entries.{bytes_in}
use Rattle.buffer_choices.specs.Says.{TallyOfAll}
use Rattle.buffer_choices.proofs.tally.Given as goal

abbrev pub invariant-loop-entry : goal.invariant-loop-entry
invariant-loop-entry l = TallyOfAll l.counts (bytes_in l.entry-index l.entries)
