-- `caches::tally` meets its contract: the counts are those of the first i bytes, and each turn counts one more.
use Rattle.layout.specs.Entries.{bytes_in}
use Rattle.layout.specs.Counts.{Tally}
use Rattle.caches.proofs.tally.Given as goal

abbrev pub invariant-loop-entry : goal.invariant-loop-entry
invariant-loop-entry l = Tally l.counts (bytes_in l.entry-index l.entries)
