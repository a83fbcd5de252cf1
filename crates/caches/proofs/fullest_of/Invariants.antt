-- `caches::fullest_of` meets its contract: what was found is the fullest of the first i queues, and `most` its count.
use mathlib.Core.Path.{◌≡◌}
use Rattle.model.specs.Slot.{fullest}
use Rattle.layout.specs.Entries.{counts_in}
use Rattle.layout.specs.Calls.{chosen_in}
use Rattle.caches.proofs.Fullest.{most_of}
use Rattle.caches.proofs.fullest_of.Given as goal

abbrev pub invariant-loop-i : goal.invariant-loop-i
invariant-loop-i l =
    (chosen_in l.found ≡ fullest l.b (counts_in l.counts) l.i)
    × (l.most ≡ most_of l.b (counts_in l.counts) (fullest l.b (counts_in l.counts) l.i))
