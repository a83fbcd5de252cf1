-- `fullest_of` meets its contract: what was found is the fullest of the first i queues, and `least` is what the next
-- must have.
use Rattle.std.proofs.Common.{◌≡◌}
use Rattle.model.specs.Slot.{fullest}
use Rattle.layout.specs.Entries.{counts_in}
use Rattle.layout.specs.Calls.{chosen_in}
use Rattle.buffer_choices.proofs.Fullest.{least_of}
use Rattle.buffer_choices.proofs.fullest_of.Given as goal

abbrev pub invariant-loop-i : goal.invariant-loop-i
invariant-loop-i l =
    (chosen_in l.found ≡ fullest l.b (counts_in l.counts) l.i)
    × (l.least ≡ least_of l.b (counts_in l.counts) (fullest l.b (counts_in l.counts) l.i))
