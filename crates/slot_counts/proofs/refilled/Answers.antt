-- `slot_counts::refilled` meets its contract: the queue that is read is below 64, and its count has room for a block.
use mathlib.Core.Path.{ap}
use Prim.Native.Nat.{◌<◌}
use Rattle.layout.specs.Lengths.{queue_places}
use Rattle.layout.specs.Calls.{chosen_in}
use Rattle.slot_counts.proofs.Changes.{fits_more, raised}
use Rattle.slot_counts.proofs.refilled.Goals as goal
use Rattle.slot_counts.proofs.refilled.Goals.{In-Some}

-- The queue that is read is below 64.
there : (c : In-Some) → c.in-Some.queue < queue_places
there c = c.requires.2 c.in-Some.queue (ap chosen_in c.in-Some.is)

pub bounds-heads-queue : goal.bounds-heads-queue
bounds-heads-queue c = there (goal.at.bounds-heads-queue c).In-Some

pub overflow_add-heads : goal.overflow_add-heads
overflow_add-heads c =
    record { fits = fits_more c.args.heads.now c.in-Some.queue c.args.b c.requires.0 c.requires.1 }

pub bounds-heads-queue-in-Some : goal.bounds-heads-queue-in-Some
bounds-heads-queue-in-Some c = there (goal.at.bounds-heads-queue-in-Some c).In-Some

pub returns-in-Some : goal.returns-in-Some
returns-in-Some c =
    rw c.in-Some.is
    (raised c.args.heads.now c.in-Some.queue c.args.b c.told-heads (there (goal.at.returns-in-Some c).In-Some))
