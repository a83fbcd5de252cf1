-- `slot_counts::wrote` meets its contract: the queue that is written is below 64, and has a block to send.
use mathlib.Core.Path.{ap}
use Prim.Native.Nat.{◌≤◌, ◌<◌}
use Rattle.layout.specs.Lengths.{queue_places}
use Rattle.layout.specs.Entries.{counts_in}
use Rattle.layout.specs.Calls.{chosen_in}
use Rattle.slot_counts.proofs.Changes.{count_at, lowered}
use Rattle.slot_counts.proofs.wrote.Goals as goal
use Rattle.slot_counts.proofs.wrote.Goals.{In-Some}

-- The queue that is written is below 64, and has a block.
there : (c : In-Some)
    → let q = c.in-Some.queue in (q < queue_places) × (c.args.b ≤ counts_in c.args.tails.now q)
there c = c.requires c.in-Some.queue (ap chosen_in c.in-Some.is)

pub bounds-tails-queue : goal.bounds-tails-queue
bounds-tails-queue c = (there (goal.at.bounds-tails-queue c).In-Some).0

pub overflow_sub-tails : goal.overflow_sub-tails
overflow_sub-tails c =
    count_at c.args.tails.now c.in-Some.queue c.args.b (there (goal.at.overflow_sub-tails c).In-Some).1

pub bounds-tails-queue-in-Some : goal.bounds-tails-queue-in-Some
bounds-tails-queue-in-Some c = (there (goal.at.bounds-tails-queue-in-Some c).In-Some).0

pub returns-in-Some : goal.returns-in-Some
returns-in-Some c =
    rw c.in-Some.is
    (lowered c.args.tails.now c.in-Some.queue c.args.b c.told-tails (there (goal.at.returns-in-Some c).In-Some).0)
