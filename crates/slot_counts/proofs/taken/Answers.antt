-- `slot_counts::taken` meets its contract: a request that takes a tail byte has a queue below 64, with a byte to take.
use mathlib.Core.Path.{ap}
use Prim.Native.Nat.{◌≤◌, ◌<◌}
use Rattle.layout.specs.Lengths.{queue_places}
use Rattle.layout.specs.Entries.{counts_in}
use Rattle.layout.specs.Calls.{request_in}
use Rattle.slot_counts.proofs.Changes.{count_at, lowered}
use Rattle.slot_counts.proofs.taken.Goals as goal
use Rattle.slot_counts.proofs.taken.Goals.{Then-not-owes}

-- The queue that is asked for is below 64, and has a tail byte.
there : (c : Then-not-owes)
    → let q = c.in-Some.queue in (q < queue_places) × (1 ≤ counts_in c.args.tails.now q)
there c = c.requires c.in-Some.queue (ap request_in c.in-Some.is) c.if-not-owes.true

pub bounds-tails-queue : goal.bounds-tails-queue
bounds-tails-queue c = (there (goal.at.bounds-tails-queue c).Then-not-owes).0

pub overflow_sub-tails : goal.overflow_sub-tails
overflow_sub-tails c =
    count_at c.args.tails.now c.in-Some.queue 1 (there (goal.at.overflow_sub-tails c).Then-not-owes).1

pub bounds-tails-queue-2 : goal.bounds-tails-queue-2
bounds-tails-queue-2 c = (there (goal.at.bounds-tails-queue-2 c).Then-not-owes).0

pub returns-then-not-owes : goal.returns-then-not-owes
returns-then-not-owes c =
    rw (c.in-Some.is, c.if-not-owes.true)
    (lowered c.args.tails.now c.in-Some.queue 1 c.told-tails (there (goal.at.returns-then-not-owes c).Then-not-owes).0)
