-- `slot_counts::asked` meets its contract: a request that takes an Owed cell has a queue below 64, and its count has
-- room.
use mathlib.Core.Path.{ap}
use Prim.Native.Nat.{◌<◌}
use native.Mathlib.Omega.{arith}
use Rattle.layout.specs.Lengths.{queue_places}
use Rattle.layout.specs.Calls.{request_in}
use Rattle.slot_counts.proofs.Changes.{fits_more, raised}
use Rattle.slot_counts.proofs.asked.Goals as goal
use Rattle.slot_counts.proofs.asked.Goals.{Then-owes}

-- The queue that is asked for is below 64.
there : (c : Then-owes) → c.in-Some.queue < queue_places
there c = c.requires.1 c.in-Some.queue (ap request_in c.in-Some.is) c.if-owes.true

pub bounds-owing-queue : goal.bounds-owing-queue
bounds-owing-queue c = there (goal.at.bounds-owing-queue c).Then-owes

pub overflow_add-owing : goal.overflow_add-owing
overflow_add-owing c = omega (arith, fits_more c.args.owing.now c.in-Some.queue 1 c.requires.0 (omega arith))

pub bounds-owing-queue-2 : goal.bounds-owing-queue-2
bounds-owing-queue-2 c = there (goal.at.bounds-owing-queue-2 c).Then-owes

pub returns-then-owes : goal.returns-then-owes
returns-then-owes c =
    rw (c.in-Some.is, c.if-owes.true)
    (raised c.args.owing.now c.in-Some.queue 1 c.told-owing (there (goal.at.returns-then-owes c).Then-owes))
