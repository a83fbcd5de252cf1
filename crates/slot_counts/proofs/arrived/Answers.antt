-- `slot_counts::arrived` meets its contract: an arriving byte's queue is below 64, and its count has room for one more.
use mathlib.Core.Path.{ap}
use Prim.Native.Nat.{◌<◌}
use native.Mathlib.Omega.{arith}
use Rattle.model.specs.State.{byte}
use Rattle.layout.specs.Lengths.{queue_places}
use Rattle.layout.specs.Calls.{arrival_in}
use Rattle.slot_counts.proofs.Changes.{fits_more, arrival-adds}
use Rattle.slot_counts.proofs.arrived.Goals as goal
use Rattle.slot_counts.proofs.arrived.Goals.{In-Some}

-- The queue of the byte that comes is below 64.
there : (c : In-Some) → c.in-Some.byte.queue < queue_places
there c =
    let came = c.in-Some.byte in
    c.requires.1 (byte came.queue came.value) (ap arrival_in c.in-Some.is)

pub bounds-tails-byte : goal.bounds-tails-byte
bounds-tails-byte c = there (goal.at.bounds-tails-byte c).In-Some

pub overflow_add-tails : goal.overflow_add-tails
overflow_add-tails c =
    record { fits = fits_more c.args.tails.now c.in-Some.byte.queue 1 c.requires.0 (omega arith) }

pub bounds-tails-byte-in-Some : goal.bounds-tails-byte-in-Some
bounds-tails-byte-in-Some c = there (goal.at.bounds-tails-byte-in-Some c).In-Some

pub returns-in-Some : goal.returns-in-Some
returns-in-Some c =
    let came = c.in-Some.byte in
    rw c.in-Some.is
    (arrival-adds c.args.tails.now (byte came.queue came.value) c.told-tails (there (goal.at.returns-in-Some c).In-Some))
