-- `slot_steps::read` meets its contract: the first block of the queue's ring lies in the store, and the head has room.
use mathlib.Core.Path.{ap}
use native.Mathlib.Omega.{arith}
use Rattle.layout.specs.Calls.{chosen_in}
use Rattle.slot_steps.proofs.Places.{queue_in_arrays, block_in_store}
use Rattle.slot_steps.proofs.Reading.{Readable, readable, reads_block}
use Rattle.slot_steps.proofs.read.Goals as goal
use Rattle.slot_steps.proofs.read.Goals.{In-Some}

-- What is known of the queue to read, from the match on.
known : (c : In-Some)
    → let a = c.args in Readable a.regs a.fill a.head.now a.firsts.now a.stored.now a.store.now c.in-Some.queue
known c = readable c.requires.1 c.requires.2 (c.requires.3 c.in-Some.queue (ap chosen_in c.in-Some.is))

pub bounds-firsts-q : goal.bounds-firsts-q
bounds-firsts-q c = queue_in_arrays (known (goal.at.bounds-firsts-q c).In-Some).first_block

pub read_in-requires : goal.read_in-requires
read_in-requires c =
    let w = known (goal.at.read_in-requires c).In-Some in
    (w.room, block_in_store w.first_block)

pub bounds-firsts-q-2 : goal.bounds-firsts-q-2
bounds-firsts-q-2 c = queue_in_arrays (known (goal.at.bounds-firsts-q-2 c).In-Some).first_block

pub bounds-stored-q : goal.bounds-stored-q
bounds-stored-q c = queue_in_arrays (known (goal.at.bounds-stored-q c).In-Some).first_block

pub overflow_sub-stored : goal.overflow_sub-stored
overflow_sub-stored c = (known (goal.at.overflow_sub-stored c).In-Some).has_block

pub bounds-stored-q-2 : goal.bounds-stored-q-2
bounds-stored-q-2 c = queue_in_arrays (known (goal.at.bounds-stored-q-2 c).In-Some).first_block

pub returns : goal.returns
returns c =
    rw c.in-Some.is
    (reads_block (known (goal.at.returns c).In-Some) (omega arith) (omega arith) c.read_in.ensures)
