-- `slot_steps::write` meets its contract: the next block of the queue's ring lies in the store.
use mathlib.Core.Path.{ap}
use native.Mathlib.Omega.{arith}
use Rattle.layout.specs.Calls.{chosen_in}
use Rattle.slot_steps.proofs.Places.{queue_in_arrays, block_in_store}
use Rattle.slot_steps.proofs.Writing.{Writable, writable, writes_block}
use Rattle.slot_steps.proofs.write.Goals as goal
use Rattle.slot_steps.proofs.write.Goals.{In-Some}

-- What is known of the queue to write, from the match on.
known : (c : In-Some)
    → let a = c.args in Writable a.regs a.fill a.tail.now a.firsts.now a.stored.now a.store.now c.in-Some.queue
known c =
    let r = c.requires in
    writable r.0 r.1 r.2 (r.3 c.in-Some.queue (ap chosen_in c.in-Some.is))

pub bounds-firsts-q : goal.bounds-firsts-q
bounds-firsts-q c = queue_in_arrays (known (goal.at.bounds-firsts-q c).In-Some).next_block

pub bounds-stored-q : goal.bounds-stored-q
bounds-stored-q c = queue_in_arrays (known (goal.at.bounds-stored-q c).In-Some).next_block

pub write_out-requires : goal.write_out-requires
write_out-requires c =
    let w = known (goal.at.write_out-requires c).In-Some in
    (c.requires.0, block_in_store w.next_block, w.bytes_wait)

pub overflow_add-stored : goal.overflow_add-stored
overflow_add-stored c = omega (arith, (known (goal.at.overflow_add-stored c).In-Some).count_small)

pub overflow_sub-result : goal.overflow_sub-result
overflow_sub-result c = (known (goal.at.overflow_sub-result c).In-Some).block_in_fill

pub returns : goal.returns
returns c =
    rw c.in-Some.is (writes_block (known (goal.at.returns c).In-Some) (omega arith) c.write_out.ensures)
