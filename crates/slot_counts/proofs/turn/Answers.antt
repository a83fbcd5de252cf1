-- `slot_counts::turn` meets its contract: its calls are the steps of a slot in their order.
use Rattle.layout.specs.Calls.{call_in}
use Rattle.slot_counts.proofs.Steps.{tails_asked_lem}
use Rattle.slot_counts.proofs.turn.Goals as goal

pub spend-requires : goal.spend-requires
spend-requires c =
    let pre = c.requires in
    (c.told-heads, λ q e. ((pre.4 q e).0, (pre.4 q e).1))

pub spend-requires-2 : goal.spend-requires-2
spend-requires-2 c =
    let pre = c.requires in
    (c.told-owing, λ q e. ((pre.4 q e).0, (pre.4 q e).2))

pub wrote-requires : goal.wrote-requires
wrote-requires c =
    let a = c.args in
    let found = tails_asked_lem (call_in a.call) a.owes a.tails.now c.arrived.ensures c.taken.ensures in
    λ q e. ((c.requires.8 q e).0, rw found (c.requires.8 q e).1)
