-- `makes_room` meets its contract: its tests are those of the figures, each made only where those before it hold.
use Rattle.std.proofs.Common.{sym, ◌∙◌}
use Rattle.layout.specs.Entries.{counts_in}
use Rattle.layout.specs.Calls.{request_in}
use Rattle.slot_refusals.proofs.Judging.{asked_alike, held_room}
use Rattle.slot_refusals.proofs.makes_room.Goals as goal

pub returns-then-not-owes : goal.returns-then-not-owes
unfolding counts_in
returns-then-not-owes c =
    let a = c.args in
    held_room (counts_in a.tails.now) a.owes (request_in a.request) a.queue
    (asked_alike a.request a.queue ∙ sym c.eq.ensures ∙ c.if-not-owes.true.0) c.if-not-owes.true.1
