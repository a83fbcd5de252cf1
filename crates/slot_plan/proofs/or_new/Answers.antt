-- `or_new` meets its contract: the scan of the new cell alone, by the credits that the older cells have left.
use Rattle.std.proofs.Common.{ap, sym, ◌∙◌}
use Rattle.layout.specs.Entries.{counts_in}
use Rattle.layout.specs.Calls.{request_in}
use Rattle.slot_plan.proofs.Reading.{none_found, new_stops, new_covered}
use Rattle.slot_plan.proofs.or_new.Goals as goal
use Rattle.slot_plan.proofs.or_new.Goals.{else-owes-via-then-owes+else-stopped-queue-eq0, else-owes-via-else-owes}

pub bounds-stopped-queue : goal.bounds-stopped-queue
bounds-stopped-queue c = c.requires c.in_ok-queue.queue (ap request_in c.in_ok-queue.was) c.if-owes.true

pub returns-then-stopped-queue-eq0 : goal.returns-then-stopped-queue-eq0
unfolding counts_in
returns-then-stopped-queue-eq0 c =
    let a = c.args in
    rw (
      none_found a.stopped.found (sym c.is_some.ensures ∙ c.if-is_some.false),
      c.if-owes.true,
      ap request_in c.in_ok-queue.was,
    )
    (new_stops (counts_in a.stopped.left) c.in_ok-queue.queue c.if-stopped-queue-eq0.true)

pub returns : goal.returns
unfolding counts_in
returns c =
    let a = c.args in
    rw (none_found a.stopped.found (sym c.is_some.ensures ∙ c.if-is_some.false), ap request_in c.in_ok-queue.was)
    (elim c.else-owes.branch [
      | else-owes-via-then-owes+else-stopped-queue-eq0 w ↦
          rw w.if-owes.true
          (new_covered (counts_in a.stopped.left) c.in_ok-queue.queue w.if-stopped-queue-eq0.false)
      | else-owes-via-else-owes w ↦ rw w.if-owes.false
    ])
