-- `judge_request` meets its contract: its four tests are those of refusals 6 and 7.
use Rattle.std.proofs.Common.{[], sym, ◌∙◌}
use Rattle.layout.specs.Counts.{by_queue}
use Rattle.layout.specs.Entries.{counts_in}
use Rattle.layout.specs.Calls.{arrival_in}
use Rattle.layout.specs.Figures.{figures_in}
use Rattle.slot_refusals.proofs.Judging.{request-by_tail}
use Rattle.slot_refusals.proofs.judge_request.Goals as goal

pub returns-then-not-arrives-clause-number : goal.returns-then-not-arrives-clause-number
unfolding counts_in
returns-then-not-arrives-clause-number c =
    let a = c.args in
    rw c.in-Some.is
    (request-by_tail (figures_in a.regs (by_queue a.tails.now [] []) []) c.in-Some.queue a.owes
    (arrival_in a.call.arrival) c.if-regs-q.false c.if-not-arrives.true.0
    (sym c.arrives_at-arrives.ensures ∙ c.if-not-arrives.true.1))
