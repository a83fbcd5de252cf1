-- `choose` meets its contract: what is to be found among the queues left is what was to be found among all.
use Rattle.std.proofs.Common.{sym, ◌∙◌}
use Rattle.layout.specs.Counts.{by_queue}
use Rattle.layout.specs.Calls.{arrival_in}
use Rattle.layout.specs.Figures.{figures_in}
use Rattle.arbiter_choice.proofs.Counting.{counted_by_tails, looks_here, looks_on}
use Rattle.arbiter_choice.proofs.choose.Goals as goal

pub returns-then-can_ask : goal.returns-then-can_ask
returns-then-can_ask c =
    let a = c.args in
    looks_here (figures_in a.regs (by_queue a.tails.now a.heads.now a.owing.now) a.stored.now) a.regs.last_asked
    (arrival_in a.arrival) _
    (c.counted-coming.ensures
    ∙ counted_by_tails a.regs a.tails.now a.heads.now a.owing.now a.stored.now (arrival_in a.arrival))
    c.loop-test.true (sym c.if-can_ask.true ∙ c.can_ask.ensures) c.loop.invariant

pub loop-preserved : goal.loop-preserved
loop-preserved c =
    let a = c.args in
    looks_on (figures_in a.regs (by_queue a.tails.now a.heads.now a.owing.now) a.stored.now) a.regs.last_asked
    (arrival_in a.arrival) _ c.loop-test.true (sym c.if-can_ask.false ∙ c.can_ask.ensures)
    c.queue_after-q-in-loop.ensures c.loop.invariant
