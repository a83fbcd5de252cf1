-- What is to be found among the queues left is what was to be found among all.
use Rattle.layout.specs.Counts.{by_queue}
use Rattle.layout.specs.Calls.{arrival_in}
use Rattle.layout.specs.Figures.{figures_in}
use Rattle.arbiter_choice.proofs.Counting.{LooksOn}
use Rattle.arbiter_choice.proofs.choose.Given as goal

abbrev pub invariant-loop : goal.invariant-loop
invariant-loop l =
    LooksOn (figures_in l.regs (by_queue l.tails l.heads l.owing) l.stored) l.regs.last_asked (arrival_in l.coming) l.q
    l.counter
