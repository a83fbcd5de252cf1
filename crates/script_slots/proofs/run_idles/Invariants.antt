-- Whoever runs the idle slots that are left has run all n, and a stretch is some of those left.
use Rattle.model.specs.Calls.{idles}
use Rattle.layout.specs.Counts.{by_queue}
use Rattle.layout.specs.Views.{arrays, state_in}
use Rattle.script_slots.proofs.Going.{Going}
use Rattle.script_slots.proofs.run_idles.Given as goal

abbrev pub invariant-loop-left : goal.invariant-loop-left
invariant-loop-left l =
    Going (state_in l.initial.reached.regs (arrays l.initial.tail l.initial.head l.initial.cells l.initial.firsts l.initial.stored))
    l.initial.store (idles l.n) l.initial.reached.slots l.initial.reached.place l.initial.output (idles l.left) l.reached
    (arrays l.tail l.head l.cells l.firsts l.stored) (by_queue l.tails l.heads l.owing) l.store l.output

abbrev pub decreases-loop-left : goal.decreases-loop-left
decreases-loop-left l = l.left
