-- What is left of the script from the place on is good, and whoever runs its slots has run all.
use Rattle.std.proofs.Common.{◌≡◌, ◌-◌, length}
use Rattle.layout.specs.Counts.{by_queue}
use Rattle.layout.specs.Views.{arrays, state_in}
use Rattle.script_slots.proofs.Going.{Going}
use Rattle.script_runner.specs.Says.{script_from, calls_from}
use Rattle.script_runner.proofs.run_commands.Given as goal

abbrev pub invariant-loop-at : goal.invariant-loop-at
invariant-loop-at l =
    Going (state_in l.initial.reached.regs (arrays l.initial.tail l.initial.head l.initial.cells l.initial.firsts l.initial.stored))
    l.initial.store (calls_from l.script l.from) l.initial.reached.slots l.initial.reached.place l.initial.output
    (calls_from l.script l.at) l.reached (arrays l.tail l.head l.cells l.firsts l.stored) (by_queue l.tails l.heads l.owing)
    l.store l.output
    × ((script_from l.script l.at).number ≡ 0)

abbrev pub decreases-loop-at : goal.decreases-loop-at
decreases-loop-at l = length l.script - l.at
