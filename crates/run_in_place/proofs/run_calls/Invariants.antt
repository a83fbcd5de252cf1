-- Before call i the first i calls have been run as the model's list, and the state is ready for the next.
use Rattle.std.proofs.Common.{◌≡◌, map, length, get_or}
use Rattle.layout.specs.Counts.{by_queue}
use Rattle.layout.specs.Views.{arrays, regs_in, state_in}
use Rattle.slot_in_place.specs.Says.{Ready}
use Rattle.run_words.specs.Words.{call_of}
use Rattle.run_in_place.specs.Says.{advanced_in}
use Rattle.run_in_place.proofs.Turns.{RunTo, FirstTo}
use Rattle.run_in_place.proofs.run_calls.Given as goal

abbrev pub invariant-loop-i : goal.invariant-loop-i
invariant-loop-i l =
    Ready l.last.regs (arrays l.tail l.head l.cells l.firsts l.stored) (by_queue l.tails l.heads l.owing) l.store
    × RunTo l.i
    (state_in (regs_in l.regs)
    (arrays l.initial.tail l.initial.head l.initial.cells l.initial.firsts l.initial.stored))
    l.initial.store (map call_of l.calls) l.initial.answers l.answers
    (state_in l.last.regs (arrays l.tail l.head l.cells l.firsts l.stored)) l.store
    × (length l.answers ≡ length l.initial.answers)
    × (length l.store ≡ length l.initial.store)
    × FirstTo l.i (regs_in l.regs)
    (arrays l.initial.tail l.initial.head l.initial.cells l.initial.firsts l.initial.stored) l.initial.store
    (get_or (map call_of l.calls) 0 (call_of 0))
    (advanced_in l.last) (arrays l.tail l.head l.cells l.firsts l.stored) (by_queue l.tails l.heads l.owing) l.store
