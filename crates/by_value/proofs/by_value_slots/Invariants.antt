-- `by_value_slots` meets its contract: before call i the first i calls have been run as the model's list.
use Rattle.std.proofs.Common.{◌≡◌, map, length}
use Rattle.run_words.specs.Words.{call_of}
use Rattle.run_in_place.proofs.Turns.{RunTo}
use Rattle.buffer.specs.Says.{state_of}
use Rattle.by_value.proofs.by_value_slots.Given as goal

abbrev pub invariant-loop-i : goal.invariant-loop-i
invariant-loop-i l =
    (length l.answers ≡ length l.initial.answers) × (length l.store ≡ length l.initial.store)
    × RunTo l.i (state_of l.initial.last.state) l.initial.store (map call_of l.calls) l.initial.answers l.answers (state_of l.last.state) l.store
