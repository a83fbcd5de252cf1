-- `judge` meets its contract: before each turn the whole script has the number and the offset of the script from the
-- place on; the measure is what is left of it.
use Prim.Native.Nat.{◌-◌}
use lib.ListN.{length}
use Rattle.scripts.proofs.Turns.{JudgedTo}
use Rattle.scripts.proofs.judge.Given as goal

abbrev pub invariant-loop-refusal : goal.invariant-loop-refusal
invariant-loop-refusal l = JudgedTo l.script l.at l.first

abbrev pub decreases-loop-refusal : goal.decreases-loop-refusal
decreases-loop-refusal l = length l.script - l.at
