-- `spend` meets its contract: an Owed cell's queue is below 64 and has one to take.
use Prim.Native.Nat.{◌/◌, ◌%◌, ◌≤◌, ◌<◌}
use native.Mathlib.Omega.{arith}
use lib.ListN.{get_or}
use Rattle.layout.specs.Lengths.{queue_places}
use Rattle.lookahead.proofs.Spending.{spendable_at, spends_nothing, spends_one}
use Rattle.lookahead.proofs.spend.Goals as goal
use Rattle.lookahead.proofs.spend.Goals.{Then-leaving-ge-OWED}

-- An Owed cell's queue, and that it has one to take.
there : (c : Then-leaving-ge-OWED)
    → (c.args.leaving / 256 % 256 < queue_places) × (1 ≤ get_or c.args.counts.now (c.args.leaving / 256 % 256) 0)
there c = spendable_at c.args.counts.now c.args.leaving c.requires.1 c.if-leaving-ge-OWED.true

pub bounds-counts-q : goal.bounds-counts-q
bounds-counts-q c = (there (goal.at.bounds-counts-q c).Then-leaving-ge-OWED).0

pub overflow_sub-counts : goal.overflow_sub-counts
overflow_sub-counts c = (there (goal.at.overflow_sub-counts c).Then-leaving-ge-OWED).1

pub bounds-counts-q-then-leaving-ge-OWED : goal.bounds-counts-q-then-leaving-ge-OWED
bounds-counts-q-then-leaving-ge-OWED c = (there (goal.at.bounds-counts-q-then-leaving-ge-OWED c).Then-leaving-ge-OWED).0

pub returns-then-leaving-ge-OWED : goal.returns-then-leaving-ge-OWED
returns-then-leaving-ge-OWED c =
    let start = c in
    spends_one start.args.counts.now start.args.leaving start.requires.0 c.if-leaving-ge-OWED.true (there (goal.at.returns-then-leaving-ge-OWED c).Then-leaving-ge-OWED).0

pub returns-else-leaving-ge-OWED : goal.returns-else-leaving-ge-OWED
returns-else-leaving-ge-OWED c =
    let start = c in
    spends_nothing start.args.counts.now start.args.leaving start.requires.0 (omega (arith, c.if-leaving-ge-OWED.false))
