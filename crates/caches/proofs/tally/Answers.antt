-- `caches::tally` meets its contract: the counts are those of the first i bytes, and each turn counts one more.
use mathlib.Core.Path.{◌≡◌}
use Prim.Native.Nat.{◌/◌, ◌<◌}
use native.Mathlib.Omega.{arith}
use lib.ListN.{get_or, take, length-take}
use lib.Seq.{get_or-take}
use Rattle.layout.specs.Lengths.{queue_places}
use Rattle.layout.specs.Entries.{bytes_in}
use Rattle.layout.proofs.Entries.{bytes-length}
use Rattle.caches.proofs.Below.{queue_below}
use Rattle.caches.proofs.Tallies.{count_le, tally_starts, tally_at, tally_one}
use Rattle.caches.proofs.tally.Goals as goal
use Rattle.caches.proofs.tally.Goals.{In-loop-entry}

pub loop-entry-init : goal.loop-entry-init
loop-entry-init c = tally_starts c.args.entries.now

in_first : (c : In-loop-entry) → c.loop-entry.entry-index < c.args.n
in_first c = omega (arith, simp length-take at c.loop-entry-test.true)

-- The entry that a turn reads is that of its place, and its queue has a count.
entry_at : (c : In-loop-entry) → get_or (take c.args.n c.args.entries.now) c.loop-entry.entry-index 0 ≡ get_or c.args.entries.now c.loop-entry.entry-index 0
entry_at c = get_or-take c.args.n c.args.entries.now c.loop-entry.entry-index 0 (in_first c)

queue_small : (c : In-loop-entry) → get_or (take c.args.n c.args.entries.now) c.loop-entry.entry-index 0 / 256 < queue_places
queue_small c =
    rw (entry_at c)
    (queue_below queue_places c.args.entries.now c.args.n c.loop-entry.entry-index c.requires.1 c.requires.2 (in_first c))

pub bounds-counts-q : goal.bounds-counts-q
bounds-counts-q c = queue_small (goal.at.bounds-counts-q c).In-loop-entry

pub overflow_add-counts : goal.overflow_add-counts
overflow_add-counts c =
    let a = c.args in
    let l = c.loop-entry in
    let q = get_or (take a.n a.entries.now) l.entry-index 0 / 256 in
    let xs = bytes_in l.entry-index a.entries.now in
    omega (
      arith,
      tally_at l.counts xs q l.invariant,
      count_le q xs,
      in_first (goal.at.overflow_add-counts c).In-loop-entry,
      bytes-length l.entry-index a.entries.now (omega (arith, in_first (goal.at.overflow_add-counts c).In-loop-entry)),
    )

pub bounds-counts-q-in-loop-entry : goal.bounds-counts-q-in-loop-entry
bounds-counts-q-in-loop-entry c = queue_small (goal.at.bounds-counts-q-in-loop-entry c).In-loop-entry

pub loop-entry-preserved : goal.loop-entry-preserved
loop-entry-preserved c =
    let a = c.args in
    let l = c.loop-entry in
    let turn = (goal.at.loop-entry-preserved c).In-loop-entry in
    rw (entry_at turn)
    (tally_one l.counts a.entries.now l.entry-index (omega (arith, in_first turn)) (rw (entry_at turn) at (queue_small turn)) l.invariant)
