-- `caches::take_oldest` meets its contract: closing up over the place that was found takes the oldest byte out.
use Prim.Native.Nat.{◌<◌}
use native.Mathlib.Omega.{arith}
use Rattle.caches.proofs.Closing.{oldest_below, took_oldest}
use Rattle.caches.proofs.take_oldest.Goals as goal
use Rattle.caches.proofs.take_oldest.Goals.{After-place_of-p}

-- The place that was found is one of the first n.
found_below : (c : After-place_of-p) → c.place_of-p.result < c.args.n
found_below c =
    let a = c.args in
    let p = c.requires in
    omega (arith, c.place_of-p.ensures, oldest_below a.q a.n a.entries.now p.0 p.1)

pub offset_bounds-entries-p : goal.offset_bounds-entries-p
offset_bounds-entries-p c = omega (arith, found_below (goal.at.offset_bounds-entries-p c).After-place_of-p)

pub bounds-entries-p : goal.bounds-entries-p
bounds-entries-p c = omega (arith, found_below (goal.at.bounds-entries-p c).After-place_of-p)

pub close_up-requires : goal.close_up-requires
close_up-requires c = omega (arith, found_below (goal.at.close_up-requires c).After-place_of-p)

pub returns : goal.returns
returns c =
    let found = c in
    let start = found in
    let a = start.args in
    let closed = c.close_up in
    took_oldest a.q a.n a.entries.now start.requires.0 start.requires.1
    found.place_of-p.result
    closed.new.entries
    found.place_of-p.ensures
    closed.ensures
