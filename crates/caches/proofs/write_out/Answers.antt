-- `caches::write_out` meets its contract: until the block is whole each of the first i entries was sent or kept, and
-- the store may hold anything at the place that comes next; then the rest is kept.
use mathlib.Core.Bool.{Bool, true, false}
use Prim.Native.Nat.{◌/◌, ◌≤◌, ◌<◌}
use native.Mathlib.Omega.{arith}
use lib.Dec.{eqb}
use lib.ListN.{get_or}
use mir.Val.{bool_byte}
use Rattle.caches.proofs.Writing.{sending_starts, sending_goes, sending_ends, pass_ends, more_to_see}
use Rattle.caches.proofs.write_out.Goals as goal
use Rattle.caches.proofs.write_out.Goals.{In-loop-gone}

-- While the block is not whole there is an entry more.
is-more : (c : In-loop-gone)
    → c.loop-gone.i < c.args.n
is-more c =
    let start = c in
    let a = start.args in
    let l = c.loop-gone in
    more_to_see a.n a.q a.b a.place a.entries.now a.store.now
    l.entries l.store l.gone l.i
    l.invariant start.requires.2 (omega arith)

bit : (t : Bool) → bool_byte t ≤ 1
bit true = omega arith
bit false = omega arith

pub loop-gone-init : goal.loop-gone-init
loop-gone-init c =
    let a = c.args in
    sending_starts a.n a.q a.b a.place a.entries.now a.store.now

pub bounds-entries-i : goal.bounds-entries-i
bounds-entries-i c = omega (arith, is-more (goal.at.bounds-entries-i c).In-loop-gone, c.loop-gone.invariant.passed.long)

pub bounds-entries-i-in-loop-gone : goal.bounds-entries-i-in-loop-gone
bounds-entries-i-in-loop-gone c = omega (arith, is-more (goal.at.bounds-entries-i-in-loop-gone c).In-loop-gone, c.loop-gone.invariant.passed.long)

pub overflow_add-gone : goal.overflow_add-gone
overflow_add-gone c =
    let a = c.args in
    let l = c.loop-gone in
    omega (arith, bit (eqb (get_or l.entries l.i 0 / 256) a.q))

pub loop-gone-smaller : goal.loop-gone-smaller
loop-gone-smaller c = omega (arith, is-more (goal.at.loop-gone-smaller c).In-loop-gone)

pub loop-gone-preserved : goal.loop-gone-preserved
loop-gone-preserved c =
    let start = c in
    let a = start.args in
    let l = c.loop-gone in
    sending_goes a.n a.q a.b a.place a.entries.now a.store.now
    l.entries l.store l.gone l.i l.invariant start.requires.0 start.requires.1 (omega arith) (is-more (goal.at.loop-gone-preserved c).In-loop-gone)

pub copy_within-requires : goal.copy_within-requires
copy_within-requires c =
    let w = c.loop-gone.invariant.passed in
    record {
      start_le_end = w.within;
      in_bounds = omega (arith, w.long);
      dest_in_bounds = omega (arith, w.long, w.within, w.gone_le);
      not_exhausted = tt;
    }

pub returns : goal.returns
returns c =
    let a = c.args in
    let l = c.loop-gone in
    let sent = sending_ends a.n a.q a.b a.place a.entries.now a.store.now l.entries l.store l.gone l.i l.invariant (omega arith) in
    rw c.copy_within.ensures.after
    (pass_ends a.n a.q a.b a.place a.entries.now a.store.now c.requires.0 c.requires.2 l.entries l.store l.gone l.i sent (omega arith))
