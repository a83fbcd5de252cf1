-- `caches::read_in` meets its contract: after i turns i bytes of the store have joined.
use Prim.Native.Nat.{◌+◌, ◌-◌}
use native.Mathlib.Omega.{arith}
use lib.ListN.{length-take}
use Rattle.caches.proofs.Places.{part_at}
use Rattle.caches.proofs.Reading.{reads_one}
use Rattle.caches.proofs.read_in.Goals as goal

pub loop-i-preserved : goal.loop-i-preserved
loop-i-preserved c =
    let a = c.args in
    let l = c.loop-i in
    let more = simp length-take at c.loop-i-test.true in
    rw (part_at a.store.now a.place (a.place + a.b - a.place) l.i c.loop-i-test.true)
    (reads_one a.n a.q a.place a.entries.now a.store.now l.entries l.i
    (omega (arith, more)) (omega (arith, more)) (omega (arith, c.type_inv.store (a.place + l.i))) l.invariant)
