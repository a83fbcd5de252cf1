-- `caches::fullest_of` meets its contract: what was found is the fullest of the first i queues, and `most` its count.
use mathlib.Core.Path.{◌≡◌}
use mathlib.Core.Option.{some}
use Prim.Native.Nat.{◌+◌}
use native.Mathlib.Omega.{arith}
use lib.ListN.{get_or, take, length-take}
use lib.Seq.{get_or-take}
use Rattle.model.specs.Slot.{fullest}
use Rattle.layout.specs.Entries.{counts_in}
use Rattle.caches.proofs.Fullest.{fullest-next, fullest-stays}
use Rattle.caches.proofs.fullest_of.Goals as goal
use Rattle.caches.proofs.fullest_of.Goals.{then-bytes-most, else-bytes-most}

pub loop-i-preserved : goal.loop-i-preserved
unfolding counts_in
loop-i-preserved c =
    let a = c.args in
    let bytes = counts_in a.counts.now in
    let l = c.loop-i in
    let at : get_or (take a.n a.counts.now) l.i 0 ≡ get_or a.counts.now l.i 0 =
    get_or-take a.n a.counts.now l.i 0 (omega (arith, simp length-take at c.loop-i-test.true)) in
    elim c.if-bytes-most.branch [
      | then-bytes-most w ↦
          let e : fullest a.b bytes (l.i + 1) ≡ some l.i =
          fullest-next a.b bytes l.i c.requires.2 (omega (arith, at, w.if-bytes-most.true, l.invariant.1)) in
          (rw (w.found-is, e), rw (w.most-is, e, at))
      | else-bytes-most w ↦
          let e : fullest a.b bytes (l.i + 1) ≡ fullest a.b bytes l.i =
          fullest-stays a.b bytes l.i c.requires.2 (omega (arith, at, w.if-bytes-most.false, l.invariant.1)) in
          (rw (w.found-is, e) l.invariant.0, rw (w.most-is, e) l.invariant.1)
    ]
