-- `caches::write_out` meets its contract: until the block is whole each of the first i entries was sent or kept, and
-- the store may hold anything at the place that comes next; then the rest is kept.
use Prim.Native.Nat.{◌-◌}
use Rattle.caches.proofs.Writing.{Sending}
use Rattle.caches.proofs.write_out.Given as goal

abbrev pub invariant-loop-gone : goal.invariant-loop-gone
invariant-loop-gone l = Sending l.n l.q l.b l.place l.initial.entries l.initial.store l.entries l.store l.gone l.i

abbrev pub decreases-loop-gone : goal.decreases-loop-gone
decreases-loop-gone l = l.n - l.i
