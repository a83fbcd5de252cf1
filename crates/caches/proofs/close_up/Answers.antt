-- `caches::close_up` meets its contract: the part from p to n closes up over its first entry.
use mathlib.Core.Path.{◌≡◌}
use Prim.Native.Nat.{◌+◌, ◌-◌}
use native.Mathlib.Omega.{arith}
use Rattle.caches.proofs.Closing.{closed-within}
use Rattle.caches.proofs.close_up.Goals as goal

pub returns : goal.returns
returns c =
    let a = c.args in
    let whole : a.p + (a.n - a.p) ≡ a.n = omega arith in
    rw whole at (closed-within a.p (a.n - a.p) a.entries.now c.copy_within.new.self (omega arith) (omega arith) c.copy_within.ensures.after)
