-- `caches::read_in` meets its contract: after i turns i bytes of the store have joined.
use Rattle.caches.specs.Says.{ReadIn}
use Rattle.caches.proofs.read_in.Given as goal

abbrev pub invariant-loop-i : goal.invariant-loop-i
invariant-loop-i l = ReadIn l.n l.q l.i l.place l.initial.entries l.entries l.store
