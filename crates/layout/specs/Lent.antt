-- What is lent to a function that may change it, as its contract names it, each array once: `given` in a `requires`; in
-- an `ensures` `found` and `left`, as the function found the arrays and as it left them. The same for the three arrays
-- of counts.
use Rattle.std.specs.Prelude.{List, ℕ}
use Rattle.std.specs.Borrow.{MutBor}
use denote.Triple.Both.{Both}
use Rattle.layout.specs.Counts.{ByQueue, by_queue}
use Rattle.layout.specs.Views.{Arrays, arrays}

abbrev pub Array : Type 0
Array = MutBor (List ℕ)

abbrev pub Lent : Type 0
Lent = Both Array Array

abbrev pub given : Array → Array → Array → Array → Array → Arrays
given t h c f s = arrays t.now h.now c.now f.now s.now

abbrev pub found : Lent → Lent → Lent → Lent → Lent → Arrays
found t h c f s = given t.entry h.entry c.entry f.entry s.entry

abbrev pub left : Lent → Lent → Lent → Lent → Lent → Arrays
left t h c f s = given t.exit h.exit c.exit f.exit s.exit

abbrev pub counts_given : Array → Array → Array → ByQueue
counts_given t h o = by_queue t.now h.now o.now

abbrev pub counts_found : Lent → Lent → Lent → ByQueue
counts_found t h o = counts_given t.entry h.entry o.entry

abbrev pub counts_left : Lent → Lent → Lent → ByQueue
counts_left t h o = counts_given t.exit h.exit o.exit
