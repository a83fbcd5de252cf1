-- `caches::all_below` meets its contract: the chain tests each of the first n entries.
use mathlib.Core.Path.{◌∙◌}
use Prim.Native.Nat.{◌/◌}
use lib.Dec.{ltb}
use lib.ListN.{take}
use borrow.Author.Rules.{rules}
use borrow.Author.Tests.{tests}
use Rattle.std.proofs.lemmas.Iterator.{YieldsList-from_slice}
use Rattle.std.proofs.lemmas.Iterator.Search.{all_from_yields_List}
use Rattle.layout.specs.Entries.{bytes_in}
use Rattle.caches.proofs.Below.{entries_below}
use Rattle.caches.proofs.all_below.Goals as goal

pub returns : goal.returns
unfolding bytes_in
returns c =
    let a = c.args in
    all_from_yields_List (λ x. ltb (x / 256) a.queues) _ _ c.all.result c.all.ensures.ran
    (YieldsList-from_slice (take a.n a.entries.now) cc) (λ x b q k. search (rules, tests))
    ∙ entries_below a.queues (take a.n a.entries.now)
