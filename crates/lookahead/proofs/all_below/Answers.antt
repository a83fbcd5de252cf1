-- `all_below` meets its contract: the chain tests each of the first n cells.
use mathlib.Core.Path.{◌∙◌}
use mathlib.Core.Bool.{not, ◌&&◌}
use Prim.Native.Nat.{◌/◌, ◌%◌}
use lib.Dec.{leb}
use lib.ListN.{take}
use borrow.Author.Rules.{rules}
use borrow.Author.Tests.{tests}
use Rattle.std.proofs.lemmas.Iterator.{YieldsList-from_slice}
use Rattle.std.proofs.lemmas.Iterator.Search.{all_from_yields_List}
use Rattle.layout.specs.Entries.{cells_in}
use Rattle.lookahead.proofs.Turns.{cells-are_below}
use Rattle.lookahead.proofs.all_below.Goals as goal

pub returns : goal.returns
unfolding cells_in
returns c =
    let a = c.args in
    all_from_yields_List (λ x. not (leb 65536 x && leb a.queues (x / 256 % 256))) _ _ c.all.result c.all.ensures.ran
    (YieldsList-from_slice (take a.n a.cells.now) cc) (λ x b q k. search (rules, tests))
    ∙ cells-are_below a.queues (take a.n a.cells.now)
