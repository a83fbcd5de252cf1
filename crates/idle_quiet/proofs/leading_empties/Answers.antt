-- `idle_quiet::leading_empties` meets its contract: the first cell that is not empty ends the count.
use mathlib.Core.Path.{ap, ◌∙◌}
use native.Mathlib.Omega.{arith}
use lib.Dec.{leb}
use lib.ListN.{take}
use borrow.Author.Rules.{rules}
use borrow.Author.Tests.{tests}
use Rattle.std.specs.Option.{unwrap_or}
use Rattle.std.proofs.lemmas.Iterator.{YieldsList-from_slice}
use Rattle.std.proofs.lemmas.Iterator.Search.{position_from_yields_List}
use Rattle.idle_quiet.proofs.Leading.{leading_found}
use Rattle.idle_quiet.proofs.leading_empties.Goals as goal

pub returns : goal.returns
returns c =
    let a = c.args in
    let found =
    position_from_yields_List (λ x. leb 65536 x) _ _ c.position.result c.position.ensures.ran
    (YieldsList-from_slice (take a.l a.cells.now) cc) (λ x b q k. search (rules, tests)) in
    c.unwrap_or.ensures
    ∙ ap (λ r. unwrap_or r a.l) found
    ∙ leading_found a.l a.cells.now (omega (arith, c.requires.0, c.requires.1))
