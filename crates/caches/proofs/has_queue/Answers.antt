-- `caches::has_queue` meets its contract: the fold is true from the first entry of the queue on.
use mathlib.Core.Path.{sym, ◌∙◌}
use mathlib.Core.Bool.{false, ◌||◌}
use Prim.Native.Nat.{◌/◌}
use borrow.Author.Rules.{rules}
use borrow.Author.Tests.{tests}
use lib.Dec.{eqb}
use Rattle.std.proofs.lemmas.Iterator.{YieldsList-from_slice}
use Rattle.std.proofs.lemmas.Iterator.Consumers.{fold_from_yields_List}
use Rattle.caches.proofs.Places.{none-folded}
use Rattle.caches.proofs.has_queue.Goals as goal

pub returns : goal.returns
returns c =
    let a = c.args in
    let is_fold = fold_from_yields_List _ (λ found x. found || eqb (x / 256) a.q) false c.fold.result c.fold.ensures.ran
    (YieldsList-from_slice a.chunk.now cc) (λ f x b q k. search (rules, tests)) in
    λ e. none-folded a.q a.chunk.now (sym is_fold ∙ e)
