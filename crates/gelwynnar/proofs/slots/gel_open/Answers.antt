-- `gel_open` meets its contract: 0 at every place, but for the sizes and the last one asked, is a fresh state.
use mathlib.Core.Path.{refl, sym, ◌∙◌}
use Rattle.gelwynnar.proofs.Opened.{opened}
use Rattle.gelwynnar.proofs.slots.gel_open.Goals as goal

pub returns-then-accepted : goal.returns-then-accepted
returns-then-accepted c =
    opened c.args.queues c.args.block c.args.depth (sym c.accepted.ensures ∙ c.if-accepted.true) refl refl
