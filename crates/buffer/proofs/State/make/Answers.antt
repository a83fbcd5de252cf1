-- `State::make` meets its contract: accepted sizes give the fresh record.
use Rattle.std.proofs.Common.{sym, ◌∙◌}
use Rattle.buffer.proofs.Fresh.{made_fresh}
use Rattle.buffer.proofs.State.make.Goals as goal

pub returns : goal.returns
returns c =
    let a = c.args in
    made_fresh a.queues a.block a.depth _ (sym c.accepted.ensures ∙ c.if-not-accepted.false) c.fresh.ensures
