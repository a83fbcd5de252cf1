-- `State::fresh` meets its contract: the last one asked is one below the number of queues, or 0 where there is none.
use Rattle.buffer.proofs.State.fresh.Goals as goal

pub returns : goal.returns
returns c = rw c.saturating_sub.ensures
