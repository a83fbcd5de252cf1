-- `served_over_calls` meets its contract: it is the theorem of Served.
use Rattle.buffer_arbiter.proofs.Served.{calls_served}
use Rattle.buffer_arbiter.proofs.served_over_calls.Goals as goal

pub returns : goal.returns
returns c = calls_served
