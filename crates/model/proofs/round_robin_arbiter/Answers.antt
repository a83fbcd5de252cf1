-- `round_robin_arbiter` meets its contract: it is the theorems of arbiter/Choice and arbiter/Fair.
use Rattle.model.proofs.arbiter.Choice.{arbiter_says}
use Rattle.model.proofs.arbiter.Fair.{fair}
use Rattle.model.proofs.round_robin_arbiter.Goals as goal

pub returns : goal.returns
returns c = (arbiter_says, fair)
