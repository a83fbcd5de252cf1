-- `examples_hold` meets its contract: it is the theorem of Examples.
use Rattle.model.proofs.Examples.{examples-hold}
use Rattle.model.proofs.examples_hold.Goals as goal

pub returns : goal.returns
returns c = examples-hold
