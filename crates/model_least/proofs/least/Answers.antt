use Rattle.model_least.proofs.Smallest.{least}
use Rattle.model_least.proofs.least.Goals as goal

pub returns : goal.returns
returns c = least
