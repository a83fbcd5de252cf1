-- `read_back_over_calls` meets its contract, which is the read-back itself.
use Rattle.scripts.proofs.Back.{read_back}
use Rattle.scripts.proofs.read_back_over_calls.Goals as goal

pub returns : goal.returns
returns c = read_back
