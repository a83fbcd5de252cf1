-- `steps_in_turn` meets its contract, which is the law itself.
use Rattle.buffer_choices.proofs.InTurn.{steps_in_turn}
use Rattle.buffer_choices.proofs.steps_in_turn.Goals as goal

pub returns : goal.returns
returns c = steps_in_turn
