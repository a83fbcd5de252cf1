-- `State::step` meets its contract: it is the slot, of a state of which 3 and 2 are ruled out.
use Rattle.buffer.proofs.Promises.{step_says}
use Rattle.buffer.proofs.State.step.Goals as goal

pub returns : goal.returns
returns c = step_says c.slot.ensures c.requires.0
