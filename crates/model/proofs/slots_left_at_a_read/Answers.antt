-- `slots_left_at_a_read` meets its contract: it is the two theorems of SlotsLeft.
use Rattle.model.proofs.SlotsLeft.{slots_left_say, leaves_then}
use Rattle.model.proofs.slots_left_at_a_read.Goals as goal

pub returns : goal.returns
returns c = (slots_left_say, leaves_then)
