-- `worked_slots` meets its contract: it is the theorem of Worked.
use Rattle.model.proofs.meaning.Worked.{worked_slots, worked_blocks, worked_idle}
use Rattle.model.proofs.worked_slots.Goals as goal

pub returns : goal.returns
returns c = (worked_slots, worked_blocks, worked_idle)
