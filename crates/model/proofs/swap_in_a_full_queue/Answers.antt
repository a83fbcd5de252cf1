-- `swap_in_a_full_queue` meets its contract: it is the theorem of Swaps.
use Rattle.model.proofs.Swaps.{swap_says}
use Rattle.model.proofs.swap_in_a_full_queue.Goals as goal

pub returns : goal.returns
returns c = swap_says
