-- `whole_packets` meets its contract: it is the theorem of Whole.
use Rattle.packets.proofs.Whole.{whole_packets}
use Rattle.packets.proofs.whole_packets.Goals as goal

pub returns : goal.returns
returns c = whole_packets
