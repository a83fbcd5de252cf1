-- `packet_examples_hold` meets its contract: it is the theorem of Examples.
use Rattle.packets.proofs.Examples.{packet_examples_hold}
use Rattle.packets.proofs.packet_examples_hold.Goals as goal

pub returns : goal.returns
returns c = packet_examples_hold
