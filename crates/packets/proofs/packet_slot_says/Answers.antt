-- `packet_slot_says` meets its contract: it is the theorem of Sentences.
use Rattle.packets.proofs.Sentences.{packets_say}
use Rattle.packets.proofs.packet_slot_says.Goals as goal

pub returns : goal.returns
returns c = packets_say
