-- `false_packet_examples_fail` meets its contract: it is the theorem of Examples.
use Rattle.packets.proofs.Examples.{false_packet_examples_fail}
use Rattle.packets.proofs.false_packet_examples_fail.Goals as goal

pub returns : goal.returns
returns c = false_packet_examples_fail
