-- `open` meets its contract: 0 at every place is a fresh record.
use Rattle.c_packets.proofs.Opened.{opened}
use Rattle.c_packets.proofs.open.Goals as goal

pub returns : goal.returns
returns c = opened
