-- What of a record is lent to a function, as its contract names it: `record_given` in a `requires`; in an `ensures`
-- `record_found` and `record_left`, as the function found it and as it left it.
use Rattle.layout.specs.Lent.{Array, Lent}
use Rattle.packets.specs.Packets.{PacketRecord}
use Rattle.packet_layout.specs.Views.{packet_regs_in, record_in}

abbrev pub record_given : Array → Array → Array → PacketRecord
record_given regs lengths listed = record_in (packet_regs_in regs.now) lengths.now listed.now

abbrev pub record_found : Lent → Lent → Lent → PacketRecord
record_found regs lengths listed = record_given regs.entry lengths.entry listed.entry

abbrev pub record_left : Lent → Lent → Lent → PacketRecord
record_left regs lengths listed = record_given regs.exit lengths.exit listed.exit
