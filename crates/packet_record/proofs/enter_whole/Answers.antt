-- `packet_record::enter_whole` meets its contract: a packet that is whole has a place in its list.
use mathlib.Core.Path.{ap}
use borrow.Author.Tests.{le-leb}
use Rattle.packets.specs.Packets.{coming}
use Rattle.packet_layout.specs.Views.{coming_of}
use Rattle.packet_record.proofs.enter_whole.Goals as goal

pub enter-requires : goal.enter-requires
enter-requires c =
    let packet = c.in-Some.packet in
    let place = c.requires.1 (coming packet.queue packet.size packet.bytes_in) (ap coming_of c.in-Some.is)
    (rw (c.in-Some.is, le-leb packet.size packet.bytes_in c.if-packet.true)) in
    (c.requires.0, place.queue_below, place.lists_short, place.place_there)
