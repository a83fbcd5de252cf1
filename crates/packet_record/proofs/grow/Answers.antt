-- `packet_record::grow` meets its contract: a packet that is not whole has fewer bytes in than its length.
use mathlib.Core.Path.{ap}
use native.Mathlib.Omega.{arith}
use Rattle.packets.specs.Packets.{coming}
use Rattle.packet_layout.specs.Views.{coming_of}
use Rattle.packet_record.proofs.grow.Goals as goal

pub overflow_add-coming : goal.overflow_add-coming
overflow_add-coming c =
    let packet = c.in-Some-Continues-Some.packet in
    let few = c.requires (coming packet.queue packet.size packet.bytes_in) (ap coming_of c.in-Some-Continues-Some.is-1) in
    record { fits = omega (arith, few) }
