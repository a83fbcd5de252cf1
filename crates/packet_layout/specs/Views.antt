-- The packet layer's record as registers and two arrays hold it. Every register and every array is read as some record,
-- so that the representation needs no rule of its own: a list has as many lengths as its count says, so that a count over
-- 32 breaks the request's own rule, whatever lies behind it.
use Rattle.std.proofs.Math.Option as math
use Rattle.std.proofs.Math.Option.{some, none}
use Rattle.std.specs.Prelude.{◌≡◌, List, ℕ, ◌+◌, ◌*◌, ◌<◌, eqb, length, get_or, Option, Some, None}
use Rattle.model.specs.Basics.{choose, tabulate}
use Rattle.model.specs.State.{Byte}
use Rattle.layout.specs.Lengths.{queue_places}
use Rattle.packets.specs.Packets as model
use Rattle.packets.specs.Packets.{most_listed, coming, PacketRecord}
use Rattle.packet_layout.specs.Lengths.{length_places}
use Rattle.packet_layout.specs.declared.PacketByte.{PacketByte}
use Rattle.packet_layout.specs.declared.PacketByte.TheVariants.{Starts, Continues}
use Rattle.packet_layout.specs.declared.PacketCall.{PacketCall}
use Rattle.packet_layout.specs.declared.Coming.{Coming}
use Rattle.packet_layout.specs.declared.PacketRegs.{PacketRegs}

-- What a slot of the layer is asked.
abbrev pub arrival_of : Option PacketByte → math.Option model.PacketArrival
arrival_of (Some (Starts q n v)) = some (model.start q n v)
arrival_of (Some (Continues v)) = some (model.next v)
arrival_of None = none

abbrev pub request_of : Option ℕ → math.Option ℕ
request_of (Some q) = some q
request_of None = none

abbrev pub call_of : PacketCall → model.PacketCall
call_of call = record { arrival = arrival_of call.arrival; request = request_of call.request }

-- The list of a queue: as many lengths as its count says, from the queue's first place on.
unfoldable pub list_in : List ℕ → List ℕ → ℕ → List ℕ
list_in lengths listed q = tabulate (get_or listed q 0) (λ i. get_or lengths (q * most_listed + i) 0)

-- The packet coming in, and the registers as an array of six, in their own order: where the first is 0 none comes in.
abbrev pub packet_in : List ℕ → Coming
packet_in l = record { queue = get_or l 1 0; size = get_or l 2 0; bytes_in = get_or l 3 0 }

abbrev pub packet_regs_in : List ℕ → PacketRegs
packet_regs_in l = record {
  coming = choose (eqb (get_or l 0 0) 0) None (Some (packet_in l));
  asked = get_or l 4 0;
  left = get_or l 5 0;
}

abbrev pub coming_of : Option Coming → math.Option model.Coming
coming_of (Some c) = some (coming c.queue c.size c.bytes_in)
coming_of None = none

abbrev pub incoming_of : PacketRegs → math.Option model.Coming
incoming_of regs = coming_of regs.coming

abbrev pub record_in : PacketRegs → List ℕ → List ℕ → PacketRecord
record_in regs lengths listed = record {
  lengths = list_in lengths listed;
  incoming = incoming_of regs;
  asked = regs.asked;
  left = regs.left;
}

-- The arrays' lengths, which their types fix.
pub record ListsLong (lengths listed : List ℕ) : Type 0 where
  pub lengths_long : length lengths ≡ length_places
  pub listed_long : length listed ≡ queue_places

-- The queue of a byte is a number of 8 bits.
abbrev pub QueueFits : math.Option Byte → Type 0
QueueFits none = Unit {0}
QueueFits (some y) = y.queue < 256
