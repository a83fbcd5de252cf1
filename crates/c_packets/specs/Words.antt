-- The call of a slot of the packet layer as one number, a u64. Every number is read as some call, so that a word needs
-- no rule of its own. Up to bit 41 it is laid out as the call of a slot (crates/run_words):
--
--   0-7    the value that comes
--   8-23   the queue of a start; of a next byte not looked at
--   24     1 where a byte comes
--   25-40  the queue that a packet is asked of
--   41     1 where one is asked
--   42-57  the length of a start; of a next byte not looked at
--   58     1 where the byte is a start, 0 where it is a next one
--   59-63  to be 0; not looked at yet
use Rattle.std.proofs.Math.Option.{Option, some, none}
use Rattle.std.specs.Prelude.{ℕ, zero, suc, ◌/◌, ◌%◌}
use Rattle.packets.specs.Packets.{PacketArrival, start, next, PacketCall}
use Rattle.run_words.specs.Words.{call_queues, queue_in}

-- How many lengths the field of a start can say: 2 to the number of its bits.
abbrev pub call_lengths : ℕ
call_lengths = 65536

-- What comes, by the bit that tells whether a byte does and the one that tells whether it is a start.
abbrev pub arrival_part : (comes starts queue size value : ℕ) → Option PacketArrival
arrival_part zero starts q n v = none
arrival_part (suc m) zero q n v = some (next v)
arrival_part (suc m) (suc k) q n v = some (start q n v)

unfoldable pub packet_arrival_in : ℕ → Option PacketArrival
packet_arrival_in c =
    arrival_part (c / 16777216 % 2) (c / 288230376151711744 % 2)
    (c / 256 % call_queues) (c / 4398046511104 % call_lengths) (c % 256)

-- The call that a number stands for.
unfoldable pub packet_call_of : ℕ → PacketCall
packet_call_of c = record { arrival = packet_arrival_in c; request = queue_in call_queues (c / 33554432) }
