-- The call of a slot and its answer as one number each, for runs of many slots over lent slices. Every number is read
-- as some call and as some answer, so that the slices need no rule of their own.
--
-- Both are u64. A byte is 8 bits of value below its queue's field; a queue's field is the queue's bits, 16 of a call
-- and 10 of an answer, and above them the bit that tells whether there is one:
--
--   bits of a call                      bits of an answer
--   0-7    the value that arrives       0-7    the value delivered
--   8-23   its queue                    8-17   its queue
--   24     1 where a byte arrives       18     1 where one is delivered
--   25-40  the queue asked              19-28  the queue written
--   41     1 where one is asked         29     1 where one was written
--   42-    to be 0; not looked at yet   30-39  the queue read
--                                       40     1 where one was read
--                                       41-53  slots left at the read, or 0
--                                       54     1 where the arrival was dropped (5)
--                                       55     1 where the request was dropped (7)
--                                       56-63  the number that stopped the slot, or 0
use Rattle.std.proofs.Math.Option.{Option, some, none}
use Rattle.std.specs.Prelude.{ℕ, zero, suc, ◌+◌, ◌*◌, ◌/◌, ◌%◌, min}
use Rattle.model.specs.State.{Byte, byte}
use Rattle.model.specs.Slot.{Call, Reply}

-- How many queues a field can say: 2 to the number of its bits.
abbrev pub call_queues : ℕ
call_queues = 65536

abbrev pub answer_queues : ℕ
answer_queues = 1024

-- What slots left must be below: 2 to the number of its bits.
abbrev pub answer_slots : ℕ
answer_slots = 8192

-- An answer's byte or none, as 19 bits: 262,144 + queue × 256 + value, or 0.
abbrev pub byte_word : Option Byte → ℕ
byte_word none = 0
byte_word (some y) = 262144 + y.queue * 256 + y.value

-- An answer's queue or none, as 11 bits: 1,024 + queue, or 0.
abbrev pub queue_word : Option ℕ → ℕ
queue_word none = 0
queue_word (some q) = 1024 + q

-- What the lowest bits of a number say as a field of so many queues, by the bit above the queue.
abbrev pub queue_part : ℕ → ℕ → Option ℕ
queue_part zero q = none
queue_part (suc n) q = some q

unfoldable pub queue_in : ℕ → ℕ → Option ℕ
queue_in queues w = queue_part (w / queues % 2) (w % queues)

-- What they say as a byte: the value, and its queue's field above it.
abbrev pub value_of : Option ℕ → ℕ → Option Byte
value_of none v = none
value_of (some q) v = some (byte q v)

unfoldable pub byte_in : ℕ → ℕ → Option Byte
byte_in queues w = value_of (queue_in queues (w / 256)) (w % 256)

-- The call that a number stands for.
unfoldable pub call_of : ℕ → Call
call_of c = record { arrival = byte_in call_queues c; request = queue_in call_queues (c / 33554432) }

-- Whether a half was dropped, as one bit.
abbrev pub dropped_bit : ℕ → ℕ
dropped_bit zero = 0
dropped_bit (suc n) = 1

-- What a slot tells as a number: the number that stopped it, which halves it dropped, slots left, queue read, queue
-- written, byte delivered.
unfoldable pub answer_word : Reply → ℕ
answer_word r =
    r.number * 72057594037927936
    + dropped_bit r.request_number * 36028797018963968
    + dropped_bit r.arrival_number * 18014398509481984
    + r.slots_left * 2199023255552
    + queue_word r.read * 1073741824
    + queue_word r.written * 524288
    + byte_word r.delivered

-- What a number says as an answer.
unfoldable pub number_of : ℕ → ℕ
number_of a = a / 72057594037927936 % 256

unfoldable pub arrival_number_of : ℕ → ℕ
arrival_number_of a = a / 18014398509481984 % 2 * 5

unfoldable pub request_number_of : ℕ → ℕ
request_number_of a = a / 36028797018963968 % 2 * 7

unfoldable pub slots_left_of : ℕ → ℕ
slots_left_of a = a / 2199023255552 % answer_slots

unfoldable pub delivered_of : ℕ → Option Byte
delivered_of a = byte_in answer_queues a

unfoldable pub written_of : ℕ → Option ℕ
written_of a = queue_in answer_queues (a / 524288)

unfoldable pub read_of : ℕ → Option ℕ
read_of a = queue_in answer_queues (a / 1073741824)

-- The code's values have 8 bits for a queue. A queue above these is read as the highest that they have, never as
-- another one: no sizes have either, so that a slot answers both alike (`near_slot`, proofs/Nearest.antt).
abbrev pub nearest : ℕ → ℕ
nearest q = min q 255

abbrev pub near_queue : Option ℕ → Option ℕ
near_queue none = none
near_queue (some q) = some (nearest q)

abbrev pub near_byte : Option Byte → Option Byte
near_byte none = none
near_byte (some y) = some (byte (nearest y.queue) y.value)

abbrev pub near_call : Call → Call
near_call call = record { arrival = near_byte call.arrival; request = near_queue call.request }
