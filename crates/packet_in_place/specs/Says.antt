-- What one slot of the packet layer on lent arrays promises, by the model's own (document 02, 2.7).
use Rattle.std.specs.Prelude.{◌≡◌, Bool, true, List, ℕ}
use Rattle.model.specs.Basics.{when}
use Rattle.model.specs.Sizes.{paper}
use Rattle.packets.specs.Packets.{PacketRecord, record_keeps, PacketCall, packet_drops, record_after, PacketAnswer, packet_slot}
use Rattle.layout.specs.Calls.{reply_in}
use Rattle.layout.specs.Lent.{Array, Lent}
use Rattle.layout.specs.declared.Regs.{Regs}
use Rattle.layout.specs.Views.{Arrays, state_in}
use Rattle.packet_layout.specs.declared.PacketReply.{PacketReply}
use Rattle.packet_layout.specs.Views.{packet_regs_in, record_in, ListsLong}
use Rattle.slot_in_place.specs.Says.{answer_in}

-- The arrays of a record: its registers, its lengths, how many of them each list has.
pub record RecordArrays : Type 0 where
  pub regs : List ℕ
  pub lengths : List ℕ
  pub listed : List ℕ

abbrev pub record_arrays : List ℕ → List ℕ → List ℕ → RecordArrays
record_arrays g l n = record { regs = g; lengths = l; listed = n }

-- The record that they hold.
abbrev pub record_of : RecordArrays → PacketRecord
record_of p = record_in (packet_regs_in p.regs) p.lengths p.listed

-- As a contract names what is lent of them: `record_given_as` in a `requires`; in an `ensures` `record_found_as` and
-- `record_left_as`.
abbrev pub record_given_as : Array → Array → Array → RecordArrays
record_given_as g l n = record_arrays g.now l.now n.now

abbrev pub record_found_as : Lent → Lent → Lent → RecordArrays
record_found_as g l n = record_given_as g.entry l.entry n.entry

abbrev pub record_left_as : Lent → Lent → Lent → RecordArrays
record_left_as g l n = record_given_as g.exit l.exit n.exit

-- A record in arrays that is ready for a slot: it keeps the rules, by the number of queues.
pub record RecordReady (queues : ℕ) (p : RecordArrays) : Type 0 where
  pub lists_long : ListsLong p.lengths p.listed
  pub record_keeps : record_keeps queues (record_of p) ≡ true

-- The record's part of an accepted slot: whether the packet request is dropped, and the record as the model's slot
-- leaves it.
pub record TakesTurn (p : RecordArrays) (call : PacketCall) (arrival_number request_number : ℕ) (dropped : Bool)
    (p' : RecordArrays) : Type 0 where
  pub dropped_is : dropped ≡ packet_drops (record_of p) call.request
  pub record_is : record_of p' ≡ record_after (record_of p) call arrival_number request_number
  pub lists_long : ListsLong p'.lengths p'.listed

-- The answer of a slot of the layer in arrays.
abbrev pub packet_answer_in : PacketReply → Regs → Arrays → List ℕ → RecordArrays → PacketAnswer
packet_answer_in r regs m store p = record {
  answer = answer_in (record { regs = regs; reply = r.reply }) m store;
  packet_number = when r.packet_dropped 7;
  packets = record_of p;
}

-- The whole answer, state, store and record are those of the model's slot; on a number that stops it the registers and
-- the arrays, those of the record too, are as they came, places past a fill and past a list included.
pub record PacketAdvanceSays (regs : Regs) (m : Arrays) (store : List ℕ) (p : RecordArrays) (call : PacketCall)
    (r : PacketReply) (regs' : Regs) (m' : Arrays) (store' : List ℕ) (p' : RecordArrays) : Type 0 where
  pub answer-is : packet_answer_in r regs' m' store' p' ≡ packet_slot paper (state_in regs m) store (record_of p) call
  pub as_given : ((reply_in r.reply).number ≡ 0 → ⊥) → (regs' ≡ regs) × (m' ≡ m) × (p' ≡ p)
