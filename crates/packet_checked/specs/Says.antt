-- What is judged of state and record before a slot of the packet layer, whatever they are, and what the slot leaves.
use Rattle.std.specs.Prelude.{◌≡◌, Bool, ◌&&◌, not, List, [], ◌∷◌, ℕ, eqb, ltb, length}
use Rattle.model.specs.Basics.{choose, when, first_refusal}
use Rattle.model.specs.Sizes.{paper, store_bytes}
use Rattle.model.specs.State.{keeps}
use Rattle.packets.specs.Packets.{record_keeps}
use Rattle.layout.specs.Counts.{ByQueue}
use Rattle.layout.specs.declared.Regs.{Regs}
use Rattle.layout.specs.Views.{Arrays, sizes_in, state_in}
use Rattle.slot_checked.specs.Says.{LeaveSays}
use Rattle.packet_in_place.specs.Says.{RecordArrays, record_of, RecordReady}

-- 3 and 2 with the record's rules too, by the number that the state alone has: a record that breaks its rules is 3, and
-- 3 comes before 2.
abbrev pub with_record : ℕ → Bool → ℕ
with_record n kept = choose (eqb n 3) 3 (choose kept n 3)

-- The same as the request says it.
abbrev pub packet_judged : Regs → Arrays → List ℕ → RecordArrays → ℕ
packet_judged regs m store p =
    first_refusal (
    when (not (keeps paper (state_in regs m) && record_keeps regs.queues (record_of p))) 3 ∷
    when (ltb (length store) (store_bytes (sizes_in regs))) 2 ∷ [])

-- What a slot leaves that judges 3 and 2: the state and its counts as a slot of the buffer's does; with neither of them a
-- record that is ready for the next slot in place.
pub record PacketLeaveSays (regs : Regs) (m : Arrays) (counts : ByQueue) (store : List ℕ) (p : RecordArrays)
    (regs' : Regs) (m' : Arrays) (counts' : ByQueue) (store' : List ℕ) (p' : RecordArrays) : Type 0 where
  pub state_left : LeaveSays regs m counts store regs' m' counts' store'
  pub record_ready : packet_judged regs m store p ≡ 0 → RecordReady regs'.queues p'
