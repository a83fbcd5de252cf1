-- What a record promises that was opened.
use Rattle.std.specs.Prelude.{◌≡◌, true, List, ℕ, ◌≤◌, replicate}
use Rattle.layout.specs.Lengths.{queue_places}
use Rattle.packets.specs.Packets.{fresh_record, record_keeps}
use Rattle.packet_layout.specs.Lengths.{length_places, packet_reg_places}
use Rattle.packet_layout.specs.Views.{packet_regs_in, record_in, ListsLong}

-- It is the fresh one, with 0 at every place, and keeps its rules beside a state of any number of queues.
pub record OpenSays (regs lengths listed : List ℕ) : Type 0 where
  pub fresh-is : record_in (packet_regs_in regs) lengths listed ≡ fresh_record
  pub places_are :
      (regs ≡ replicate packet_reg_places 0) × (lengths ≡ replicate length_places 0) × (listed ≡ replicate queue_places 0)
  pub lists_long : ListsLong lengths listed
  pub kept : (queues : ℕ) → 1 ≤ queues → record_keeps queues (record_in (packet_regs_in regs) lengths listed) ≡ true
