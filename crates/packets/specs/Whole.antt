-- What request 2.7 promises of a list of the layer's slots "from a fresh state and record".
use Rattle.std.specs.Prelude.{◌≡◌, true, List, ℕ, ◌+◌, ◌≤◌, ◌<◌, length, take, get_or}
use Rattle.std.proofs.Math.Option.{some, none}
use Rattle.std.proofs.Math.ListN.{get_elem?}
use Rattle.model.specs.Basics.{All}
use Rattle.model.specs.Sizes.{Sizes, Limits, accepts, lookahead, full}
use Rattle.model.specs.State.{byte, fresh}
use Rattle.model.specs.Lists.{deliveries, request_at}
use Rattle.model.specs.Demand.{ListMeets}
use Rattle.packets.specs.Packets.{fresh_record, PacketCall, longest_packet}
use Rattle.packets.specs.PacketLists.{PacketStep, packet_run, PacketChain, accepted_packets, byte_steps, packets_of}
use Rattle.packets.specs.PacketLists.{packet_wanted_at, packet_requests_of, packet_request_at}

-- Slot t took a packet request of q, the nth of its queue.
-- `packet_is`: "a packet request is accepted once the packet is fully in", and not before: the nth packet of the queue
-- was whole before the slot, and these are its bytes.
-- `asked`, `alone`: "It becomes one byte request in each of the following accepted slots, with no other request
-- between."
-- `leaves`: "its bytes leave in as many successive accepted slots, whole and in order, if it lasts that long".
pub record LeavesWhole (s : Sizes) (slots : List PacketStep) (t q : ℕ) : Type 0 where
  pub bytes : List ℕ
  pub packet_is : get_elem? (packets_of q none (take t slots)) (packet_requests_of q (take t slots)) ≡ some bytes
  pub in_range : (1 ≤ length bytes) × (length bytes ≤ longest_packet)
  pub asked :
      (i : ℕ) → i < length bytes → t + 1 + i < length slots → request_at (byte_steps slots) (t + 1 + i) ≡ some q
  pub alone : (i : ℕ) → i < length bytes → packet_request_at slots (t + 1 + i) ≡ none
  pub leaves :
      (i : ℕ) → i < length bytes → t + 1 + i + lookahead s < length slots
      → get_or (deliveries (byte_steps slots)) (t + 1 + i + lookahead s) none ≡ some (byte q (get_or bytes i 0))

-- A byte request of slot t is of a packet that was asked for, and of one of its bytes.
pub record OfAPacket (slots : List PacketStep) (t q : ℕ) : Type 0 where
  pub since : ℕ
  pub place : ℕ
  pub bytes : List ℕ
  pub then_is : since + 1 + place ≡ t
  pub asked-then : packet_request_at slots since ≡ some q
  pub packet_is : get_elem? (packets_of q none (take since slots)) (packet_requests_of q (take since slots)) ≡ some bytes
  pub place_in : place < length bytes

-- "A packet request is accepted once the packet is fully in": one made of slot t is taken where a packet of its queue
-- was whole before the slot that was not asked for yet, and the slot makes no byte request of an earlier one.
abbrev pub TakenOnceIn : List PacketStep → Type 0
TakenOnceIn slots =
    (t q : ℕ) → packet_wanted_at slots t ≡ some q → request_at (byte_steps slots) t ≡ none
    → packet_requests_of q (take t slots) < length (packets_of q none (take t slots))
    → packet_request_at slots t ≡ some q

-- `bytes-meet` is demand 3 of the buffer's slots; that 3 never comes says also that the record never breaks its rules.
-- `never_5`: "5, which this layer never meets in a run from a fresh state and record". A byte request never gets 7
-- either; a packet request may.
pub record PacketsMeet (s : Sizes) (store : List ℕ) (steps : List PacketStep) : Type 0 where
  pub bytes-meet : ListMeets s store (byte_steps steps)
  pub whole :
      (t q : ℕ) → packet_request_at (accepted_packets steps) t ≡ some q → LeavesWhole s (accepted_packets steps) t q
  pub once_in : TakenOnceIn (accepted_packets steps)
  pub no_other :
      (t q : ℕ) → request_at (byte_steps (accepted_packets steps)) t ≡ some q → OfAPacket (accepted_packets steps) t q
  pub never_5 : All (λ (p : PacketStep). p.step.reply.arrival_number ≡ 0) steps
  pub never_7 : All (λ (p : PacketStep). p.step.reply.request_number ≡ 0) steps

-- Of every list of the layer's slots, and of any calls that each answer as the layer's slot does.
pub record WholePackets (limits : Limits) : Type 0 where
  pub every_list :
      (s : Sizes) (store : List ℕ) (calls : List PacketCall)
      → accepts limits s ≡ true
      → PacketsMeet s store (packet_run (full limits) (fresh (full limits) s) store fresh_record calls)
  pub every_chain :
      (s : Sizes) (store : List ℕ) (steps : List PacketStep)
      → accepts limits s ≡ true
      → PacketChain (full limits) (fresh (full limits) s) store fresh_record steps
      → PacketsMeet s store steps
