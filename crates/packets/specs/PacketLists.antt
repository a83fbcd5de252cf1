-- Lists of the layer's slots, and the packets that come and are asked for in them. "No slot of such a run may go around
-- the layer": every slot here is one of the layer's.
use Rattle.std.specs.Prelude.{◌≡◌, Bool, ◌&&◌, List, [], ◌∷◌, ◌++◌, map, ℕ, zero, suc, ◌+◌, eqb, leb, length}
use Rattle.std.proofs.Math.Option.{Option, some, none}
use Rattle.model.specs.Basics.{choose}
use Rattle.model.specs.Sizes.{Design}
use Rattle.model.specs.State.{State}
use Rattle.model.specs.Lists.{Step, step_of, taken, asks}
use Rattle.packets.specs.Packets.{PacketRecord, PacketArrival, start, next, PacketCall, byte_call, packet_taken}
use Rattle.packets.specs.Packets.{PacketAnswer, packet_slot}

-- One slot of the layer in a list: the buffer's slot, what of a packet it took, the packet request that was made of it,
-- and the same where it took it and did not drop it with 7. A slot that was stopped took nothing.
pub record PacketStep : Type 0 where
  pub step : Step
  pub came : Option PacketArrival
  pub wanted : Option ℕ
  pub request : Option ℕ

abbrev pub packet_step : State → List ℕ → PacketRecord → PacketCall → PacketAnswer → PacketStep
packet_step x store r call a = record {
  step = step_of x store (byte_call r call) a.answer;
  came = taken (a.answer.reply.number + a.answer.reply.arrival_number) call.arrival;
  wanted = taken a.answer.reply.number call.request;
  request = taken a.answer.reply.number (packet_taken r call.request);
}

abbrev pub packet_run : Design → State → List ℕ → PacketRecord → List PacketCall → List PacketStep
packet_run design x store r [] = []
packet_run design x store r (call ∷ calls) =
    packet_step x store r call (packet_slot design x store r call)
    ∷ packet_run design (packet_slot design x store r call).answer.state
    (packet_slot design x store r call).answer.store (packet_slot design x store r call).packets calls

-- Any calls that each answer as the layer's slot does, on state, store and record exactly as the one before left them,
-- and the slots that they were: for whoever calls the code.
pub data PacketChain (design : Design) : State → List ℕ → PacketRecord → List PacketStep → Type 0 where
  no_slot : {x : State} {store : List ℕ} {r : PacketRecord} → PacketChain design x store r []
  packets_slot : {x : State} {store : List ℕ} {r : PacketRecord} {a : PacketAnswer} {steps : List PacketStep}
      (call : PacketCall)
      → a ≡ packet_slot design x store r call
      → PacketChain design a.answer.state a.answer.store a.packets steps
      → PacketChain design x store r (packet_step x store r call a ∷ steps)

-- The slots that were accepted, and the buffer's slots of them.
abbrev pub accepted_packets : List PacketStep → List PacketStep
accepted_packets [] = []
accepted_packets (p ∷ ps) =
    choose (eqb p.step.reply.number 0) (p ∷ accepted_packets ps) (accepted_packets ps)

abbrev pub byte_steps : List PacketStep → List Step
byte_steps ps = map (λ p. p.step) ps

-- A packet with the bytes of it that are in, by its start and its next bytes alone; and the whole packets of a queue in
-- their order, where one was coming in as these slots began or none.
pub record Packet : Type 0 where
  pub queue : ℕ
  pub size : ℕ
  pub bytes : List ℕ

abbrev pub growing : Option Packet → Option PacketArrival → Option Packet
growing p none = p
growing p (some (start q n v)) = some (record { queue = q; size = n; bytes = v ∷ [] })
growing none (some (next v)) = none
growing (some p) (some (next v)) = some (record { queue = p.queue; size = p.size; bytes = p.bytes ++ v ∷ [] })

abbrev pub all_in : Packet → Bool
all_in p = leb p.size (length p.bytes)

abbrev pub ended : ℕ → Option Packet → List (List ℕ)
ended q none = []
ended q (some p) = choose (all_in p && eqb p.queue q) (p.bytes ∷ []) []

abbrev pub unended : Option Packet → Option Packet
unended none = none
unended (some p) = choose (all_in p) none (some p)

abbrev pub packets_of : ℕ → Option Packet → List PacketStep → List (List ℕ)
packets_of q p [] = []
packets_of q p (slot ∷ slots) =
    ended q (growing p slot.came) ++ packets_of q (unended (growing p slot.came)) slots

-- The packet request that was made of slot t.
abbrev pub packet_wanted_at : List PacketStep → ℕ → Option ℕ
packet_wanted_at [] t = none
packet_wanted_at (slot ∷ slots) zero = slot.wanted
packet_wanted_at (slot ∷ slots) (suc t) = packet_wanted_at slots t

-- The packet requests of a queue that were taken, and the one of slot t.
abbrev pub packet_requests_of : ℕ → List PacketStep → ℕ
packet_requests_of q [] = 0
packet_requests_of q (slot ∷ slots) = asks q slot.request + packet_requests_of q slots

abbrev pub packet_request_at : List PacketStep → ℕ → Option ℕ
packet_request_at [] t = none
packet_request_at (slot ∷ slots) zero = slot.request
packet_request_at (slot ∷ slots) (suc t) = packet_request_at slots t
