-- A packet request is taken once its packet is fully in: the packets of a queue that stand are those that came whole
-- less those that were asked for, so that one stands where more came than were asked for. `taken-once_in` says it.
use mathlib.Core.Path.{◌≡◌, refl, ap, sym, ◌∙◌}
use mathlib.Core.List.{List, [], ◌∷◌, ◌++◌, append-nil}
use mathlib.Core.Option.{Option, some, none}
use Prim.Native.Nat.{ℕ, zero, suc, ◌<◌}
use native.Mathlib.Omega.{arith}
use lib.ListN.{length, drop, take, length-append, length-drop}
use Rattle.model.specs.Lists.{asks, request_at}
use Rattle.packets.specs.PacketLists.{PacketStep, byte_steps, Packet, growing, ended, unended, packets_of}
use Rattle.packets.specs.PacketLists.{packet_wanted_at, packet_requests_of, packet_request_at}
use Rattle.model.proofs.basics.Tests.{none_not_some}
use Rattle.packets.proofs.Layer.{Where, ask_for}
use Rattle.packets.proofs.Leaves.{TakeTurns, no_turn, one_turn, asks-few}

-- A slot that makes no byte request has nothing left of an earlier packet.
nothing_left : (q : ℕ) (rest : List ℕ) → ask_for q rest ≡ none → rest ≡ []
nothing_left q [] e = refl
nothing_left q (v ∷ vs) e = absurd (none_not_some q (sym e))

pub taken-once_in : {g : Where} {w : ℕ → List ℕ} {slots : List PacketStep} → TakeTurns g w slots
    → (t q : ℕ) → packet_wanted_at slots t ≡ some q → request_at (byte_steps slots) t ≡ none
    → packet_requests_of q (take t slots) < length (g.whole q ++ packets_of q g.incoming (take t slots))
    → packet_request_at slots t ≡ some q
taken-once_in no_turn t q e f l = absurd (none_not_some q e)
taken-once_in (one_turn {g = g} waits turns later) zero q e f l =
    turns.once_in q e (nothing_left g.queue g.rest (sym turns.asks_is ∙ f))
    (omega (arith, l, ap length (append-nil (g.whole q))))
taken-once_in (one_turn {g = g} {slot = slot} {slots = slots} waits turns later) (suc t) q e f l =
    taken-once_in later t q e f
    (omega (
      arith,
      l,
      asks-few g slot q turns,
      length-append (g.whole q) (ended q grown ++ came),
      length-append (ended q grown) came,
      length-append (drop k (g.whole q) ++ ended q grown) came,
      length-append (drop k (g.whole q)) (ended q grown),
      length-drop k (g.whole q),
    ))
  where
    grown : Option Packet
    grown = growing g.incoming slot.came

    came : List (List ℕ)
    came = packets_of q (unended grown) (take t slots)

    k : ℕ
    k = asks q slot.request
