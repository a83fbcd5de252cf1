-- Request 2.7, "Whole packets". The accepted slots of the layer are a chain of the buffer's own slots, so that demand 3
-- holds of them; each takes its turn over the ideal buffer, so that a packet's byte requests are given its bytes in
-- their order, and the line delivers them L slots later; and what is stopped changes nothing. `whole_packets` says it.
use mathlib.Core.Path.{◌≡◌, refl, ap, sym, ◌∙◌, subst}
use mathlib.Core.Bool.{true}
use mathlib.Core.List.{List, [], ◌∷◌, ◌++◌}
use mathlib.Core.Option.{Option, some, none}
use Prim.Native.Nat.{ℕ, ◌+◌, ◌<◌}
use native.Mathlib.Omega.{arith}
use lib.Dec.{eqb, leb}
use lib.ListN.{length, take, replicate, get_or, length-replicate, length-map}
use lib.Seq.{get_or-take, get_or-append-add}
use borrow.Author.Tests.{leb-true, leb-false}
use Rattle.model.specs.Basics.{All}
use Rattle.model.specs.Sizes.{Sizes, Limits, accepts, lookahead, full}
use Rattle.model.specs.State.{Byte, State, fresh}
use Rattle.model.specs.Lists.{Step, accepted, deliveries, request_at}
use Rattle.model.specs.Ideal.{Ideal}
use Rattle.model.specs.Demand.{CachesHold, NoMiss, RefusedSilent, FixedDelay, ListMeets}
use Rattle.packets.specs.Packets.{packet_slot, PacketRecord, fresh_record, PacketCall}
use Rattle.packets.specs.PacketLists.{PacketStep, packet_run, PacketChain, accepted_packets, byte_steps}
use Rattle.packets.specs.PacketLists.{packet_request_at}
use Rattle.packets.specs.PacketLists as lists
use Rattle.packets.specs.Whole.{LeavesWhole, OfAPacket, PacketsMeet, WholePackets}
use Rattle.model.proofs.basics.Tests.{by_test}
use Rattle.model.proofs.one_slot.Rules.{keeps-fresh}
use Rattle.model.proofs.one_slot.Chains.{links}
use Rattle.model.proofs.delay.Delay.{Delays, gives, chain_delays}
use Rattle.model.proofs.Demand.{quiet, stands_fresh, every_chain}
use Rattle.packets.proofs.Layer.{Where, nowhere}
use Rattle.packets.proofs.Leaves.{TakeTurns, leaves_whole, no_request_past, asked-of_a_packet}
use Rattle.packets.proofs.OnceIn.{taken-once_in}
use Rattle.packets.proofs.BooksKept.{never_5_or_7}
use Rattle.packets.proofs.Runs.{Runs, run_ends, run-stops, run-goes_on, finds_order_fresh, chain_runs}
use Rattle.packets.proofs.Runs.{runs_chain, runs_take_turns, all_of_run}
use Rattle.packets.proofs.Stopped.{stopped_silent, stopped_caches, stopped_no_miss, stopped_not_3, stopped_not_2}

-- The buffer's accepted slots are those of the layer's, and accepted once is accepted twice.
accepted-bytes : (ps : List PacketStep) → accepted (byte_steps ps) ≡ byte_steps (accepted_packets ps)
accepted-bytes [] = refl
accepted-bytes (p ∷ ps) =
    by_test (eqb p.step.reply.number 0)
    (λ t. rw t (ap (λ (l : List Step). p.step ∷ l) (accepted-bytes ps)))
    (λ t. rw t (accepted-bytes ps))

accepted-twice : (ps : List PacketStep) → accepted (byte_steps (accepted_packets ps)) ≡ byte_steps (accepted_packets ps)
accepted-twice [] = refl
accepted-twice (p ∷ ps) =
    by_test (eqb p.step.reply.number 0)
    (λ t. rw t (rw t (ap (λ (l : List Step). p.step ∷ l) (accepted-twice ps))))
    (λ t. rw t (accepted-twice ps))

-- What is given to a request is delivered L slots later.
delivered_later : (s : Sizes) (slots : List Step) (given : List (Option Byte))
    → deliveries slots ≡ take (length slots) (replicate (lookahead s) none ++ given)
    → (t : ℕ) → t + lookahead s < length slots
    → get_or (deliveries slots) (t + lookahead s) none ≡ get_or given t none
delivered_later s slots given e t l =
    ap (λ (d : List (Option Byte)). get_or d (t + lookahead s) none) e
    ∙ get_or-take (length slots) (nothing ++ given) (t + lookahead s) none l
    ∙ ap (λ (i : ℕ). get_or (nothing ++ given) i none) behind
    ∙ get_or-append-add nothing given t none
  where
    nothing : List (Option Byte)
    nothing = replicate (lookahead s) none

    behind : t + lookahead s ≡ length nothing + t
    behind = omega (arith, length-replicate {A = Option Byte} (lookahead s) none)

-- A chain from a fresh state and record.
module _ (limits : Limits) (s : Sizes) (store : List ℕ) (steps : List PacketStep) (e : accepts limits s ≡ true)
    (run : Runs limits s (length store) (fresh (full limits) s) store fresh_record nowhere steps) where
  abbrev slots : List PacketStep
  slots = accepted_packets steps

  buffer_meets : ListMeets s store (byte_steps slots)
  buffer_meets =
      let c = runs_chain limits s (length store) run in
      every_chain limits s store (byte_steps slots) c.0 e c.1

  -- Demand 3, the stopped slots counted.
  bytes-meet : ListMeets s store (byte_steps steps)
  bytes-meet = record {
    bytes = subst (FixedDelay s) (accepted-twice steps ∙ sym (accepted-bytes steps)) buffer_meets.bytes;
    refused = all_of_run limits s n RefusedSilent
        (λ x st r g call k h f. stopped_silent limits s n x st r g call k h f) run buffer_meets.refused;
    caches = all_of_run limits s n (CachesHold s)
        (λ x st r g call k h f. stopped_caches limits s n x st r g call k h f) run buffer_meets.caches;
    no_miss = all_of_run limits s n NoMiss
        (λ x st r g call k h f. stopped_no_miss limits s n x st r g call k h f) run buffer_meets.no_miss;
    no_3 = all_of_run limits s n (λ (step : Step). step.reply.number ≡ 3 → ⊥)
        (λ x st r g call k h f. stopped_not_3 limits s n x st r g call k h f) run buffer_meets.no_3;
    no_2 = λ long. all_of_run limits s n (λ (step : Step). step.reply.number ≡ 2 → ⊥)
        (λ x st r g call k h f. stopped_not_2 limits s n x st r g call k h f long) run (buffer_meets.no_2 long);
  }
    where
      n : ℕ
      n = length store

  -- The accepted slots over the ideal buffer in which nothing waits.
  turns : TakeTurns nowhere (λ q. []) slots
  turns =
      subst (λ (i : Ideal). TakeTurns nowhere i.waiting slots) (stands_fresh limits s store)
      (runs_take_turns limits s (length store) run)

  delays : Delays (quiet s) (byte_steps slots)
  delays =
      let c = runs_chain limits s (length store) run in
      subst (Delays (quiet s)) (accepted-twice steps)
      (subst (λ (i : Ideal). Delays i (accepted (byte_steps slots))) (stands_fresh limits s store)
      (chain_delays (full limits) (omega arith) (keeps-fresh (full limits) s e) (links (full limits) c.1)))

  as_many : length (byte_steps slots) ≡ length slots
  as_many = length-map slots (λ (p : PacketStep). p.step)

  leaves_so : (t q : ℕ) → packet_request_at slots t ≡ some q → LeavesWhole s slots t q
  leaves_so t q f =
      let h = leaves_whole turns t q f in record {
        bytes = h.bytes;
        packet_is = h.packet_is;
        in_range = h.in_range;
        asked = h.asked;
        alone = λ i l.
            by_test (leb (length slots) (t + 1 + i))
            (λ u. no_request_past slots (t + 1 + i) (leb-true (length slots) (t + 1 + i) u))
            (λ u. h.alone i l (leb-false (length slots) (t + 1 + i) u));
        leaves = λ i l m.
            delivered_later s (byte_steps slots) (gives (λ p. []) (byte_steps slots)) delays.delivers (t + 1 + i)
            (omega (arith, m, as_many))
            ∙ h.gives_them i l (omega (arith, m));
      }

  no_other_so : (t q : ℕ) → request_at (byte_steps slots) t ≡ some q → OfAPacket slots t q
  no_other_so t q f =
      let h = asked-of_a_packet turns t q (omega arith) f in record {
        since = h.since;
        place = h.place;
        bytes = h.bytes;
        then_is = h.then_is;
        asked-then = h.asked-then;
        packet_is = h.packet_is;
        place_in = h.place_in;
      }

-- Neither 5 nor 7 comes: a stopped slot has no number of a half, and an accepted one drops none.
module _ (limits : Limits) (s : Sizes) (n : ℕ) where
  no_5_no_7 : {x : State} {store : List ℕ} {r : PacketRecord} {g : Where}
      {steps : List PacketStep} → Runs limits s n x store r g steps
      → All (λ (p : PacketStep). p.step.reply.arrival_number ≡ 0) steps
      × All (λ (p : PacketStep). p.step.reply.request_number ≡ 0) steps
  no_5_no_7 run_ends = (tt, tt)
  no_5_no_7 (run-stops call k h f on) =
      let rest = no_5_no_7 on in ((refl, rest.0), (refl, rest.1))
  no_5_no_7 (run-goes_on {x = x} {store = store} {r = r} {g = g} call h f on) =
      let rest = no_5_no_7 on in
      let now = never_5_or_7 (full limits) x store r call g (omega arith) h.books f in
      ((now.0, rest.0), (now.1, rest.1))

packets_meet : (limits : Limits) (s : Sizes) (store : List ℕ) (steps : List PacketStep) → accepts limits s ≡ true
    → PacketChain (full limits) (fresh (full limits) s) store fresh_record steps → PacketsMeet s store steps
packets_meet limits s store steps e c =
    let run = chain_runs limits s (length store) c nowhere (finds_order_fresh limits s store e) in
    let none_dropped = no_5_no_7 limits s (length store) run in record {
      bytes-meet = bytes-meet limits s store steps e run;
      whole = leaves_so limits s store steps e run;
      once_in = taken-once_in (turns limits s store steps e run);
      no_other = no_other_so limits s store steps e run;
      never_5 = none_dropped.0;
      never_7 = none_dropped.1;
    }

-- A list of the layer's slots is such a chain.
run-chain : (limits : Limits) (x : State) (store : List ℕ) (r : PacketRecord) (calls : List PacketCall)
    → PacketChain (full limits) x store r (packet_run (full limits) x store r calls)
run-chain limits x store r [] = lists.no_slot
run-chain limits x store r (call ∷ calls) = lists.packets_slot call refl
    (let a = packet_slot (full limits) x store r call in run-chain limits a.answer.state a.answer.store a.packets calls)

pub whole_packets : (limits : Limits) → WholePackets limits
whole_packets limits = record {
  every_list = λ s store calls e.
      packets_meet limits s store _ e (run-chain limits (fresh (full limits) s) store fresh_record calls);
  every_chain = packets_meet limits;
}
