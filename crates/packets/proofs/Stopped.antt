-- A slot that the layer stops delivers and moves nothing, leaves caches that hold, and answers neither 8, 9 or 10 nor
-- 3, nor 2 where the store is long enough: state and record keep their rules, and the buffer's own slot on a good state
-- answers 6 or lower. `stopped_silent`, `stopped_caches`, `stopped_no_miss`, `stopped_not_3`, `stopped_not_2` say it.
use mathlib.Core.Path.{◌≡◌, refl, ap, sym, ◌∙◌, subst}
use mathlib.Core.Bool.{Bool, true, false, ◌&&◌, not}
use mathlib.Core.List.{List}
use Prim.Native.Nat.{ℕ, suc, ◌≤◌, ◌<◌}
use native.Mathlib.Omega.{arith}
use lib.Dec.{ltb}
use lib.ListN.{length}
use borrow.Author.Tests.{le-ltb}
use Rattle.model.specs.Basics.{when}
use Rattle.model.specs.Sizes.{Sizes, Limits, Design, store_bytes, full}
use Rattle.model.specs.State.{State, keeps}
use Rattle.model.specs.Slot.{Call, oldest_cell, wrote, queue_to_read, arrival_unknown, request_unknown, halves_taken}
use Rattle.model.specs.Slot.{leaves_uncovered, tail_full, head_full, refusals, slot}
use Rattle.model.specs.Lists.{Step}
use Rattle.model.specs.Demand.{CachesHold, NoMiss, RefusedSilent}
use Rattle.packets.specs.Packets.{PacketRecord, record_keeps, PacketCall, byte_call, length_wrong, no_place, no_room}
use Rattle.packets.specs.Packets.{packet_refusals, packet_refusal, packet_stop}
use Rattle.packets.specs.PacketLists.{packet_step}
use Rattle.model.proofs.basics.Tests.{and_both}
use Rattle.model.proofs.basics.AllOf.{◌also◌}
use Rattle.model.proofs.basics.FirstRefusal.{not_first, when-excluded}
use Rattle.model.proofs.one_slot.Rules.{keeps-holds}
use Rattle.model.proofs.one_slot.Accepted.{outcome, refusal-told}
use Rattle.model.proofs.no_miss.Good.{slot-good}
use Rattle.packets.proofs.Slots.{record-holds}
use Rattle.packets.proofs.Layer.{Where}
use Rattle.packets.proofs.Runs.{FindsOrder}

-- The buffer's slot does not answer 3 where the state keeps the rules, nor 2 where the store is long enough.
buffer_never : (bad : ℕ) → 1 ≤ bad → bad ≤ 3 → (design : Design) (x : State) (store : List ℕ) (call : Call)
    → (3 ≡ bad → keeps design x ≡ true) → (2 ≡ bad → ltb (length store) (store_bytes x.sizes) ≡ false)
    → (slot design x store call).reply.number ≡ bad → ⊥
buffer_never bad pos low design x store call three two e =
    not_first bad (refusals design x store call) pos (
    when-excluded bad (not (keeps design x)) 3 pos (λ h. ap not (three h))
    also when-excluded bad (ltb (length store) (store_bytes x.sizes)) 2 pos two
    also later (arrival_unknown x call.arrival) 4 (omega arith)
    also later (request_unknown x call.request) 6 (omega arith)
    also later (leaves_uncovered (oldest_cell x.cells) x) 8 (omega arith)
    also later (tail_full x left.arrival left.request) 9 (omega arith)
    also later (head_full (wrote x left) (queue_to_read (wrote x left))) 10 (omega arith)
    also tt)
    (sym (refusal-told design x store call) ∙ e)
  where
    left : Call
    left = halves_taken x call

    later : (t : Bool) (k : ℕ) → 3 < k → when t k ≡ bad → ⊥
    later t k l = when-excluded bad t k pos (λ h. absurd (omega (arith, h)))

module _ (limits : Limits) (s : Sizes) (n : ℕ) (x : State) (store : List ℕ) (r : PacketRecord) (g : Where)
    (call : PacketCall) (k : ℕ) (going : FindsOrder limits s n x store r g)
    (stops : packet_refusal (full limits) x store r call ≡ suc k) where
  abbrev step : Step
  step = (packet_step x store r call (packet_stop (suc k) x store r)).step

  pub stopped_silent : RefusedSilent step
  stopped_silent = record {
    delivers_nothing = λ z. refl;
    writes_nothing = λ z. refl;
    reads_nothing = λ z. refl;
  }

  pub stopped_caches : CachesHold s step
  stopped_caches =
      subst (λ (z : Sizes). CachesHold z step) going.same-sizes (record {
        tail_joined = going.good.kept.tail_fits;
        tail_ends = going.good.kept.tail_fits;
        head_read = going.good.kept.head_fits;
        head_ends = going.good.kept.head_fits;
      })

  state_keeps : keeps (full limits) x ≡ true
  state_keeps = keeps-holds (full limits) x going.good.kept

  both-keep : (keeps (full limits) x && record_keeps x.sizes.Q r) ≡ true
  both-keep = and_both _ _ state_keeps (record-holds x.sizes.Q r going.books.record_keeps)

  -- A number that is none of the layer's tests, and that the buffer's slot does not answer.
  never : (bad : ℕ) → 1 ≤ bad → bad ≤ 10 → (4 ≡ bad → ⊥) → (6 ≡ bad → ⊥)
      → (2 ≡ bad → ltb (length store) (store_bytes x.sizes) ≡ false)
      → ((slot (full limits) x store (byte_call r call)).reply.number ≡ bad → ⊥)
      → suc k ≡ bad → ⊥
  never bad pos low not-4 not-6 long not-buffer e =
      not_first bad (packet_refusals (full limits) x store r call) pos (
      when-excluded bad (not (keeps (full limits) x && record_keeps x.sizes.Q r)) 3 pos (λ h. ap not both-keep)
      also when-excluded bad (ltb (length store) (store_bytes x.sizes)) 2 pos long
      also other (arrival_unknown x (byte_call r call).arrival) 4 not-4
      also other (length_wrong r.incoming call.arrival) 20 (λ h. omega (arith, h))
      also other (no_place r call.arrival) 21 (λ h. omega (arith, h))
      also other (no_room x call.arrival) 22 (λ h. omega (arith, h))
      also other (request_unknown x call.request) 6 not-6
      also not-buffer
      also tt)
      (stops ∙ e)
    where
      other : (t : Bool) (i : ℕ) → (i ≡ bad → ⊥) → when t i ≡ bad → ⊥
      other t i f = when-excluded bad t i pos (λ h. absurd (f h))

  pub stopped_no_miss : NoMiss step
  stopped_no_miss = record {
    not-8 = high 8 (omega arith) (omega arith);
    not_9 = high 9 (omega arith) (omega arith);
    not_10 = high 10 (omega arith) (omega arith);
  }
    where
      low : (slot (full limits) x store (byte_call r call)).reply.number ≤ 6
      low = (slot-good limits x store (byte_call r call) (slot (full limits) x store (byte_call r call)) going.good
          (outcome (full limits) x store (byte_call r call))).low

      high : (bad : ℕ) → 7 ≤ bad → bad ≤ 10 → suc k ≡ bad → ⊥
      high bad l m =
          never bad (omega arith) m (λ h. omega (arith, h)) (λ h. omega (arith, h)) (λ h. absurd (omega (arith, h)))
          (λ h. omega (arith, h, low))

  pub stopped_not_3 : suc k ≡ 3 → ⊥
  stopped_not_3 =
      never 3 (omega arith) (omega arith) (λ h. omega (arith, h)) (λ h. omega (arith, h))
      (λ h. absurd (omega (arith, h)))
      (buffer_never 3 (omega arith) (omega arith) (full limits) x store (byte_call r call) (λ h. state_keeps)
      (λ h. absurd (omega (arith, h))))

  pub stopped_not_2 : store_bytes s ≤ n → suc k ≡ 2 → ⊥
  stopped_not_2 long =
      never 2 (omega arith) (omega arith) (λ h. omega (arith, h)) (λ h. omega (arith, h)) (λ h. enough)
      (buffer_never 2 (omega arith) (omega arith) (full limits) x store (byte_call r call)
      (λ h. absurd (omega (arith, h))) (λ h. enough))
    where
      enough : ltb (length store) (store_bytes x.sizes) ≡ false
      enough =
          le-ltb (length store) (store_bytes x.sizes)
          (omega (arith, long, going.same_length, ap store_bytes going.same-sizes))
