-- A slot of the packet layer of a state and a record of which 3 and 2 are judged: stopped whatever is asked, or in place.
use mathlib.Core.Path.{◌≡◌, refl, ap, sym, ◌∙◌}
use mathlib.Core.Bool.{Bool, true, false, ◌&&◌, not}
use mathlib.Core.List.{List, [], ◌∷◌}
use Prim.Native.Nat.{ℕ, zero, suc}
use native.Mathlib.Omega.{arith}
use lib.Dec.{eqb, ltb}
use lib.ListN.{length, drop}
use Rattle.std.specs.Prelude.{Result}
use Rattle.model.specs.Basics.{choose, when, first_refusal}
use Rattle.model.specs.Sizes.{paper, store_bytes}
use Rattle.model.specs.State.{State, keeps}
use Rattle.model.specs.Slot as model
use Rattle.model.specs.Slot.{number_alone}
use Rattle.model.proofs.basics.Tests.{by_test}
use Rattle.packets.specs.Packets.{PacketRecord, record_keeps, PacketCall, packet_refusals, packet_refusal}
use Rattle.layout.specs.Calls.{reply_in}
use Rattle.layout.specs.Counts.{ByQueue}
use Rattle.layout.specs.Views.{Arrays, Long, sizes_in, state_in}
use Rattle.layout.specs.declared.Regs.{Regs}
use Rattle.layout.specs.declared.Outcome.{Outcome}
use Rattle.layout.specs.declared.Refusal.{Refusal}
use Rattle.packet_layout.specs.declared.PacketRegs.{PacketRegs}
use Rattle.packet_layout.specs.declared.PacketReply.{PacketReply}
use Rattle.packet_layout.specs.Views.{packet_regs_in, record_in, ListsLong}
use Rattle.slot_in_place.specs.Says.{Ready}
use Rattle.slot_checked.specs.Says.{CountsSay, judged_number}
use Rattle.slot_checked.proofs.Judging.{judged_state}
use Rattle.slot_checked.proofs.Clearing.{ready_counted, leaves_same, leaves_ready, judged_lent}
use Rattle.packet_in_place.specs.Says.{RecordArrays, record_of, RecordReady, PacketAdvanceSays}
use Rattle.packet_in_place.proofs.Composed.{first_stays, stop_is}
use Rattle.packet_checked.specs.Says.{with_record, packet_judged, PacketLeaveSays}

-- The number with the record's rules is what the request says of both together.
as_request : (kept record_kept short : Bool)
    → with_record (first_refusal (when (not kept) 3 ∷ when short 2 ∷ [])) record_kept
    ≡ first_refusal (when (not (kept && record_kept)) 3 ∷ when short 2 ∷ [])
as_request false record_kept short = refl
as_request true true true = refl
as_request true true false = refl
as_request true false true = refl
as_request true false false = refl

-- Neither came: the state's own number is 0, and the record keeps the rules.
nothing-judged : (n : ℕ) (kept : Bool) → with_record n kept ≡ 0 → (n ≡ 0) × (kept ≡ true)
nothing-judged n kept e =
    by_test (eqb n 3)
    (λ t. let z : ◌≡◌ {A = ℕ} 3 0 = rw t at e in absurd (omega (arith, z)))
    (λ t. go kept (rw t at e))
  where
    go : (k : Bool) → choose k n 3 ≡ 0 → (n ≡ 0) × (k ≡ true)
    go true z = (z, refl)
    go false z = absurd (omega (arith, z))

module _ {regs : Regs} (m : Arrays) (store : List ℕ) (p : RecordArrays) {before : Regs} (read-in : before ≡ regs)
    {n : ℕ} {counts counts' : ByQueue} (says : (n ≡ judged_number before m store)
    × CountsSay (state_in before m) (state_in before m) counts counts') where
  abbrev x : State
  x = state_in regs m

  abbrev rec : PacketRecord
  rec = record_of p

  here : (n ≡ judged_number regs m store) × CountsSay (state_in regs m) (state_in regs m) counts counts'
  here = judged_lent read-in m store says

  module _ {packet : PacketRegs} (record-in : packet ≡ packet_regs_in p.regs) {k : ℕ}
      (judged : k ≡ with_record n (record_keeps before.queues (record_in packet p.lengths p.listed))) where
    judged_here : k ≡ with_record n (record_keeps regs.queues rec)
    judged_here =
        judged
        ∙ ap (λ (g : Regs). with_record n (record_keeps g.queues (record_in packet p.lengths p.listed))) read-in
        ∙ ap (λ (j : PacketRegs). with_record n (record_keeps regs.queues (record_in j p.lengths p.listed)))
        record-in

    judged_is : k ≡ packet_judged regs m store p
    judged_is =
        judged_here
        ∙ ap (λ (j : ℕ). with_record j (record_keeps regs.queues rec)) here.0
        ∙ as_request (keeps paper x) (record_keeps regs.queues rec) (ltb (length store) (store_bytes (sizes_in regs)))

    -- 3 or 2 stops the slot.
    refusal_is : (call : PacketCall) (j : ℕ) → (j ≡ 0 → ⊥) → j ≡ packet_judged regs m store p
        → packet_refusal paper x store rec call ≡ j
    refusal_is call zero f e = absurd (f refl)
    refusal_is call (suc j) f e =
        first_stays (
        when (not (keeps paper x && record_keeps regs.queues rec)) 3 ∷
        when (ltb (length store) (store_bytes (sizes_in regs))) 2 ∷ [])
        (drop 2 (packet_refusals paper x store rec call)) (sym e)

    pub slot-stopped : (call : PacketCall) {told : Result Outcome Refusal} → (k ≡ 0 → ⊥) → reply_in told ≡ number_alone k → Long m
        → PacketAdvanceSays regs m store p call (record { reply = told; packet_dropped = false }) regs m store p
        × PacketLeaveSays regs m counts store p regs m counts' store p
    slot-stopped call f alone long = (
      record {
        answer-is =
            ap (λ (t : model.Reply). record {
              answer = record { reply = t; state = x; store = store };
              packet_number = 0;
              packets = rec;
            }) alone
            ∙ stop_is k x store rec call f (refusal_is call k f judged_is);
        as_given = λ _. (refl, refl, refl);
      },
      record {
        state_left = leaves_same regs m store here.0 here.1 long;
        record_ready = λ z. absurd (f (judged_is ∙ z));
      },
    )

    -- Neither does: it goes in place.
    module _ (none : k ≡ 0) where
      clear : (n ≡ 0) × (record_keeps regs.queues rec ≡ true)
      clear = nothing-judged n (record_keeps regs.queues rec) (sym judged_here ∙ none)

      pub slot-ready : Long m → ListsLong p.lengths p.listed
          → Ready regs m counts' store × RecordReady regs.queues p
      slot-ready long lists = (
        ready_counted regs m store (judged_state x (length store) here.0) clear.0 here.1 long,
        record { lists_long = lists; record_keeps = clear.1 },
      )

      pub slot-advanced : {call : PacketCall} {r : PacketReply} {regs' : Regs} {m' : Arrays} {counts'' : ByQueue}
          {store' : List ℕ} {p' : RecordArrays}
          → PacketAdvanceSays regs m store p call r regs' m' store' p'
          × Ready regs' m' counts'' store' × RecordReady regs'.queues p'
          → PacketAdvanceSays regs m store p call r regs' m' store' p'
          × PacketLeaveSays regs m counts store p regs' m' counts'' store' p'
      slot-advanced done = (
        done.0,
        record {
          state_left = leaves_ready regs m store here.0 clear.0 done.1;
          record_ready = λ _. done.2;
        },
      )
