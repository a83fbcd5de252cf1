-- A slot of the arbiter's of a state of which 3 and 2 are judged: refused whatever would be chosen, or in place.
use mathlib.Core.Path.{◌≡◌, refl, ap, sym, ◌∙◌, subst}
use mathlib.Core.List.{List}
use mathlib.Core.Option.{Option}
use Rattle.std.specs.Prelude.{Err, None}
use Prim.Native.Nat.{ℕ, zero, suc}
use lib.ListN.{length}
use Rattle.model.specs.Sizes.{paper}
use Rattle.model.specs.State.{Byte, State}
use Rattle.model.specs.Slot.{Answer, refuse, slot}
use Rattle.model.specs.Arbiter.{choice, arbiter_call, last_after, noting, arbiter_slot}
use Rattle.layout.specs.Counts.{ByQueue}
use Rattle.layout.specs.declared.Refusal.{Refusal}
use Rattle.layout.specs.declared.Regs.{Regs}
use Rattle.layout.specs.Calls.{number_of}
use Rattle.layout.proofs.Refusals.{refusal_is_some}
use Rattle.layout.specs.Views.{Arrays, Long, state_in}
use Rattle.slot_in_place.specs.Says.{Ready}
use Rattle.slot_checked.specs.Says.{JudgeStateSays, CountsSay, judged_number, LeaveSays}
use Rattle.slot_checked.proofs.Judging.{judged_state}
use Rattle.slot_checked.proofs.Clearing.{ready_counted, leaves_refused, leaves_ready, judged_lent}
use Rattle.arbiter_in_place.specs.declared.Arbitrated.{Arbitrated}
use Rattle.arbiter_in_place.specs.Says.{ArbiterAdvanceSays}
use Rattle.arbiter_in_place.proofs.Composed.{taken_not}

-- A refusal of the arbiter's call is the arbiter's answer.
arbiter_refused : (n : ℕ) (x : State) (store : List ℕ) (arrival : Option Byte) → (n ≡ 0 → ⊥)
    → slot paper x store (arbiter_call x arrival) ≡ refuse n x store
    → arbiter_slot paper x store arrival ≡ refuse n x store
arbiter_refused zero x store arrival f e = absurd (f refl)
arbiter_refused (suc n) x store arrival f e =
    ap (λ (a : Answer). noting (last_after a.reply.number (choice x arrival) x.last_asked) a) e

module _ {regs : Regs} (m : Arrays) (store : List ℕ) {before : Regs} (read-in : before ≡ regs) {n : ℕ}
    {counts counts' : ByQueue} (says : (n ≡ judged_number before m store)
    × CountsSay (state_in before m) (state_in before m) counts counts') where
  here : (n ≡ judged_number regs m store) × CountsSay (state_in regs m) (state_in regs m) counts counts'
  here = judged_lent read-in m store says

  judged : JudgeStateSays (state_in regs m) (length store) n
  judged = judged_state (state_in regs m) (length store) here.0

  pub slot-refused : (arrival : Option Byte) {refusal : Refusal} → n ≡ number_of refusal
      → ArbiterAdvanceSays regs m store arrival (record { reply = Err refusal; asked = None }) regs m store
      × LeaveSays regs m counts store regs m counts' store
  slot-refused arrival {refusal} is = (
    record {
      answer-is = sym (arbiter_refused (number_of refusal) (state_in regs m) store arrival (refusal_is_some refusal)
          (subst (λ (k : ℕ). slot paper (state_in regs m) store (arbiter_call (state_in regs m) arrival)
          ≡ refuse k (state_in regs m) store) is
          (judged.refused other store (arbiter_call (state_in regs m) arrival) refl)));
      asked_is = taken_not (number_of refusal) (choice (state_in regs m) arrival) (refusal_is_some refusal);
      as_given = λ _. (refl, refl);
    },
    leaves_refused regs m store here.0 here.1 other,
  )
    where
      other : n ≡ 0 → ⊥
      other z = refusal_is_some refusal (sym is ∙ z)

  pub slot-ready : n ≡ 0 → Long m → Ready regs m counts' store
  slot-ready z long = ready_counted regs m store judged z here.1 long

  pub slot-advanced : n ≡ 0 → {arrival : Option Byte} {r : Arbitrated} {regs' : Regs} {m' : Arrays} {counts'' : ByQueue}
      {store' : List ℕ}
      → ArbiterAdvanceSays regs m store arrival r regs' m' store' × Ready regs' m' counts'' store'
      → ArbiterAdvanceSays regs m store arrival r regs' m' store'
      × LeaveSays regs m counts store regs' m' counts'' store'
  slot-advanced z says = (says.0, leaves_ready regs m store here.0 z says.1)
