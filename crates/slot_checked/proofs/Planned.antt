-- What is decided of a slot in place is the number of the slot itself, whatever bytes the store holds.
use mathlib.Core.Path.{◌≡◌, ap, sym, ◌∙◌}
use mathlib.Core.List.{List}
use Rattle.std.specs.Prelude.{true, Result, Ok, Err, Some, IfOk}
use Prim.Native.Nat.{ℕ}
use lib.ListN.{length, replicate, length-replicate}
use Rattle.model.specs.Sizes.{paper}
use Rattle.model.specs.Slot.{Call}
use Rattle.model.proofs.one_slot.Accepted.{refusal-told}
use Rattle.layout.specs.declared.Regs.{Regs}
use Rattle.layout.specs.declared.Refusal.{Refusal}
use Rattle.layout.specs.declared.QueueCounts.{QueueCounts}
use Rattle.layout.specs.Counts.{counts_of}
use Rattle.layout.specs.Figures.{figures_in}
use Rattle.layout.specs.Views.{Arrays, Long, sizes_in, state_in}
use Rattle.slot_rules.specs.Says.{RulesSays}
use Rattle.slot_plan.specs.declared.Plan.{Plan}
use Rattle.slot_plan.specs.Says.{PlanSays}
use Rattle.slot_in_place.specs.Says.{Ready}
use Rattle.slot_in_place.proofs.Deciding as deciding
use Rattle.slot_checked.specs.Says.{state_number, IsPlanChecked, PlanCheckedSays}
use Rattle.slot_checked.proofs.Clearing.{ready_judged}

module _ (regs : Regs) (m : Arrays) (long : Long m) (bytes : ℕ) {counts : QueueCounts}
    (says : RulesSays (state_in regs m) (Some counts)) (long_enough : 0 ≡ state_number true (sizes_in regs) bytes) where
  ready : (store : List ℕ) → length store ≡ bytes → Ready regs m (counts_of counts) store
  ready store l =
      ready_judged regs m store says (long_enough ∙ ap (state_number true (sizes_in regs)) (sym l)) long

  -- With some store of so many bytes.
  pub ready_with_some : Ready regs m (counts_of counts) (replicate bytes 0)
  ready_with_some = ready (replicate bytes 0) (length-replicate bytes 0)

  abbrev Says : Call → Result Plan Refusal → Type 0
  Says call r =
      PlanSays (figures_in regs (counts_of counts) m.stored) regs.phase regs.head_fill (state_in regs m).cells call r

  checked : (call : Call) (r : Result Plan Refusal) → Says call r
      → IfOk r (λ (p : Plan). IsPlanChecked (state_in regs m) bytes call p)
  checked call (Ok p) plan = record {
    decided = λ store l. deciding.decided (ready store l) call plan;
    slots_left_is = deciding.slots_left_is ready_with_some call plan;
    left_is = deciding.left_is ready_with_some call plan;
    carries = λ store l. deciding.carries (ready store l) call plan;
  }
  checked call (Err refusal) plan = tt

  pub plan_decided : (call : Call) {r : Result Plan Refusal} → Says call r → PlanCheckedSays (state_in regs m) bytes call r
  plan_decided call {r} plan = record {
    number_is = λ store l.
        deciding.number_is (ready store l) call plan ∙ sym (refusal-told paper (state_in regs m) store call);
    plan_is = checked call r plan;
  }
