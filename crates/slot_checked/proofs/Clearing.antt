-- A state of which 3 and 2 are ruled out is ready for slots in place, with the counts that judging took.
use mathlib.Core.Path.{◌≡◌, refl, sym, ◌∙◌, subst}
use mathlib.Core.Bool.{true}
use mathlib.Core.List.{List}
use Prim.Native.Nat.{ℕ}
use lib.ListN.{length}
use Rattle.model.specs.Sizes.{paper}
use Rattle.model.specs.State.{State, keeps}
use Rattle.model.proofs.basics.Tests.{true_not_false}
use Rattle.layout.specs.declared.Regs.{Regs}
use Rattle.std.specs.Prelude.{Some}
use Rattle.layout.specs.declared.QueueCounts.{QueueCounts}
use Rattle.layout.specs.Counts.{ByQueue, counts_of}
use Rattle.layout.specs.Views.{Arrays, Long, sizes_in, state_in}
use Rattle.slot_rules.specs.Says.{RulesSays}
use Rattle.slot_in_place.specs.Says.{Ready}
use Rattle.slot_checked.specs.Says.{state_number, JudgeStateSays, CountsSay, judged_number, LeaveSays}
use Rattle.slot_checked.proofs.Judging.{number_says, judged_state}

module _ (regs : Regs) (m : Arrays) (store : List ℕ) where
  pub ready_judged : {counts : QueueCounts} → RulesSays (state_in regs m) (Some counts)
      → 0 ≡ state_number true (sizes_in regs) (length store) → Long m → Ready regs m (counts_of counts) store
  ready_judged says e long =
      let passed = (number_says (state_in regs m) (length store) (sym says.0) e).passed refl in record {
        long = long;
        kept = passed.0;
        tallies = says.1;
        store_long = passed.1;
      }

  -- The same of counts that are lent.
  pub ready_counted : {n : ℕ} {before after : ByQueue} → JudgeStateSays (state_in regs m) (length store) n → n ≡ 0
      → CountsSay (state_in regs m) (state_in regs m) before after → Long m → Ready regs m after store
  ready_counted says z counts long =
      let passed = says.passed z in record {
        long = long;
        kept = passed.0;
        tallies = counts.counted passed.0;
        store_long = passed.1;
      }

-- A call that is refused with 3 or 2 leaves all as it came, and so does one of no slots.
module _ (regs : Regs) (m : Arrays) (store : List ℕ) {n : ℕ} (number_is : n ≡ judged_number regs m store)
    {before after : ByQueue} (counts : CountsSay (state_in regs m) (state_in regs m) before after) where
  pub leaves_refused : (n ≡ 0 → ⊥) → LeaveSays regs m before store regs m after store
  leaves_refused f = record {
    as_given = λ _. (refl, refl);
    ready = λ z. absurd (f (number_is ∙ z));
    counts_are = counts;
  }

  pub leaves_same : Long m → LeaveSays regs m before store regs m after store
  leaves_same long = record {
    as_given = λ _. (refl, refl);
    ready = λ z.
        ready_counted regs m store (judged_state (state_in regs m) (length store) number_is) (number_is ∙ z) counts long;
    counts_are = counts;
  }

-- What is left ready has its own counts.
pub counts_ready : {x : State} {bytes n : ℕ} → JudgeStateSays x bytes n → n ≡ 0
    → {regs : Regs} {m : Arrays} {before after : ByQueue} {store : List ℕ} → Ready regs m after store
    → CountsSay x (state_in regs m) before after
counts_ready {x} says z ready = record {
  counted = λ kept. ready.tallies;
  as_given = λ broken. absurd (true_not_false (keeps paper x) (says.passed z).0 broken);
}

pub leaves_ready : (regs : Regs) (m : Arrays) (store : List ℕ) {n : ℕ} → n ≡ judged_number regs m store → n ≡ 0
    → {regs' : Regs} {m' : Arrays} {before after : ByQueue} {store' : List ℕ} → Ready regs' m' after store'
    → LeaveSays regs m before store regs' m' after store'
leaves_ready regs m store number_is z ready = record {
  as_given = λ f. absurd (f (sym number_is ∙ z));
  ready = λ _. ready;
  counts_are = counts_ready (judged_state (state_in regs m) (length store) number_is) z ready;
}

-- What is judged of registers that were read from an array is judged of what the array holds.
pub judged_lent : {before regs : Regs} → before ≡ regs → (m : Arrays) (store : List ℕ) {n : ℕ} {counts counts' : ByQueue}
    → (n ≡ judged_number before m store) × CountsSay (state_in before m) (state_in before m) counts counts'
    → (n ≡ judged_number regs m store) × CountsSay (state_in regs m) (state_in regs m) counts counts'
judged_lent read m store {n} {counts} {counts'} says =
    subst
    (λ (k : Regs). (n ≡ judged_number k m store) × CountsSay (state_in k m) (state_in k m) counts counts')
    read says
