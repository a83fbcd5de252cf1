-- A state that was opened is fresh, and ready with every store that is long enough.
use mathlib.Core.Path.{◌≡◌, refl, ap, sym, ◌∙◌, subst}
use mathlib.Core.Bool.{Bool, true, false, not}
use mathlib.Core.List.{List}
use Prim.Native.Nat.{ℕ, ◌≤◌}
use lib.ListN.{length}
use Rattle.model.specs.Basics.{when}
use Rattle.model.specs.Sizes.{sizes, paper_limits, accepts, paper, store_bytes}
use Rattle.model.specs.State.{State, fresh, keeps}
use Rattle.model.proofs.basics.Tests.{true_not_false}
use Rattle.model.proofs.one_slot.Rules.{keeps-holds, keeps-fresh}
use Rattle.layout.specs.Counts.{ByQueue, Tallies}
use Rattle.layout.specs.declared.Regs.{Regs}
use Rattle.layout.specs.Views.{Arrays, regs_in, state_in}
use Rattle.layout.specs.Fresh.{fresh_regs, fresh_arrays, fresh_counts}
use Rattle.layout.proofs.Fresh.{fresh_in, fresh-tallies}
use Rattle.slot_in_place.specs.Says.{Ready}
use Rattle.gelwynnar.specs.Slots.{OpenSays}

module _ (q b k : ℕ) (ok : accepts paper_limits (sizes q b k) ≡ true) where
  fresh-ready : (store : List ℕ) → store_bytes (sizes q b k) ≤ length store
      → Ready (fresh_regs q b k) fresh_arrays fresh_counts store
  fresh-ready store long = record {
    long = record {
      tail_long = refl;
      head_long = refl;
      cells_long = refl;
      firsts_long = refl;
      stored_long = refl;
    };
    kept = ap (keeps paper) (fresh_in q b k ok)
        ∙ keeps-holds paper (fresh paper (sizes q b k)) (keeps-fresh paper (sizes q b k) ok);
    tallies = subst (λ (x : State). Tallies x fresh_counts) (sym (fresh_in q b k ok)) (fresh-tallies q b k);
    store_long = long;
  }

pub opened : (q b k : ℕ) {r : ℕ} {regs : List ℕ} {m : Arrays} {counts : ByQueue} {regs' : List ℕ}
    → accepts paper_limits (sizes q b k) ≡ true → r ≡ 0 → regs_in regs' ≡ fresh_regs q b k
    → OpenSays q b k r regs m counts regs' fresh_arrays fresh_counts
opened q b k ok e put = record {
  number_is = e ∙ sym (ap (λ (t : Bool). when (not t) 1) ok);
  fresh-is = λ _. ap (λ (n : Regs). state_in n fresh_arrays) put ∙ fresh_in q b k ok;
  places_are = λ _. (put, refl, refl);
  ready = λ _ store long.
      subst (λ (n : Regs). Ready n fresh_arrays fresh_counts store) (sym put) (fresh-ready q b k ok store long);
  as_given = λ f. absurd (true_not_false (accepts paper_limits (sizes q b k)) ok f);
}

pub not_opened : (q b k : ℕ) {r : ℕ} {regs : List ℕ} {m : Arrays} {counts : ByQueue}
    → accepts paper_limits (sizes q b k) ≡ false → r ≡ 1 → OpenSays q b k r regs m counts regs m counts
not_opened q b k none e = record {
  number_is = e ∙ sym (ap (λ (t : Bool). when (not t) 1) none);
  fresh-is = λ ok. absurd (true_not_false (accepts paper_limits (sizes q b k)) ok none);
  places_are = λ ok. absurd (true_not_false (accepts paper_limits (sizes q b k)) ok none);
  ready = λ ok. absurd (true_not_false (accepts paper_limits (sizes q b k)) ok none);
  as_given = λ _. (refl, refl, refl);
}
