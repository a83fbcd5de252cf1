-- Where no idle slot is asked for, none is tried and all stays as it was. Where each is refused alike, a stretch of
-- them is one, it is refused, and all stays as it was.
use mathlib.Core.Path.{◌≡◌, refl, ap, sym}
use mathlib.Core.List.{List}
use Rattle.std.specs.Prelude.{Result, Err}
use Prim.Native.Nat.{ℕ}
use native.Mathlib.Omega.{arith}
use lib.ListN.{length}
use Rattle.model.specs.Sizes.{paper}
use Rattle.model.specs.State.{State}
use Rattle.model.specs.Slot.{number_alone, Answer, refuse, slot}
use Rattle.model.specs.Calls.{idle}
use Rattle.model.proofs.idle.Stretch.{stretch_refused}
use Rattle.layout.specs.declared.Regs.{Regs}
use Rattle.layout.specs.declared.Outcome.{Outcome}
use Rattle.layout.specs.declared.Refusal.{Refusal}
use Rattle.layout.specs.Calls.{number_of, reply_in}
use Rattle.layout.proofs.Refusals.{refusal_is_some}
use Rattle.slot_checked.specs.Says.{JudgeStateSays}
use Rattle.run_checked.specs.Says.{IdleCheckedSays}

pub none_idled : (x : State) (store : List ℕ) (n : ℕ) {regs : Regs} {reply : Result Outcome Refusal} → n ≡ 0
    → reply_in reply ≡ number_alone 0
    → IdleCheckedSays x store n (record { regs = regs; passed = 0; reply = reply }) x store
none_idled x store n none_asked alone = record {
  stretch = record { passed_is = omega (arith, none_asked); quiet_first = tt; last_is = alone };
  state_is = refl;
  store_is = refl;
  kept = λ e. e;
}

pub not-idled : (x : State) (store : List ℕ) (n : ℕ) {regs : Regs} {refusal : Refusal}
    → JudgeStateSays x (length store) (number_of refusal) → (n ≡ 0 → ⊥)
    → IdleCheckedSays x store n (record { regs = regs; passed = 1; reply = Err refusal }) x store
not-idled x store n {refusal = refusal} says some-asked = record {
  stretch = record {
    passed_is =
        omega (
          arith,
          stretch_refused paper x store (number_of refusal) n refused (refusal_is_some refusal),
          some-asked,
        );
    quiet_first = tt;
    last_is = sym (ap (λ (a : Answer). a.reply) refused);
  };
  state_is = sym (ap (λ (a : Answer). a.state) refused);
  store_is = sym (ap (λ (a : Answer). a.store) refused);
  kept = λ e. e;
}
  where
    refused : slot paper x store idle ≡ refuse (number_of refusal) x store
    refused = says.refused (refusal_is_some refusal) store idle refl
