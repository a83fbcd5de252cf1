-- A stretch of idle slots is quiet slots and perhaps one slot more, which answers as the model's slot on what the quiet
-- ones leave.
use mathlib.Core.Path.{◌≡◌, refl, ap, sym, ◌∙◌, subst}
use Rattle.std.specs.Prelude.{false, Ok, None}
use mathlib.Core.List.{List, [], ◌∷◌, ◌++◌}
use Prim.Native.Nat.{ℕ, ◌+◌, ◌-◌, ◌≤◌}
use native.Mathlib.Omega.{arith}
use Rattle.model.specs.Basics.{All}
use Rattle.model.specs.Sizes.{paper}
use Rattle.model.specs.State.{State}
use Rattle.model.specs.Slot.{number_alone, Answer, slot}
use Rattle.model.specs.Calls.{idle, idles}
use Rattle.model.specs.Lists.{Step, step_of, run, last_state, last_store}
use Rattle.model.specs.Idle.{QuietStep, quiet_first, last_answer}
use Rattle.model.proofs.basics.AllOf.{all_first, all_behind}
use Rattle.model.proofs.basics.Tests.{by_zero}
use Rattle.model.proofs.one_slot.Lists.{run-append}
use Rattle.model.proofs.idle.QuietSlots.{PassedQuietly, idles-parts}
use Rattle.model.proofs.idle.Stretch.{last_is_slot, last_leaves}
use Rattle.layout.specs.Counts.{ByQueue}
use Rattle.layout.specs.declared.Outcome.{Outcome}
use Rattle.layout.specs.Calls.{reply_in}
use Rattle.layout.specs.Views.{Arrays, state_in}
use Rattle.slot_in_place.specs.declared.Advanced.{Advanced}
use Rattle.slot_in_place.specs.Says.{Ready, answer_in, AdvanceSays}
use Rattle.idle_in_place.specs.declared.Passed.{Passed}
use Rattle.idle_in_place.specs.Says.{PassSays}

-- Where some idle slots are all quiet, so are all but the last, and so is the last.
module _ (x : State) (store : List ℕ) (n : ℕ) (quiet : All QuietStep (run paper x store (idles n))) where
  abbrev first_steps : List Step
  first_steps = run paper x store (idles (n - 1))

  abbrev last_slot : Answer
  last_slot =
      slot paper (last_state paper x store (idles (n - 1))) (last_store paper x store (idles (n - 1))) idle

  abbrev last_step : Step
  last_step =
      step_of (last_state paper x store (idles (n - 1))) (last_store paper x store (idles (n - 1))) idle last_slot

  in_parts : 1 ≤ n → All QuietStep (first_steps ++ last_step ∷ [])
  in_parts h =
      subst (All QuietStep)
      (ap (run paper x store) (idles-parts n (n - 1) 1 (omega (arith, h)))
      ∙ run-append paper x store (idles (n - 1)) (idles 1))
      quiet

  first_quiet : All QuietStep first_steps
  first_quiet =
      by_zero n
      (λ e. let none_before : n ≡ n - 1 = omega (arith, e) in
      subst (λ (k : ℕ). All QuietStep (run paper x store (idles k))) none_before quiet)
      (λ h. all_first QuietStep first_steps (last_step ∷ []) (in_parts h))

  -- What the last answers, or none at all: 0 and nothing else.
  last_quiet : (last_answer paper x store n).reply ≡ number_alone 0
  last_quiet =
      by_zero n
      (λ e. ap (λ (k : ℕ). (last_answer paper x store k).reply) e)
      (λ h. ap (λ (a : Answer). a.reply) (last_is_slot paper x store n h)
      ∙ (all_behind QuietStep first_steps (last_step ∷ []) (in_parts h)).0)

-- A slot that did nothing tells 0 and nothing else.
pub nothing_told : (o : Outcome)
    → (o.arrival_dropped ≡ false)
    × ((o.request_dropped ≡ false)
    × ((o.delivery ≡ None)
    × ((o.written ≡ None)
    × (o.read ≡ None))))
    → reply_in (Ok o) ≡ number_alone 0
nothing_told o e = rw (e.0, e.1.0, e.1.1.0, e.1.1.1.0, e.1.1.1.1) refl

-- A stretch of quiet slots alone.
pub pass_is_quiet : {x : State} {store : List ℕ} {n : ℕ} {r : Passed} {m : Arrays} {counts : ByQueue}
    → r.passed ≡ n → r.passed ≡ quiet_first paper x store n
    → reply_in r.reply ≡ number_alone 0
    → PassedQuietly paper x store r.passed (state_in r.regs m)
    → Ready r.regs m counts store
    → PassSays x store n r m counts store
pass_is_quiet {x} {store} {n} {r} all counted alone p ready = record {
  stretch = record {
    passed_is = omega (arith, all, counted);
    quiet_first = first_quiet x store r.passed p.steps_quiet;
    last_is = alone ∙ sym (last_quiet x store r.passed p.steps_quiet);
  };
  state_is = sym p.state_is;
  store_is = sym p.store_is;
  ready = ready;
}

-- Quiet slots and one more, which answers as the slot on what the quiet ones leave.
abbrev once_more : ℕ → Advanced → Passed
once_more k a = record { regs = a.regs; passed = k + 1; reply = a.reply }

module _ {x y : State} {store : List ℕ} {n k : ℕ} {a : Advanced} {m : Arrays} {counts : ByQueue} {store' : List ℕ}
    (more : k + 1 ≤ n) (counted : k ≡ quiet_first paper x store n) (p : PassedQuietly paper x store k y)
    (says : AdvanceSays y store idle a m counts store') where
  before_last : k ≡ k + 1 - 1
  before_last = omega arith

  last_is : answer_in a m store' ≡ last_answer paper x store (k + 1)
  last_is =
      says.answer-is
      ∙ ap (λ (z : State). slot paper z store idle) (sym p.state_is)
      ∙ ap (λ (bytes : List ℕ). slot paper (last_state paper x store (idles k)) bytes idle) (sym p.store_is)
      ∙ ap (λ (i : ℕ). slot paper (last_state paper x store (idles i)) (last_store paper x store (idles i)) idle)
      before_last
      ∙ sym (last_is_slot paper x store (k + 1) (omega arith))

  pub pass_once_more : PassSays x store n (once_more k a) m counts store'
  pass_once_more = record {
    stretch = record {
      passed_is = omega (arith, more, counted);
      quiet_first = subst (λ (i : ℕ). All QuietStep (run paper x store (idles i))) before_last p.steps_quiet;
      last_is = ap (λ (b : Answer). b.reply) last_is;
    };
    state_is = ap (λ (b : Answer). b.state) last_is ∙ sym (last_leaves paper x store (k + 1)).0;
    store_is = ap (λ (b : Answer). b.store) last_is ∙ sym (last_leaves paper x store (k + 1)).1;
    ready = says.ready;
  }
