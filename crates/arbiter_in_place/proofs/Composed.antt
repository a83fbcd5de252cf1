-- The choice by the counts, the slot of its call and the last one asked noted are the model's arbiter: `composed`.
use mathlib.Core.Path.{◌≡◌, refl, ap, sym, ◌∙◌, subst}
use mathlib.Core.List.{List}
use mathlib.Core.Option.{Option, some, none}
use Rattle.std.specs.Prelude as prelude
use Rattle.std.specs.Prelude.{Result}
use Prim.Native.Nat.{ℕ, zero, suc, ◌<◌}
use native.Mathlib.Omega.{arith}
use Rattle.model.specs.Sizes.{Sizes, paper}
use Rattle.model.specs.State.{Byte, State}
use Rattle.model.specs.Slot.{Call, Answer, slot}
use Rattle.model.specs.Lists.{taken}
use Rattle.model.specs.Arbiter.{choice, arbiter_call, last_after, noting}
use Rattle.model.proofs.basics.Tests.{none_not_some}
use Rattle.model.proofs.one_slot.Rules.{keeps-facts, keeps-holds, keeps-noted}
use Rattle.model.proofs.one_slot.Kept.{slot_kept}
use Rattle.model.proofs.one_slot.Chains.{own_notes_nothing, choice-below}
use Rattle.layout.specs.Calls.{request_in, reply_in}
use Rattle.layout.specs.Counts.{ByQueue}
use Rattle.layout.specs.declared.Regs.{Regs}
use Rattle.layout.specs.declared.Outcome.{Outcome}
use Rattle.layout.specs.declared.Refusal.{Refusal}
use Rattle.layout.specs.Views.{Arrays, state_in}
use Rattle.layout.specs.Figures.{figures_in, Figures}
use Rattle.slot_in_place.specs.Says.{Ready, answer_in}
use Rattle.slot_in_place.proofs.Standing as standing
use Rattle.run_in_place.specs.Says.{advanced_to, OneSlotSays}
use Rattle.arbiter_choice.specs.Says.{choice_now}
use Rattle.arbiter_choice.proofs.Paper.{choice-is}
use Rattle.arbiter_in_place.specs.Says.{noted, ArbiterAdvanceSays}

-- The choice by the counts of a state that is ready is the model's.
pub chosen : {regs : Regs} {m : Arrays} {counts : ByQueue} {store : List ℕ} → Ready regs m counts store
    → (arrival : Option Byte)
    → choice_now (figures_in regs counts m.stored) regs.last_asked arrival ≡ choice (state_in regs m) arrival
chosen {regs} {m} r arrival =
    ap (λ (f : Figures). choice_now f regs.last_asked arrival) (standing.figures_are r)
    ∙ choice-is (state_in regs m) arrival (standing.kept r).last_below

-- What is noted after a slot that answered this number.
last_alike : (n : ℕ) (c : Option ℕ) (last : ℕ) → last_after 0 (taken n c) last ≡ last_after n c last
last_alike zero none last = refl
last_alike zero (some q) last = refl
last_alike (suc n) c last = refl

noted-refused : (n : ℕ) (c : Option ℕ) (regs : Regs) → (n ≡ 0 → ⊥) → noted (taken n c) regs ≡ regs
noted-refused zero c regs f = absurd (f refl)
noted-refused (suc n) c regs f = refl

-- A state that is ready is so with another queue noted.
ready_noted : {regs : Regs} {m : Arrays} {counts : ByQueue} {store : List ℕ} (asked : Option ℕ)
    → last_after 0 asked regs.last_asked < regs.queues → Ready regs m counts store
    → Ready (noted asked regs) m counts store
ready_noted {regs} {m} asked l r = record {
  long = r.long;
  kept = keeps-holds paper (state_in (noted asked regs) m)
      (keeps-noted paper (state_in regs m) (last_after 0 asked regs.last_asked) l
      (keeps-facts paper (state_in regs m) r.kept));
  tallies = record {
    tails_are = r.tallies.tails_are;
    heads_are = r.tallies.heads_are;
    owed_are = r.tallies.owed_are;
  };
  store_long = r.store_long;
}

module _ {regs : Regs} {m : Arrays} {counts : ByQueue} {store : List ℕ} (r : Ready regs m counts store)
    (arrival : Option Byte) where
  abbrev x : State
  x = state_in regs m

  abbrev call : Call
  call = arbiter_call x arrival

  module _ (regs₁ : Regs) (answered : Result Outcome Refusal) {m' : Arrays} {counts' : ByQueue} {store' : List ℕ}
      (one : OneSlotSays regs m store call (advanced_to regs₁ answered) m' counts' store') where
    abbrev n : ℕ
    n = (reply_in answered).number

    abbrev asked : Option ℕ
    asked = taken n (choice x arrival)

    answers : answer_in (advanced_to regs₁ answered) m' store' ≡ slot paper x store call
    answers = one.slot_is.answer-is

    last_is : regs₁.last_asked ≡ regs.last_asked
    last_is =
        ap (λ (a : Answer). a.state.last_asked) answers
        ∙ sym (ap (λ (a : Answer). a.state.last_asked) (own_notes_nothing paper x store call))

    same-queues : regs₁.queues ≡ regs.queues
    same-queues =
        ap (λ (a : Answer). a.state.sizes.Q) answers
        ∙ ap (λ (s : Sizes). s.Q) (slot_kept paper x store call (omega arith) (standing.kept r)).same-sizes

    noted-below : (o : Option ℕ) → ((q : ℕ) → o ≡ some q → q < regs.queues)
        → last_after 0 o regs₁.last_asked < regs₁.queues
    noted-below none f = (standing.kept one.slot_is.ready).last_below
    noted-below (some q) f = rw same-queues (f q refl)

    asked-below : (k : ℕ) (q : ℕ) → taken k (choice x arrival) ≡ some q → q < regs.queues
    asked-below zero q e = choice-below x arrival q (standing.kept r).last_below e
    asked-below (suc k) q e = absurd (none_not_some q e)

    -- All together: with the queue noted that was asked.
    pub composed : {regs' : Regs} (told : prelude.Option ℕ) → request_in told ≡ asked → regs' ≡ noted (request_in told) regs₁
        → ArbiterAdvanceSays regs m store arrival (record { reply = answered; asked = told }) regs' m' store'
        × Ready regs' m' counts' store'
    composed {regs'} told asks e = (
      record {
        answer-is =
            ap (λ (g : Regs). answer_in (advanced_to g answered) m' store') is
            ∙ ap (noting (last_after 0 asked regs₁.last_asked)) answers
            ∙ ap (λ (k : ℕ). noting k (slot paper x store call))
            (ap (last_after 0 asked) last_is
            ∙ last_alike n (choice x arrival) regs.last_asked
            ∙ ap (λ (a : Answer). last_after a.reply.number (choice x arrival) regs.last_asked) answers);
        asked_is = asks;
        as_given = λ f. let back = one.as_given f in
            (is ∙ noted-refused n (choice x arrival) regs₁ f ∙ back.0, back.1);
      },
      subst (λ (g : Regs). Ready g m' counts' store') (sym is)
          (ready_noted asked (noted-below asked (asked-below n)) one.slot_is.ready),
    )
      where
        is : regs' ≡ noted asked regs₁
        is = e ∙ ap (λ (o : Option ℕ). noted o regs₁) asks

-- A slot that was refused took nothing.
pub taken_not : {A : Type 0} (n : ℕ) (o : Option A) → (n ≡ 0 → ⊥) → none ≡ taken n o
taken_not zero o f = absurd (f refl)
taken_not (suc n) o f = refl
