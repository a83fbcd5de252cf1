-- A slot of the arbiter's on lent arrays, with its arrival read from a call's word and its answer told as numbers.
use mathlib.Core.Path.{◌≡◌, ap, ◌∙◌}
use mathlib.Core.List.{List}
use mathlib.Core.Option.{Option}
use Prim.Native.Nat.{ℕ}
use Rattle.model.specs.Sizes.{paper}
use Rattle.model.specs.State.{Byte, State}
use Rattle.model.specs.Slot as model
use Rattle.model.specs.Lists.{taken}
use Rattle.model.specs.Arbiter.{choice, arbiter_slot}
use Rattle.layout.specs.Calls.{request_in, reply_in}
use Rattle.layout.specs.declared.Regs.{Regs}
use Rattle.layout.specs.Views.{Arrays, state_in}
use Rattle.slot_in_place.specs.Says.{answer_in}
use Rattle.run_words.specs.Words.{near_byte}
use Rattle.run_words.proofs.Nearest.{SameArbiter, near_arbiter}
use Rattle.arbiter_in_place.specs.declared.Arbitrated.{Arbitrated}
use Rattle.arbiter_in_place.specs.Says.{advanced_by, ArbiterAdvanceSays}
use Rattle.gelwynnar.specs.declared.arbiter.ArbiterAnswer.{ArbiterAnswer}
use Rattle.gelwynnar.specs.Arbiter.{arbiter_told, asked_by, ArbiterLentSays}

pub lent-told : {regs : Regs} (m : Arrays) {store : List ℕ} {regs' : Regs} {m' : Arrays} {store' : List ℕ}
    {read : Option Byte} (arrival : Option Byte) {r : Arbitrated} {a : ArbiterAnswer} → read ≡ near_byte arrival
    → ArbiterAdvanceSays regs m store read r regs' m' store'
    → a ≡ arbiter_told (reply_in r.reply) (request_in r.asked)
    → ArbiterLentSays regs m store arrival a regs' m' store'
lent-told {regs} m {store} {regs'} {m'} {store'} {read} arrival {r} {a} near says tells = record {
  answer-is =
      tells
      ∙ ap (arbiter_told (reply_in r.reply)) says.asked_is
      ∙ ap (λ (b : model.Answer). arbiter_told b.reply (taken b.reply.number (choice x read))) says.answer-is
      ∙ ap (λ (y : Option Byte). arbiter_told (arbiter_slot paper x store y).reply (asked_by x store y)) near
      ∙ ap (λ (b : model.Answer). arbiter_told b.reply (asked_by x store (near_byte arrival))) same.same_slot
      ∙ ap (arbiter_told (arbiter_slot paper x store arrival).reply) same.same_asked;
  state_is = ap (λ (b : model.Answer). b.state) answer;
  store_is = ap (λ (b : model.Answer). b.store) answer;
  as_given = λ f. says.as_given (λ z. f (ap (λ (b : ArbiterAnswer). b.slot.number) tells ∙ z));
}
  where
    x : State
    x = state_in regs m

    same : SameArbiter (state_in regs m) store (near_byte arrival) arrival
    same = near_arbiter (state_in regs m) store arrival

    answer : answer_in (advanced_by regs' r) m' store' ≡ arbiter_slot paper (state_in regs m) store arrival
    answer =
        says.answer-is
        ∙ ap (arbiter_slot paper (state_in regs m) store) near
        ∙ (near_arbiter (state_in regs m) store arrival).same_slot
