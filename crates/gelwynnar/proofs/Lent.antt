-- Slots whose registers are read from an array and put back there, and whose answers are told as numbers.
use mathlib.Core.Path.{◌≡◌, refl, ap, sym, ◌∙◌, subst}
use mathlib.Core.List.{List}
use Prim.Native.Nat.{ℕ}
use lib.ListN.{length}
use Rattle.model.specs.Sizes.{paper}
use Rattle.model.specs.Slot as model
use Rattle.model.specs.Slot.{Call, number_alone, refuse, slot}
use Rattle.model.proofs.one_slot.Accepted.{RefusedOrAccepted, was_refused, was_accepted, outcome}
use Rattle.layout.specs.Counts.{ByQueue}
use Rattle.std.specs.Prelude.{Result, Ok, Err}
use Rattle.layout.specs.Calls.{call_in, reply_in, number_of}
use Rattle.layout.specs.declared.Call as code
use Rattle.layout.specs.declared.Outcome.{Outcome}
use Rattle.layout.specs.declared.Refusal.{Refusal}
use Rattle.layout.specs.declared.Regs.{Regs}
use Rattle.layout.proofs.Refusals.{refusal_is_some}
use Rattle.layout.specs.Views.{Arrays, Long, state_in}
use Rattle.slot_plan.specs.declared.Plan.{Plan}
use Rattle.slot_plan.specs.Says.{arrival_number_of, request_number_of}
use Rattle.slot_in_place.specs.Says.{Ready, answer_in}
use Rattle.slot_checked.specs.Says.{JudgeStateSays, CountsSay, judged_number, LeaveSays, PlanCheckedSays}
use Rattle.slot_checked.proofs.Judging.{judged_state}
use Rattle.slot_checked.proofs.Clearing.{ready_counted, leaves_refused, leaves_ready, judged_lent}
use Rattle.run_words.specs.Words.{near_call}
use Rattle.run_words.proofs.Nearest.{near_slot}
use Rattle.run_in_place.specs.Says.{advanced_to, OneSlotSays}
use Rattle.run_checked.specs.Says.{IdleCheckedSays}
use Rattle.idle_in_place.specs.declared.Passed.{Passed}
use Rattle.gelwynnar.specs.declared.slots.Answer.{Answer}
use Rattle.gelwynnar.specs.Slots.{dropped_told, told}
use Rattle.gelwynnar.specs.Slots.{SlotLentSays, JudgeLentSays, IdleLentSays}

-- A run of one call, told: `regs` is what the array of registers held, `regs'` what it holds then.
pub stepped : {regs : Regs} (regs' : Regs) (m m' : Arrays) {store store' : List ℕ} {call : Call} (r : Result Outcome Refusal)
    {counts' : ByQueue} {a : Answer} → OneSlotSays regs m store call (advanced_to regs' r) m' counts' store'
    → a ≡ told (reply_in r)
    → SlotLentSays regs m store call a regs' m' store' × Ready regs' m' counts' store'
stepped {regs} regs' m m' {store} {store'} {call} r {counts'} {a} one tells = (
  record {
    answer-is = tells ∙ ap (λ (b : model.Answer). told b.reply) answer;
    state_is = ap (λ (b : model.Answer). b.state) answer;
    store_is = ap (λ (b : model.Answer). b.store) answer;
    as_given = λ f. one.as_given (λ z. f (ap (λ (b : Answer). b.number) tells ∙ z));
  },
  one.slot_is.ready,
)
  where
    answer : answer_in (advanced_to regs' r) m' store' ≡ slot paper (state_in regs m) store call
    answer = one.slot_is.answer-is

-- A stretch of idle slots, told: its registers by value are what an array held, and are put there again.
module _ {regs regs' : Regs} (m m' : Arrays) {store store' : List ℕ} {before : Regs} (read-in : before ≡ regs) where
  pub idled : {n : ℕ} {counts counts' : ByQueue} {r : Passed} {a : Answer}
      → IdleCheckedSays (state_in before m) store n r (state_in r.regs m') store'
      × LeaveSays before m counts store r.regs m' counts' store'
      → regs' ≡ r.regs
      → a ≡ told (reply_in r.reply)
      → IdleLentSays (state_in regs m) store n (record { passed = r.passed; last = a }) (state_in regs' m') store'
      × LeaveSays regs m counts store regs' m' counts' store'
  idled {n} {counts} {counts'} {r} {a} says put tells = (
    record {
      passed_is = idle.stretch.passed_is;
      quiet_first = idle.stretch.quiet_first;
      last_is = tells ∙ ap told idle.stretch.last_is;
      state_is = idle.state_is;
      store_is = idle.store_is;
    },
    there.1,
  )
    where
      Says : Regs → Regs → Type 0
      Says k k' =
          IdleCheckedSays (state_in k m) store n r (state_in k' m') store'
          × LeaveSays k m counts store k' m' counts' store'

      there : Says regs regs'
      there =
          subst (λ (k : Regs). Says regs k) (sym put) (subst (λ (k : Regs). Says k r.regs) read-in says)

      idle : IdleCheckedSays (state_in regs m) store n r (state_in regs' m') store'
      idle = there.0

-- A slot of a state of which 3 and 2 are judged: refused, or a step.
module _ {regs : Regs} (m : Arrays) (store : List ℕ) {before : Regs} (read-in : before ≡ regs) {n : ℕ}
    {counts counts' : ByQueue} (says : (n ≡ judged_number before m store)
    × CountsSay (state_in before m) (state_in before m) counts counts') where
  here : (n ≡ judged_number regs m store) × CountsSay (state_in regs m) (state_in regs m) counts counts'
  here = judged_lent read-in m store says

  judged : JudgeStateSays (state_in regs m) (length store) n
  judged = judged_state (state_in regs m) (length store) here.0

  pub slot-refused : {call : Call} {a : Answer} (refusal : Refusal) → n ≡ number_of refusal
      → a ≡ told (reply_in (Err refusal))
      → SlotLentSays regs m store call a regs m store × LeaveSays regs m counts store regs m counts' store
  slot-refused {call} {a} refusal e tells = (
    record {
      answer-is =
          tells
          ∙ ap (λ (k : ℕ). told (number_alone k)) (sym e)
          ∙ ap (λ (b : model.Answer). told b.reply) (sym refused);
      state_is = ap (λ (b : model.Answer). b.state) (sym refused);
      store_is = ap (λ (b : model.Answer). b.store) (sym refused);
      as_given = λ _. (refl, refl);
    },
    leaves_refused regs m store here.0 here.1 f,
  )
    where
      f : n ≡ 0 → ⊥
      f z = refusal_is_some refusal (sym e ∙ z)

      refused : slot paper (state_in regs m) store call ≡ refuse n (state_in regs m) store
      refused = judged.refused f store call refl

  pub step_ready : n ≡ 0 → Long m → Ready regs m counts' store
  step_ready z long = ready_counted regs m store judged z here.1 long

  pub slot-stepped : n ≡ 0 → {call : Call} {a : Answer} {regs' : Regs} {m' : Arrays} {counts'' : ByQueue}
      {store' : List ℕ}
      → SlotLentSays regs m store call a regs' m' store' × Ready regs' m' counts'' store'
      → SlotLentSays regs m store call a regs' m' store' × LeaveSays regs m counts store regs' m' counts'' store'
  slot-stepped z says = (says.0, leaves_ready regs m store here.0 z says.1)

-- What is judged of a slot, by what is decided of it.
module _ {regs : Regs} (m : Arrays) {before : Regs} (read-in : before ≡ regs) (call : Call) (read : code.Call)
    (near : call_in read ≡ near_call call) where
  -- The slot of the call's halves as the code reads them is the slot of the call.
  is_slot : (store : List ℕ)
      → slot paper (state_in before m) store (call_in read) ≡ slot paper (state_in regs m) store call
  is_slot store =
      ap (slot paper (state_in before m) store) near
      ∙ near_slot (state_in before m) store call
      ∙ ap (λ (k : Regs). slot paper (state_in k m) store call) read-in

  pub judged_stopped : {bytes : ℕ} {refusal : Refusal} → PlanCheckedSays (state_in before m) bytes (call_in read) (Err refusal)
      → JudgeLentSays (state_in regs m) bytes call (record { number = number_of refusal; dropped = 0 })
  judged_stopped {bytes} {refusal} says = record {
    number_is = numbered;
    dropped_is = λ store l. stops (slot paper (state_in regs m) store call) (outcome paper (state_in regs m) store call)
        (λ z. refusal_is_some refusal (numbered store l ∙ z));
  }
    where
      numbered : (store : List ℕ) → length store ≡ bytes
          → number_of refusal ≡ (slot paper (state_in regs m) store call).reply.number
      numbered store l = says.number_is store l ∙ ap (λ (a : model.Answer). a.reply.number) (is_slot store)

      stops : {store : List ℕ} (a : model.Answer) → RefusedOrAccepted paper (state_in regs m) store call a
          → (a.reply.number ≡ 0 → ⊥) → 0 ≡ dropped_told a.reply.arrival_number a.reply.request_number
      stops a (was_refused k e) f = refl
      stops a (was_accepted e) f = absurd (f refl)

  pub judged_going_on : {bytes : ℕ} {p : Plan} → PlanCheckedSays (state_in before m) bytes (call_in read) (Ok p) → {dropped : ℕ}
      → dropped ≡ dropped_told (arrival_number_of p) (request_number_of p)
      → JudgeLentSays (state_in regs m) bytes call (record { number = 0; dropped = dropped })
  judged_going_on says e = record {
    number_is = λ store l. says.number_is store l ∙ ap (λ (a : model.Answer). a.reply.number) (is_slot store);
    dropped_is = λ store l.
        e ∙ ap (λ (a : model.Answer). dropped_told a.reply.arrival_number a.reply.request_number)
        (says.plan_is.carries store l ∙ is_slot store);
  }
