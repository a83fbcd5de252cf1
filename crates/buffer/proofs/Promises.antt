-- A slot by value keeps the slot's promise: what it answers is the model's own slot, and on a refusal the very record
-- comes back.
use mathlib.Core.Path.{◌≡◌, refl, ap, sym, ◌∙◌, subst}
use mathlib.Core.Bool.{true}
use mathlib.Core.List.{List}
use Prim.Native.Nat.{ℕ, ◌≤◌}
use native.Mathlib.Omega.{arith}
use lib.Dec.{ltb}
use lib.ListN.{length, replicate, length-replicate}
use borrow.Author.Tests.{ltb-true, ltb-false}
use Rattle.std.specs.Prelude.{Result, Ok, Err}
use Rattle.model.specs.Sizes.{paper, store_bytes}
use Rattle.model.specs.State.{State, keeps}
use Rattle.model.specs.Slot as model
use Rattle.model.specs.Slot.{Call, Answer, wrote_store, halves_taken, refusal, carried_out, accept, refuse}
use Rattle.model.specs.Slot.{answer, slot}
use Rattle.model.proofs.basics.Tests.{by_test}
use Rattle.model.proofs.one_slot.Rules.{keeps-facts, keeps-holds}
use Rattle.model.proofs.one_slot.Accepted.{RefusedOrAccepted, was_refused, was_accepted, outcome, refusal-told}
use Rattle.model.proofs.one_slot.Kept.{Kept, slot_kept}
use Rattle.model.proofs.one_slot.Calls.{answer-is}
use Rattle.layout.specs.Calls.{call_in, reply_in, number_of, number_in}
use Rattle.layout.specs.declared.Refusal.{Refusal}
use Rattle.layout.proofs.Refusals.{refusal_is_some}
use Rattle.slot_plan.specs.declared.Plan.{Plan}
use Rattle.slot_checked.specs.Says.{PlanCheckedSays}
use Rattle.slot_checked.proofs.Judging.{three, two}
use Rattle.buffer.specs.declared.State as code
use Rattle.buffer.specs.declared.Judged.{Judged}
use Rattle.buffer.specs.declared.Slotted.{Slotted}
use Rattle.buffer.specs.Says.{state_of, arrival_number_judged, request_number_judged, JudgeSays, answer_of, SlotSays, StepSays}

-- What is judged of a slot, by its plan: the slot's number tells of 3 and 2 whether they are ruled out.
module _ {x : State} {bytes : ℕ} {call : Call} where
  number_rules_out : {r : Result Plan Refusal} → PlanCheckedSays x bytes call r
      → (number_in r ≡ 3 → ⊥) → (number_in r ≡ 2 → ⊥) → (keeps paper x ≡ true) × (store_bytes x.sizes ≤ bytes)
  number_rules_out {r} says not-3 not-2 =
      by_test (keeps paper x)
      (λ t. by_test (ltb bytes (store_bytes x.sizes))
      (λ u. absurd (not-2 (number ∙ ap (λ (a : Answer). a.reply.number)
      (two x store call t (omega (arith, long, ltb-true bytes (store_bytes x.sizes) u))))))
      (λ u. (t, ltb-false bytes (store_bytes x.sizes) u)))
      (λ t. absurd (not-3 (number ∙ ap (λ (a : Answer). a.reply.number) (three x store call t))))
    where
      store : List ℕ
      store = replicate bytes 0

      long : length store ≡ bytes
      long = length-replicate bytes 0

      number : number_in r ≡ (slot paper x store call).reply.number
      number = says.number_is store long

  pub judged_stopped : {refusal : Refusal} → PlanCheckedSays x bytes call (Err refusal)
      → JudgeSays x bytes call (Err refusal)
  judged_stopped says = record {
    number_is = says.number_is;
    judged_is = says.plan_is;
    can_step = number_rules_out says;
  }

  pub judged_going_on : {p : Plan} → PlanCheckedSays x bytes call (Ok p)
      → JudgeSays x bytes call (Ok (record {
        arrival_dropped = p.arrival_dropped;
        request_dropped = p.request_dropped;
        call = p.call;
      }))
  judged_going_on says = record {
    number_is = says.number_is;
    judged_is = record {
      arrival-number_is = λ store l. ap (λ (a : Answer). a.reply.arrival_number) (says.plan_is.carries store l);
      request-number_is = λ store l. ap (λ (a : Answer). a.reply.request_number) (says.plan_is.carries store l);
      left_is = says.plan_is.left_is;
    };
    can_step = number_rules_out says;
  }

pub judged_clear : {x : State} (store : List ℕ) {call : Call} {j : Judged} → JudgeSays x (length store) call (Ok j)
    → refusal paper x store call ≡ 0
judged_clear {x} store {call} says = sym (refusal-told paper x store call) ∙ sym (says.number_is store refl)

-- The slot is what is carried out of what is left of its call.
pub judged_carries : {x : State} (store : List ℕ) (call : Call) {j : Judged} → JudgeSays x (length store) call (Ok j)
    → carried_out (arrival_number_judged j) (request_number_judged j) x store (call_in j.call)
    ≡ slot paper x store call
judged_carries {x} store call {j} says =
    ap (carried_out (arrival_number_judged j) (request_number_judged j) x store) says.judged_is.left_is
    ∙ ap (λ (n : ℕ). carried_out n (request_number_judged j) x store (halves_taken x call))
    (says.judged_is.arrival-number_is store refl ∙ ap (λ (a : Answer). a.reply.arrival_number) is_accepted)
    ∙ ap (λ (n : ℕ). carried_out (accept x store call).reply.arrival_number n x store (halves_taken x call))
    (says.judged_is.request-number_is store refl ∙ ap (λ (a : Answer). a.reply.request_number) is_accepted)
    ∙ sym is_accepted
  where
    is_accepted : slot paper x store call ≡ accept x store call
    is_accepted = ap (λ (n : ℕ). answer n x store call) (judged_clear store says)

-- A slot that is refused before anything moves.
refused-slot : (x : State) (store : List ℕ) (call : Call) {n : ℕ} → n ≡ (slot paper x store call).reply.number
    → (n ≡ 0 → ⊥) → refuse n x store ≡ slot paper x store call
refused-slot x store call {n} e f = go (slot paper x store call) (outcome paper x store call) e
  where
    go : (a : Answer) → RefusedOrAccepted paper x store call a → n ≡ a.reply.number → refuse n x store ≡ a
    go a (was_refused m e) z = ap (λ (k : ℕ). refuse k x store) z
    go a (was_accepted e) z = absurd (f z)

pub refused_says : (s : code.State) (store : List ℕ) (call : Call) {refusal : Refusal}
    → number_of refusal ≡ (slot paper (state_of s) store call).reply.number
    → SlotSays s store call (record { state = s; reply = Err refusal }) store
refused_says s store call {refusal} e = record {
  promised = refused-slot (state_of s) store call e (refusal_is_some refusal);
  as_given = λ g. refl;
}

-- A slot that is what is carried out of these halves.
pub carried_says : (s : code.State) (store : List ℕ) (call taken : Call) (i j : ℕ) {r : Slotted} {store' : List ℕ}
    → carried_out i j (state_of s) store taken ≡ slot paper (state_of s) store call
    → reply_in r.reply ≡ (carried_out i j (state_of s) store taken).reply
    → state_of r.state ≡ (carried_out i j (state_of s) store taken).state → store' ≡ wrote_store (state_of s) store taken
    → SlotSays s store call r store'
carried_says s store call taken i j {r} {store'} carries reply_is state_is Store-is =
    record {
      promised =
          answer-is (carried_out i j (state_of s) store taken) (answer_of r store') reply_is state_is Store-is ∙ carries;
      as_given = λ f. absurd (f (ap (λ (t : model.Reply). t.number) reply_is));
    }

-- What a slot leaves of a state that keeps the rules can be stepped again.
pub step_says : {s : code.State} {store : List ℕ} {call : Call} {r : Slotted} {store' : List ℕ}
    → SlotSays s store call r store' → keeps paper (state_of s) ≡ true → StepSays s store call r store'
step_says {s} {store} {call} {r} {store'} v kept = record {
  says = v;
  kept = keeps-holds paper (state_of r.state) left.kept;
  same-sizes = left.same-sizes;
  same_length = left.same_length;
}
  where
    left : Kept paper (state_of s) store (answer_of r store')
    left =
        subst (Kept paper (state_of s) store) (sym v.promised)
        (slot_kept paper (state_of s) store call (omega arith) (keeps-facts paper (state_of s) kept))
