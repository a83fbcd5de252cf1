-- A slot of a list that 4 and 6 do not stop and of which 5 and 7 drop nothing is accepted whole, and leaves state and
-- store as ready for the slots after it as it got them: on the states of a list from a fresh one 8, 9 and 10 never
-- come, and with a store that is long enough neither do 3 and 2.
use mathlib.Core.Path.{◌≡◌, refl, ap, sym, ◌∙◌, subst}
use mathlib.Core.Bool.{Bool, true, false}
use mathlib.Core.List.{List, ◌∷◌}
use mathlib.Core.Option.{Option}
use Prim.Native.Nat.{ℕ, ◌≤◌}
use native.Mathlib.Omega.{arith}
use lib.ListN.{length}
use borrow.Author.Tests.{le-ltb}
use Rattle.model.specs.Basics.{choose, some_of, when, first_refusal}
use Rattle.model.specs.Sizes.{Sizes, Limits, accepts, store_bytes, full}
use Rattle.model.specs.State.{Byte, State, fresh}
use Rattle.model.specs.Slot.{Call, oldest_cell, wrote, queue_to_read, arrival_unknown, arrival_full, request_unknown}
use Rattle.model.specs.Slot.{nothing_to_take, leaves_uncovered, head_full, request_drops, halves_taken, refusal, carried_out}
use Rattle.model.specs.Slot.{accept}
use Rattle.model.specs.Lists.{Step, joined_fill_of, read_fill_of, step_of, run}
use Rattle.model.proofs.basics.FirstRefusal.{last_refusal}
use Rattle.model.proofs.one_slot.Rules.{keeps-holds}
use Rattle.model.proofs.one_slot.Halves.{all_left, arrival-stays}
use Rattle.model.proofs.one_slot.Accepted.{Judged, early_refusals, judged_facts}
use Rattle.model.proofs.one_slot.Kept.{still_long}
use Rattle.model.proofs.no_miss.Invariant.{oldest_covered}
use Rattle.model.proofs.no_miss.Good.{Good, good_fresh, no_9, no_10, carried_good}

-- Some slot of the list passes the test.
abbrev pub Reaches : Limits → (Step → Bool) → State → List ℕ → List Call → Type 0
Reaches limits test x store calls = some_of test (run (full limits) x store calls) ≡ true

-- What keeps all refusals away but 4 to 7.
pub record Ready (limits : Limits) (s : Sizes) (x : State) (store : List ℕ) : Type 0 where
  pub good : Good limits x
  pub sizes-are : x.sizes ≡ s
  pub store_long : store_bytes x.sizes ≤ length store

pub ready_fresh : (limits : Limits) (s : Sizes) (store : List ℕ) → accepts limits s ≡ true → store_bytes s ≤ length store
    → Ready limits s (fresh (full limits) s) store
ready_fresh limits s store e long = record { good = good_fresh limits s e; sizes-are = refl; store_long = long }

-- State and store as an accepted slot leaves them of which no half is dropped, and the step that it is.
abbrev pub state_after : State → List ℕ → Call → State
state_after x store call = (carried_out 0 0 x store call).state

abbrev pub store_after : State → List ℕ → Call → List ℕ
store_after x store call = (carried_out 0 0 x store call).store

abbrev taken_step : State → List ℕ → ℕ → ℕ → Call → Step
taken_step x store i j call = record {
  reply = (carried_out i j x store call).reply;
  arrival = call.arrival;
  request = call.request;
  state = (carried_out i j x store call).state;
  store = (carried_out i j x store call).store;
  joined_fill = joined_fill_of 0 x call;
  read_fill = read_fill_of 0 x store call;
}

abbrev pub step_after : State → List ℕ → Call → Step
step_after x store call = taken_step x store 0 0 call

-- What 4 to 7 let through.
pub record Allowed (x : State) (call : Call) : Type 0 where
  pub not-4 : arrival_unknown x call.arrival ≡ false
  pub not_5 : arrival_full x call.arrival call.request ≡ false
  pub not-6 : request_unknown x call.request ≡ false
  pub not_7 : nothing_to_take x call.arrival call.request ≡ false

module _ (limits : Limits) (s : Sizes) (x : State) (store : List ℕ) (ready : Ready limits s x store) where
  pub not-8 : leaves_uncovered (oldest_cell x.cells) x ≡ false
  not-8 = oldest_covered x.phase x ready.good.kept.phase_ok ready.good.invariant

  module _ (call : Call) (allowed : Allowed x call) where
    early : first_refusal (early_refusals (full limits) x store call) ≡ 0
    early =
        rw (
          keeps-holds (full limits) x ready.good.kept,
          le-ltb (length store) (store_bytes x.sizes) ready.store_long,
          allowed.not-4,
          allowed.not_5,
          allowed.not-6,
          allowed.not_7,
          not-8,
          no_9 limits x store call ready.good call.arrival call.request,
        )

    -- Nothing is dropped.
    pub whole : halves_taken x call ≡ call
    whole = all_left x call allowed.not_5 allowed.not_7

    pub judged : Judged (full limits) x store call
    judged = subst (Judged (full limits) x store) whole (judged_facts (full limits) x store call early)

    pub no_refusal : refusal (full limits) x store call ≡ 0
    no_refusal =
        last_refusal (early_refusals (full limits) x store call) _ early
        ∙ ap (λ (c : Call). when (head_full (wrote x c) (queue_to_read (wrote x c))) 10) whole
        ∙ ap (λ (t : Bool). when t 10) (no_10 limits x store call ready.good judged)

    pub ready_after : Ready limits s (state_after x store call) (store_after x store call)
    ready_after = record {
      good = carried_good limits x store call ready.good judged;
      sizes-are = ready.sizes-are;
      store_long = still_long (full limits) x store call (omega arith) judged;
    }

    -- The slot passes the test, or leaves it to the slots after it.
    module _ (test : Step → Bool) (calls : List Call) where
      step_is : step_of x store call (accept x store call) ≡ step_after x store call
      step_is =
          ap (λ (t : Bool). taken_step x store (when t 5) (when (request_drops x call) 7) (halves_taken x call))
          allowed.not_5
          ∙ ap (λ (c : Call). taken_step x store 0 (when (request_drops x call) 7) c) whole
          ∙ ap (λ (a : Option Byte). taken_step x store 0 (when (nothing_to_take x a call.request) 7) call)
          (arrival-stays x call allowed.not_5)
          ∙ ap (λ (t : Bool). taken_step x store 0 (when t 7) call) allowed.not_7

      pub reaches_now : test (step_after x store call) ≡ true → Reaches limits test x store (call ∷ calls)
      reaches_now e =
          rw no_refusal
          (ap (λ (t : Bool). choose t true (some_of test
          (run (full limits) (accept x store call).state (accept x store call).store calls)))
          (ap test step_is ∙ e))

      pub reaches_later : Reaches limits test (state_after x store call) (store_after x store call) calls
          → Reaches limits test x store (call ∷ calls)
      reaches_later e =
          rw no_refusal
          (ap (choose (test (step_of x store call (accept x store call))) true)
          (subst (λ (c : Call). Reaches limits test (state_after x store c) (store_after x store c) calls) (sym whole) e)
          ∙ always (test (step_of x store call (accept x store call))))
        where
          always : (t : Bool) → choose t true true ≡ true
          always true = refl
          always false = refl
