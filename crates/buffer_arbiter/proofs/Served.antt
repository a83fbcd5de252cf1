-- How long a queue waits for the arbiter, over calls: their slots are the model's list of the arbiter's slots, of which
-- the model has shown both bounds. `calls_served` says it.
use mathlib.Core.Path.{◌≡◌, refl, ap, sym, ◌∙◌, subst}
use mathlib.Core.List.{List, ◌∷◌}
use mathlib.Core.Option.{Option}
use Prim.Native.Nat.{ℕ}
use Rattle.model.specs.Sizes.{paper, paper_limits}
use Rattle.model.specs.State.{Byte}
use Rattle.model.specs.Slot.{Answer}
use Rattle.model.specs.Lists.{Step, step_of, accepted}
use Rattle.model.specs.Arbiter.{arbiter_call}
use Rattle.model.specs.Fairness.{arbiter_run, Front, ServedSoon}
use Rattle.model.proofs.arbiter.Fair.{fair}
use Rattle.buffer.specs.declared.State as code
use Rattle.buffer.specs.Says.{state_of}
use Rattle.buffer_arbiter.specs.Says.{arbiter_answer_of}
use Rattle.buffer_arbiter.specs.Served.{ArbiterCalls, no_call, next_call, CallsServed}

is_run : {s : code.State} {store : List ℕ} {arrivals : List (Option Byte)} {steps : List Step}
    → ArbiterCalls s store arrivals steps → steps ≡ arbiter_run paper (state_of s) store arrivals
is_run no_call = refl
is_run (next_call {s = s} {store = store} {arrival = arrival} {a = a} {store' = store'} {arrivals = arrivals}
    says rest) =
    ap (λ (l : List Step). step_of (state_of s) store (arbiter_call (state_of s) arrival) (arbiter_answer_of a store') ∷ l)
    (is_run rest)
    ∙ ap (λ (b : Answer).
    step_of (state_of s) store (arbiter_call (state_of s) arrival) b ∷ arbiter_run paper b.state b.store arrivals)
    says.promised

pub calls_served : CallsServed
calls_served s store arrivals steps q v kept c f =
    subst (λ (l : List Step). ServedSoon (state_of s).sizes (accepted l) q v) (sym (is_run c))
    ((fair paper_limits).served (state_of s) store arrivals q v kept
    (subst (λ (l : List Step). Front (state_of s) store (accepted l) q v) (is_run c) f))
