-- Demand 3 over calls of every kind, and the high marks that they leave: a slot, a step, a run, a stretch of idle slots
-- or a slot of the arbiter's that meets its contract is the model's own, so that the slots of a chain are a chain of
-- the model, of which the model has shown both. `mixed_calls_meet` says it.
use mathlib.Core.Path.{◌≡◌, sym, subst}
use mathlib.Core.Bool.{true}
use mathlib.Core.List.{List, ◌++◌}
use Prim.Native.Nat.{ℕ}
use Rattle.model.specs.Sizes.{sizes, paper_limits, accepts, paper}
use Rattle.model.specs.State.{State, fresh}
use Rattle.model.specs.Slot.{Call}
use Rattle.model.specs.Calls.{idles}
use Rattle.model.specs.Lists.{Step, run, last_state, last_store, accepted}
use Rattle.model.specs.Chains.{Chain, no_slot, own_slot, arbiters_slot}
use Rattle.model.specs.Demand.{ListMeets}
use Rattle.model.proofs.one_slot.Rules.{made_accepted}
use Rattle.model.proofs.one_slot.Chains.{run-then}
use Rattle.model.proofs.delay.Sentences.{sentences}
use Rattle.model.proofs.Demand.{every_chain}
use Rattle.model.proofs.HighMarks.{marks_exact}
use Rattle.run_checked.specs.Says.{calls_run}
use Rattle.buffer.specs.declared.State as code
use Rattle.buffer.specs.Says.{state_of}
use Rattle.buffer_runs.specs.Demand.{MixedCalls, no_call, by_slot, by_step, by_run, by_idle, by_arbiter}
use Rattle.buffer_runs.specs.Demand.{MixedCallsMeet}

-- Many slots in one call, and what follows them on what they leave.
many_first : (x : State) (store : List ℕ) (calls : List Call) {z : State} {store' : List ℕ} {steps : List Step}
    {y : State} → z ≡ last_state paper x store calls → store' ≡ last_store paper x store calls
    → Chain paper z store' steps y → Chain paper x store (run paper x store calls ++ steps) y
many_first x store calls {z} {store'} {steps} {y} state_is store_is rest =
    run-then paper x store calls
    (subst (λ (w : State). Chain paper w (last_store paper x store calls) steps y) state_is
    (subst (λ (bytes : List ℕ). Chain paper z bytes steps y) store_is rest))

is_chain : {s : code.State} {store : List ℕ} {steps : List Step} {last : code.State} → MixedCalls s store steps last
    → Chain paper (state_of s) store steps (state_of last)
is_chain no_call = no_slot
is_chain (by_slot {call = call} says rest) = own_slot call says.promised (is_chain rest)
is_chain (by_step {call = call} says rest) = own_slot call says.says.promised (is_chain rest)
is_chain (by_run {s = s} {store = store} {calls = calls} {answers = answers} says rest) =
    many_first (state_of s) store (calls_run calls answers) says.state_is says.store_is (is_chain rest)
is_chain (by_idle {s = s} {store = store} {r = r} says rest) =
    many_first (state_of s) store (idles r.passed) says.state_is says.store_is (is_chain rest)
is_chain (by_arbiter {arrival = arrival} says rest) = arbiters_slot arrival says.promised (is_chain rest)

pub mixed_calls_meet : MixedCallsMeet
mixed_calls_meet q b k first store steps last m c = (
  meets,
  sentences (sizes q b k) (accepted steps) meets.bytes,
  (marks_exact paper).every_chain (sizes q b k) store steps (state_of last) chain,
)
  where
    ok : accepts paper_limits (sizes q b k) ≡ true
    ok = made_accepted paper (sizes q b k) (sym m.number_is)

    chain : Chain paper (fresh paper (sizes q b k)) store steps (state_of last)
    chain = subst (λ (x : State). Chain paper x store steps (state_of last)) m.made_is.fresh-is (is_chain c)

    meets : ListMeets (sizes q b k) store steps
    meets = every_chain paper_limits (sizes q b k) store steps (state_of last) ok chain
