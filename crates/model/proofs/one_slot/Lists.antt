-- A list of slots: in two parts, the second goes on from what the first left; it has a step for each call, and
-- accepts at most as many; from a state that keeps the rules all its states do. `run-append`, `last_append`,
-- `run_length`, `accepted-few` and `list_keeps` say it.
use mathlib.Core.Path.{◌≡◌, refl, ap}
use mathlib.Core.List.{List, [], ◌∷◌, ◌++◌}
use Prim.Native.Nat.{ℕ, suc, ◌≤◌}
use native.Mathlib.Omega.{arith}
use lib.Dec.{eqb}
use lib.ListN.{length}
use Rattle.model.specs.Basics.{All}
use Rattle.model.specs.Sizes.{Design}
use Rattle.model.specs.State.{State}
use Rattle.model.specs.Slot.{Call, slot}
use Rattle.model.specs.Lists.{Step, step_of, run, last_state, last_store, accepted}
use Rattle.model.proofs.basics.Tests.{by_test}
use Rattle.model.proofs.one_slot.Rules.{Keeps}
use Rattle.model.proofs.one_slot.Kept.{slot_kept}

-- In two parts.
pub last_append : (design : Design) (x : State) (store : List ℕ) (calls more : List Call)
    → last_state design x store (calls ++ more)
    ≡ last_state design (last_state design x store calls) (last_store design x store calls) more
last_append design x store [] more = refl
last_append design x store (call ∷ calls) more =
    last_append design (slot design x store call).state (slot design x store call).store calls more

pub last_store_append : (design : Design) (x : State) (store : List ℕ) (calls more : List Call)
    → last_store design x store (calls ++ more)
    ≡ last_store design (last_state design x store calls) (last_store design x store calls) more
last_store_append design x store [] more = refl
last_store_append design x store (call ∷ calls) more =
    last_store_append design (slot design x store call).state (slot design x store call).store calls more

pub run-append : (design : Design) (x : State) (store : List ℕ) (calls more : List Call)
    → run design x store (calls ++ more)
    ≡ run design x store calls ++ run design (last_state design x store calls) (last_store design x store calls) more
run-append design x store [] more = refl
run-append design x store (call ∷ calls) more =
    ap (λ (steps : List Step). step_of x store call (slot design x store call) ∷ steps)
    (run-append design (slot design x store call).state (slot design x store call).store calls more)

-- How many.
pub run_length : (design : Design) (x : State) (store : List ℕ) (calls : List Call)
    → length (run design x store calls) ≡ length calls
run_length design x store [] = refl
run_length design x store (call ∷ calls) =
    ap suc (run_length design (slot design x store call).state (slot design x store call).store calls)

pub accepted-few : (steps : List Step) → length (accepted steps) ≤ length steps
accepted-few [] = omega arith
accepted-few (step ∷ steps) =
    by_test (eqb step.reply.number 0)
    (λ t. rw t (omega (arith, accepted-few steps)))
    (λ t. rw t (omega (arith, accepted-few steps)))

-- The rules.
pub list_keeps : (design : Design) (x : State) (store : List ℕ) (calls : List Call)
    → 1 ≤ design.cell_count x.sizes → Keeps design x
    → All (λ (step : Step). Keeps design step.state) (run design x store calls)
list_keeps design x store [] h v = tt
list_keeps design x store (call ∷ calls) h v =
    let k = slot_kept design x store call h v in (
      k.kept,
      list_keeps design (slot design x store call).state (slot design x store call).store calls
          (rw k.same-sizes h) k.kept,
    )
