-- Chains of slots, a caller's own and the arbiter's. Each is the slot of its call with some queue noted as the last one
-- asked, which is below Q where it was before: so what is shown of such a slot, whatever is noted, holds along every
-- chain (`links`), and what a chain leaves keeps the rules (`chain_keeps`). A list of calls is a chain, and so is what
-- goes on from one: `run-then`.
use mathlib.Core.Path.{◌≡◌, refl, sym, ◌∙◌, subst}
use mathlib.Core.List.{List, [], ◌∷◌, ◌++◌}
use mathlib.Core.Option.{Option, some, none}
use Prim.Native.Nat.{ℕ, zero, suc, ◌<◌, ◌≤◌}
use native.Mathlib.Omega.{arith}
use Rattle.model.specs.Sizes.{Design}
use Rattle.model.specs.State.{Byte, State}
use Rattle.model.specs.Slot.{Call, Answer, slot}
use Rattle.model.specs.Lists.{Step, step_of, run, last_state, last_store}
use Rattle.model.specs.Arbiter.{can_be_asked, queue_after, choice, arbiter_call, last_after, noting}
use Rattle.model.specs.Chains.{Chain, no_slot, own_slot, arbiters_slot}
use Rattle.model.proofs.basics.Rounds.{next_below, first_below}
use Rattle.model.proofs.one_slot.Rules.{Keeps, keeps-noted}
use Rattle.model.proofs.one_slot.Kept.{slot_kept}
use Rattle.model.proofs.one_slot.Accepted.{RefusedOrAccepted, was_refused, was_accepted, outcome}

-- "A caller's own request leaves it unchanged."
pub own_notes_nothing : (design : Design) (x : State) (store : List ℕ) (call : Call)
    → noting x.last_asked (slot design x store call) ≡ slot design x store call
own_notes_nothing design x store call = go (slot design x store call) (outcome design x store call)
  where
    go : (a : Answer) → RefusedOrAccepted design x store call a → noting x.last_asked a ≡ a
    go a (was_refused n e) = refl
    go a (was_accepted f) = refl

-- The arbiter's choice is one of the Q.
pub choice-below : (x : State) (arrival : Option Byte) (q : ℕ) → x.last_asked < x.sizes.Q
    → choice x arrival ≡ some q → q < x.sizes.Q
choice-below x arrival q l e =
    first_below x.sizes.Q (can_be_asked x arrival) x.sizes.Q (queue_after x.sizes.Q x.last_asked) q
    (next_below x.sizes.Q x.last_asked (omega (arith, l))) e

-- A slot of either kind, with what it notes.
pub data Links (design : Design) : State → List ℕ → List Step → State → Type 0 where
  no_link : {x : State} {store : List ℕ} → Links design x store [] x
  link : {x : State} {store : List ℕ} {steps : List Step} {last : State} (call : Call) (noted : ℕ)
      → (x.last_asked < x.sizes.Q → noted < x.sizes.Q)
      → Links design (noting noted (slot design x store call)).state (slot design x store call).store steps last
      → Links design x store (step_of x store call (noting noted (slot design x store call)) ∷ steps) last

pub noted-below : (x : State) (arrival : Option Byte) (n : ℕ) → x.last_asked < x.sizes.Q
    → last_after n (choice x arrival) x.last_asked < x.sizes.Q
noted-below x arrival (suc n) l = l
noted-below x arrival zero l = go (choice x arrival) refl
  where
    go : (c : Option ℕ) → choice x arrival ≡ c → last_after 0 c x.last_asked < x.sizes.Q
    go none e = l
    go (some q) e = choice-below x arrival q l e

pub links : (design : Design) {x : State} {store : List ℕ} {steps : List Step} {last : State}
    → Chain design x store steps last → Links design x store steps last
links design no_slot = no_link
links design (own_slot {x = x} {store = store} {a = a} {steps = steps} {last = last} call p c) =
    linked (p ∙ sym (own_notes_nothing design x store call)) (links design c)
  where
    linked : a ≡ noting x.last_asked (slot design x store call) → Links design a.state a.store steps last
        → Links design x store (step_of x store call a ∷ steps) last
    linked e l =
        subst (λ (b : Answer). Links design x store (step_of x store call b ∷ steps) last) (sym e)
        (link call x.last_asked (λ k. k) (subst (λ (b : Answer). Links design b.state b.store steps last) e l))
links design (arbiters_slot {x = x} {store = store} {a = a} {steps = steps} {last = last} arrival p c) =
    linked (links design c)
  where
    call : Call
    call = arbiter_call x arrival

    linked : Links design a.state a.store steps last → Links design x store (step_of x store call a ∷ steps) last
    linked l =
        subst (λ (b : Answer). Links design x store (step_of x store call b ∷ steps) last) (sym p)
        (link call _ (noted-below x arrival (slot design x store call).reply.number)
        (subst (λ (b : Answer). Links design b.state b.store steps last) p l))

-- A list of calls, and a chain from what it leaves, are a chain.
pub run-then : (design : Design) (x : State) (store : List ℕ) (calls : List Call) {steps : List Step} {last : State}
    → Chain design (last_state design x store calls) (last_store design x store calls) steps last
    → Chain design x store (run design x store calls ++ steps) last
run-then design x store [] c = c
run-then design x store (call ∷ calls) c = own_slot call refl
    (run-then design (slot design x store call).state (slot design x store call).store calls c)

pub run-chain : (design : Design) (x : State) (store : List ℕ) (calls : List Call)
    → Chain design x store (run design x store calls) (last_state design x store calls)
run-chain design x store [] = no_slot
run-chain design x store (call ∷ calls) = own_slot call refl
    (run-chain design (slot design x store call).state (slot design x store call).store calls)

-- From a state that keeps the rules, what a chain leaves keeps them.
pub chain_keeps : (design : Design) {x : State} {store : List ℕ} {steps : List Step} {last : State}
    → 1 ≤ design.cell_count x.sizes → Keeps design x → Links design x store steps last → Keeps design last
chain_keeps design h v no_link = v
chain_keeps design h v (link {x = x} {store = store} call noted below c) =
    let k = slot_kept design x store call h v in
    chain_keeps design (rw k.same-sizes h)
    (keeps-noted design (slot design x store call).state noted (rw k.same-sizes (below v.last_below)) k.kept)
    c
