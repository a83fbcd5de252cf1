-- Document 02, 2.2, as statements: what the arbiter asks, and how long a queue waits for it.
use Rattle.std.specs.Prelude.{◌≡◌, true, false, List, [], ◌∷◌, ◌++◌, ℕ, ◌+◌, ◌%◌, ◌<◌, ◌≤◌, length, get_or}
use Rattle.std.proofs.Math.Option.{Option, some, none}
use Rattle.std.proofs.Math.ListN.{get_elem?}
use Rattle.model.specs.Sizes.{Sizes, Limits, Design, accepts, lookahead, store_bytes, full}
use Rattle.model.specs.State.{Byte, byte, State, fresh, keeps}
use Rattle.model.specs.Slot.{Call, oldest_cell, after_delivery, is_full, leaves_uncovered, slot}
use Rattle.model.specs.Lists.{Step, step_of, accepted, deliveries, request_at}
use Rattle.model.specs.Arbiter.{unrequested, can_be_asked, choice, arbiter_call, noting, arbiter_slot}
use Rattle.model.specs.Chains.{Chain}
use Rattle.model.specs.Ideal.{waiting_with, stands_for}
use Rattle.model.specs.Demand.{ListMeets}

-- "The next queue, counting up from the last one asked and wrapping, that has an unrequested byte": q is so many places
-- after the queue that follows the last one asked, none between has an unrequested byte, and q has one.
pub record NextAsked (x : State) (arrival : Option Byte) (q : ℕ) : Type 0 where
  pub places : ℕ
  pub in_a_round : places < x.sizes.Q
  pub is_there : q ≡ (x.last_asked + 1 + places) % x.sizes.Q
  pub has_a_byte : can_be_asked x arrival q ≡ true
  pub none_between :
      (d : ℕ) → d < places → can_be_asked x arrival ((x.last_asked + 1 + d) % x.sizes.Q) ≡ false

-- What an arbiter's slot does, in any design.
pub record ArbiterSays (design : Design) : Type 0 where
  pub asks-the_next :
      (x : State) (arrival : Option Byte) (q : ℕ) → keeps design x ≡ true
      → choice x arrival ≡ some q → NextAsked x arrival q
  -- "If none has, the slot has no request": and only then.
  pub no_request :
      (x : State) (arrival : Option Byte) → ((q : ℕ) → q < x.sizes.Q → can_be_asked x arrival q ≡ false)
      → choice x arrival ≡ none
  pub only_then :
      (x : State) (arrival : Option Byte) (q : ℕ)
      → choice x arrival ≡ none → q < x.sizes.Q → can_be_asked x arrival q ≡ false
  -- The unrequested bytes are those that wait in the ideal buffer.
  pub unrequested-is_waiting :
      (x : State) (store : List ℕ) (q : ℕ) → keeps design x ≡ true → store_bytes x.sizes ≤ length store
      → q < x.sizes.Q
      → unrequested x q ≡ length ((stands_for x store).waiting q)
  -- "After the arrival of the slot", and so after the delivery too, which changes nothing of it.
  pub delivery-leaves_it :
      (x : State) (q : ℕ) → leaves_uncovered (oldest_cell x.cells) x ≡ false
      → unrequested (after_delivery x) q ≡ unrequested x q
  -- "An arrival to a full queue does not count in the choice"; to any other it does.
  pub full-not_counted :
      (x : State) (y : Byte) → is_full x y.queue ≡ true → choice x (some y) ≡ choice x none
  pub arrival-counted :
      (x : State) (y : Byte) → is_full x y.queue ≡ false → can_be_asked x (some y) y.queue ≡ true
  -- A queue that is chosen can be asked: 7 never comes, and neither does 6.
  pub never_7 :
      (x : State) (store : List ℕ) (arrival : Option Byte)
      → (arbiter_slot design x store arrival).reply.request_number ≡ 0
  pub never_6 :
      (x : State) (store : List ℕ) (arrival : Option Byte) → (arbiter_slot design x store arrival).reply.number ≡ 6 → ⊥
  -- "The last one asked": it moves where the arbiter asked and the slot is accepted. "A refused slot or a caller's own
  -- request leaves it unchanged", and so does a slot without a request.
  pub asked-is_noted :
      (x : State) (store : List ℕ) (arrival : Option Byte) (q : ℕ)
      → (arbiter_slot design x store arrival).reply.number ≡ 0 → choice x arrival ≡ some q
      → (arbiter_slot design x store arrival).state.last_asked ≡ q
  pub none_leaves_it :
      (x : State) (store : List ℕ) (arrival : Option Byte) → choice x arrival ≡ none
      → (arbiter_slot design x store arrival).state.last_asked ≡ x.last_asked
  pub refused-leaves_it :
      (x : State) (store : List ℕ) (arrival : Option Byte) → ((arbiter_slot design x store arrival).reply.number ≡ 0 → ⊥)
      → (arbiter_slot design x store arrival).state ≡ x
  pub own_leaves_it :
      (x : State) (store : List ℕ) (call : Call) → (slot design x store call).state.last_asked ≡ x.last_asked
  -- All else is the slot of that call.
  pub else_the_slot :
      (x : State) (store : List ℕ) (arrival : Option Byte)
      → noting x.last_asked (arbiter_slot design x store arrival) ≡ slot design x store (arbiter_call x arrival)

-- "Over any arrivals, the arbiter choosing in every slot": a list of slots, each with an arrival or none; the state and
-- the store that it leaves.
abbrev pub arbiter_run : Design → State → List ℕ → List (Option Byte) → List Step
arbiter_run design x store [] = []
arbiter_run design x store (arrival ∷ arrivals) =
    let a = arbiter_slot design x store arrival in
    step_of x store (arbiter_call x arrival) a ∷ arbiter_run design a.state a.store arrivals

abbrev pub arbiter_state : Design → State → List ℕ → List (Option Byte) → State
arbiter_state design x store [] = x
arbiter_state design x store (arrival ∷ arrivals) =
    let a = arbiter_slot design x store arrival in arbiter_state design a.state a.store arrivals

abbrev pub arbiter_store : Design → State → List ℕ → List (Option Byte) → List ℕ
arbiter_store design x store [] = store
arbiter_store design x store (arrival ∷ arrivals) =
    let a = arbiter_slot design x store arrival in arbiter_store design a.state a.store arrivals

-- "A queue that has an unrequested byte": in the first of these accepted slots, which begins with this state, v is the
-- front byte of q, the slot's own arrival counted.
abbrev pub Front : State → List ℕ → List Step → ℕ → ℕ → Type 0
Front x store [] q v = ⊥
Front x store (step ∷ slots) q v = get_elem? (waiting_with (stands_for x store).waiting step.arrival q) 0 ≡ some v

-- "Is asked within Q accepted slots, that slot included. So its front byte leaves at most Q - 1 + L accepted slots
-- later, if the list lasts that long": `wait` slots later, Q - 1 at most, it is asked, and not before, so that the byte
-- is the very one; L slots after that it leaves.
pub record ServedSoon (s : Sizes) (slots : List Step) (q v : ℕ) : Type 0 where
  pub wait : ℕ
  pub within : wait < s.Q
  pub asked : wait < length slots → request_at slots wait ≡ some q
  pub not_before : (t : ℕ) → t < wait → request_at slots t ≡ some q → ⊥
  pub leaves :
      wait + lookahead s < length slots
      → get_or (deliveries slots) (wait + lookahead s) none ≡ some (byte q v)

-- Both bounds, from every state that keeps the rules; so from a fresh one, and after slots with a caller's own
-- requests. The first accepted slot stands for any: what slots leave keeps the rules, so that a later slot is the first
-- of the rest (`later_too`), also behind a caller's slots (`behind_any`). And a list of the arbiter's slots alone meets
-- demand 3.
pub record Fair (limits : Limits) : Type 0 where
  pub served :
      (x : State) (store : List ℕ) (arrivals : List (Option Byte)) (q v : ℕ)
      → keeps (full limits) x ≡ true
      → Front x store (accepted (arbiter_run (full limits) x store arrivals)) q v
      → ServedSoon x.sizes (accepted (arbiter_run (full limits) x store arrivals)) q v
  -- The premise holds of every queue that has an unrequested byte.
  pub has_a_front :
      (x : State) (store : List ℕ) (arrival : Option Byte) (arrivals : List (Option Byte)) (q : ℕ)
      → (arbiter_slot (full limits) x store arrival).reply.number ≡ 0 → q < x.sizes.Q → can_be_asked x arrival q ≡ true
      → (v : ℕ) × Front x store (accepted (arbiter_run (full limits) x store (arrival ∷ arrivals))) q v
  pub later_too :
      (x : State) (store : List ℕ) (arrivals more : List (Option Byte)) → keeps (full limits) x ≡ true
      → (keeps (full limits) (arbiter_state (full limits) x store arrivals) ≡ true)
      × (arbiter_run (full limits) x store (arrivals ++ more)
      ≡ arbiter_run (full limits) x store arrivals
      ++ arbiter_run (full limits) (arbiter_state (full limits) x store arrivals)
      (arbiter_store (full limits) x store arrivals) more)
  pub behind_any :
      (x : State) (store : List ℕ) (steps : List Step) (last : State) → keeps (full limits) x ≡ true
      → Chain (full limits) x store steps last
      → keeps (full limits) last ≡ true
  pub every_list :
      (s : Sizes) (store : List ℕ) (arrivals : List (Option Byte))
      → accepts limits s ≡ true
      → ListMeets s store (arbiter_run (full limits) (fresh (full limits) s) store arrivals)
