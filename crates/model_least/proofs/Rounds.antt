-- Rounds of b slots: a block of arrivals that is written, one request and a block of requests that are read for, and
-- b - 1 arrivals and an idle slot that move nothing. What a list is to reach after a round it reaches with the round
-- before it.
use mathlib.Core.Path.{◌≡◌, refl, ap, ◌∙◌, subst}
use mathlib.Core.List.{List, ◌∷◌, ◌++◌}
use Prim.Native.Nat.{ℕ, zero, suc, ◌+◌, ◌-◌, ◌<◌}
use native.Mathlib.Omega.{arith}
use native.Mathlib.Nat.{zero-add, suc-add}
use lib.ListN.{replicate}
use Rattle.model.specs.Sizes.{Sizes, Limits}
use Rattle.model.specs.State.{State}
use Rattle.model.specs.Slot.{Call}
use Rattle.model.specs.Calls.{arrival, request, idle, idles}
use Rattle.model.specs.Demand.{block_of_arrivals}
use Rattle.model_least.proofs.Slots.{Ready, state_after, store_after, Allowed, not-8}
use Rattle.model_least.proofs.Figures.{Figures, figures}
use Rattle.model_least.proofs.Moves.{Calm}
use Rattle.model_least.proofs.Stages.{Stage}
use Rattle.model_least.proofs.Calls.{idle-allowed, idle-on, idle-moves_nothing, idle-reads, owed_now}
use Rattle.model_least.proofs.Calls.{request-taken}
use Rattle.model_least.proofs.Calls.{request-on, request-reads, arrival-taken, arrival-on, arrival-writes}
use Rattle.model_least.proofs.Young.{OwedPast, past_asked}

-- A goal of state, store and the calls to come that an accepted slot leaves to the calls after it.
abbrev pub Goal : Type 1
Goal = State → List ℕ → List Call → Type 0

abbrev pub Onward : Limits → Sizes → Goal → Type 0
Onward limits s G =
    (x : State) (store : List ℕ) (call : Call) → Ready limits s x store → Allowed x call
    → (calls : List Call) → G (state_after x store call) (store_after x store call) calls → G x store (call ∷ calls)

-- The last of n equal calls, told apart.
last_of : (n b : ℕ) (call : Call) (calls : List Call) → suc n ≡ b
    → replicate n call ++ (call ∷ calls) ≡ replicate b call ++ calls
last_of n b call calls e = onto n ∙ ap (λ (k : ℕ). replicate k call ++ calls) e
  where
    onto : (k : ℕ) → replicate k call ++ (call ∷ calls) ≡ replicate (suc k) call ++ calls
    onto zero = refl
    onto (suc k) = ap (λ (l : List Call). call ∷ l) (onto k)

module _ (limits : Limits) (s : Sizes) (G : Goal) (onward : Onward limits s G) (q : ℕ) (below : q < s.Q)
    (there : ℕ → Figures) (calm : Calm s.b there) where
  -- Reached from every state that stands so after the round.
  abbrev pub Then : Figures → ℕ → List Call → Type 0
  Then here j calls = (z : State) (stored : List ℕ) → Stage limits s q here there j z stored → G z stored calls

  last_slot : suc (s.b - 1) ≡ s.b
  last_slot = omega (arith, calm.light 0)

  -- All arrivals of a round but the last.
  arrivals : (i j m : ℕ) (x : State) (store : List ℕ) (calls : List Call)
      → suc (i + j) ≡ s.b
      → Stage limits s q (figures j 0 m 0) there j x store
      → Then (figures (s.b - 1) 0 m 0) (s.b - 1) calls
      → G x store (block_of_arrivals i q ++ calls)
  arrivals zero j m x store calls left v rest =
      rest x store (subst (λ (k : ℕ). Stage limits s q (figures k 0 m 0) there k x store)
      (let e : j ≡ s.b - 1 = omega (arith, left) in e) v)
  arrivals (suc i) j m x store calls left v rest =
      onward x store (arrival q 0) v.ready (arrival-taken limits s q j there x store m v below) _
      (arrivals i (suc j) m _ _ calls (omega (arith, left))
      (arrival-on limits s q j there x store m v below (omega (arith, left))) rest)

  -- b arrivals: the block is written.
  pub fill_round : (m : ℕ) (x : State) (store : List ℕ) (calls : List Call)
      → Stage limits s q (figures 0 0 m 0) there 0 x store
      → Then (figures 0 1 m 0) 0 calls
      → G x store (block_of_arrivals s.b q ++ calls)
  fill_round m x store calls v rest =
      subst (G x store) (last_of (s.b - 1) s.b (arrival q 0) calls last_slot)
      (arrivals (s.b - 1) 0 m x store (arrival q 0 ∷ calls) (omega (arith, last_slot)) v
      (λ z stored w. onward z stored (arrival q 0) w.ready
      (arrival-taken limits s q (s.b - 1) there z stored m w below) calls
      (rest _ _ (arrival-writes limits s q (s.b - 1) there z stored m w below calm last_slot))))

  -- b - 1 arrivals and an idle slot: nothing is written.
  pub short-round : (x : State) (store : List ℕ) (calls : List Call)
      → Stage limits s q (figures 0 0 0 0) there 0 x store
      → Then (figures (s.b - 1) 0 0 0) 0 calls
      → G x store (block_of_arrivals (s.b - 1) q ++ (idles 1 ++ calls))
  short-round x store calls v rest =
      arrivals (s.b - 1) 0 0 x store (idle ∷ calls) (omega (arith, last_slot)) v
      (λ z stored w. onward z stored idle w.ready (idle-allowed z) calls
      (rest _ _ (idle-moves_nothing limits s q (s.b - 1) there z stored _ w last_slot calm
      (omega (arith, last_slot)) (omega arith))))

  -- The idle slots that end a round in which the queue has become critical.
  idles-to_read : (i j k m : ℕ) (x : State) (store : List ℕ) (calls : List Call)
      → suc (i + j) ≡ s.b
      → Stage limits s q (figures 0 (suc k) m (suc m)) there j x store
      → Then (figures 0 k (s.b - 1) 0) 0 calls
      → G x store (idles (suc i) ++ calls)
  idles-to_read zero j k m x store calls left v rest =
      onward x store idle v.ready (idle-allowed x) calls
      (rest _ _ (idle-reads limits s q j there x store k m below calm v (omega (arith, left))))
  idles-to_read (suc i) j k m x store calls left v rest =
      onward x store idle v.ready (idle-allowed x) _
      (idles-to_read i (suc j) k m _ _ calls (omega (arith, left))
      (idle-on limits s q j there x store _ v (omega (arith, left))) rest)

  -- One request and b - 1 idle slots: from a margin of 0 the queue becomes critical, and its block is read.
  pub ask_round : (k : ℕ) (x : State) (store : List ℕ) (calls : List Call)
      → Stage limits s q (figures 0 (suc k) 0 0) there 0 x store
      → Then (figures 0 k (s.b - 1) 0) 0 calls
      → G x store (request q ∷ (idles (s.b - 1) ++ calls))
  ask_round k x store calls v rest = go (s.b - 1) last_slot
    where
      taken : Allowed x (request q)
      taken = request-taken limits s q 0 there x store k 0 0 v below (omega arith)

      go : (i : ℕ) → suc i ≡ s.b → G x store (request q ∷ (idles i ++ calls))
      go zero e =
          onward x store (request q) v.ready taken calls
          (rest _ _ (request-reads limits s q 0 there x store k 0 0 v below (omega arith) calm refl e))
      go (suc i) e =
          onward x store (request q) v.ready taken _
          (idles-to_read i 1 k 0 _ _ calls (omega (arith, e))
          (request-on limits s q 0 there x store k 0 0 v below (omega arith) (omega (arith, e))) rest)

  -- b requests: from a margin of b - 1 the queue becomes critical, and its block is read. Each leaves an Owed cell,
  -- and r slots with Owed requests are to come after them.
  abbrev pub ThenOwed : Figures → ℕ → ℕ → List Call → Type 0
  ThenOwed here j r calls =
      (z : State) (stored : List ℕ) → Stage limits s q here there j z stored → OwedPast r z.cells → G z stored calls

  module _ (k r : ℕ) where
    owed_on : (j : ℕ) (x : State) (store : List ℕ)
        → Stage limits s q (figures 0 (suc k) (s.b - 1) j) there j x store
        → j < s.b → (e : ℕ) → OwedPast (suc e) x.cells
        → OwedPast e (state_after x store (request q)).cells
    owed_on j x store v l e =
        past_asked x q e (not-8 limits s x store v.ready)
        (owed_now limits s q j there x store k _ j v below (omega (arith, l)))

    requests : (i j : ℕ) (x : State) (store : List ℕ) (calls : List Call)
        → suc (i + j) ≡ s.b
        → Stage limits s q (figures 0 (suc k) (s.b - 1) j) there j x store
        → OwedPast (i + suc r) x.cells
        → ThenOwed (figures 0 (suc k) (s.b - 1) (s.b - 1)) (s.b - 1) (suc r) calls
        → G x store (replicate i (request q) ++ calls)
    requests zero j x store calls left v young rest =
        rest x store (subst (λ (n : ℕ). Stage limits s q (figures 0 (suc k) (s.b - 1) n) there n x store)
        (let e : j ≡ s.b - 1 = omega (arith, left) in e) v) (rw zero-add at young)
    requests (suc i) j x store calls left v young rest =
        onward x store (request q) v.ready
        (request-taken limits s q j there x store k _ j v below (omega (arith, left))) _
        (requests i (suc j) _ _ calls (omega (arith, left))
        (request-on limits s q j there x store k _ j v below (omega (arith, left)) (omega (arith, left)))
        (owed_on j x store v (omega (arith, left)) (i + suc r) (rw suc-add at young)) rest)

    pub ask_block : (x : State) (store : List ℕ) (calls : List Call)
        → Stage limits s q (figures 0 (suc k) (s.b - 1) 0) there 0 x store
        → OwedPast (s.b + r) x.cells
        → ThenOwed (figures 0 k (s.b - 1) 0) 0 r calls
        → G x store (replicate s.b (request q) ++ calls)
    ask_block x store calls v young rest =
        subst (G x store) (last_of (s.b - 1) s.b (request q) calls last_slot)
        (requests (s.b - 1) 0 x store (request q ∷ calls) (omega (arith, last_slot)) v
        (subst (λ (n : ℕ). OwedPast n x.cells)
        (let e : s.b + r ≡ s.b - 1 + suc r = omega (arith, last_slot) in e) young)
        (λ z stored w y. onward z stored (request q) w.ready
        (request-taken limits s q (s.b - 1) there z stored k _ _ w below (omega arith)) calls
        (rest _ _ (request-reads limits s q (s.b - 1) there z stored k _ _ w below (omega arith) calm refl last_slot)
        (owed_on (s.b - 1) z stored w (omega (arith, last_slot)) r y))))
