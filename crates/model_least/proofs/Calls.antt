-- The three kinds of slot that the lists are made of, by the figures: an arrival of the round's queue, a request of it
-- that is Owed, and an idle slot. Each is accepted.
use mathlib.Core.Path.{◌≡◌, refl, ap, sym, ◌∙◌, subst}
use mathlib.Core.Bool.{true}
use mathlib.Core.List.{List}
use Prim.Native.Nat.{ℕ, suc, ◌+◌, ◌-◌, ◌*◌, ◌<◌, ◌≤◌}
use native.Mathlib.Omega.{arith}
use native.Mathlib.Nat.{mul-le-mul_left, mul-le-mul_right}
use borrow.Author.Tests.{ne_eqb, lt-ltb, lt-leb}
use Rattle.model.specs.Sizes.{Sizes, Limits}
use Rattle.model.specs.State.{byte, State, tail_bytes, head_bytes, owed_cells, blocks}
use Rattle.model.specs.Slot.{Call, is_owed, asked}
use Rattle.model.specs.Calls.{arrival, request, idle}
use Rattle.model.proofs.basics.Limits.{within_limits}
use Rattle.model.proofs.one_slot.Swap.{five_as_before}
use Rattle.model_least.proofs.Slots.{Ready, state_after, store_after, Allowed, not-8}
use Rattle.model_least.proofs.Figures.{Figures, figures, Stands, stands_arrived, stands_asked, stands_idle}
use Rattle.model_least.proofs.Moves.{Calm}
use Rattle.model_least.proofs.Stages.{Stage, on, writes, reads, moves-nothing}

-- Stage, as the slot leaves it.
abbrev pub After : Limits → Sizes → ℕ → Figures → (ℕ → Figures) → ℕ → State → List ℕ → Call → Type 0
After limits s q here there j x store call =
    Stage limits s q here there j (state_after x store call) (store_after x store call)

-- The sizes of a ready state are the list's.
module _ (limits : Limits) (s : Sizes) (x : State) (store : List ℕ) (ready : Ready limits s x store) where
  pub queues_are : x.sizes.Q ≡ s.Q
  queues_are = ap (λ (z : Sizes). z.Q) ready.sizes-are

  pub block_is : x.sizes.b ≡ s.b
  block_is = ap (λ (z : Sizes). z.b) ready.sizes-are

  calm_there : (there : ℕ → Figures) → Calm s.b there → Calm x.sizes.b there
  calm_there there c = subst (λ (z : Sizes). Calm z.b there) (sym ready.sizes-are) c

-- What 4 to 7 let through: an idle slot; an arrival of a queue that has no block, and room for one more byte; a
-- request of a queue that has a block, and no more Owed cells than head bytes.
pub idle-allowed : (x : State) → Allowed x idle
idle-allowed x = record { not-4 = refl; not_5 = refl; not-6 = refl; not_7 = refl }

module _ (limits : Limits) (s : Sizes) (x : State) (store : List ℕ) (ready : Ready limits s x store) (q : ℕ)
    (below : q < s.Q) where
  pub arrival-allowed : blocks x q ≡ 0 → tail_bytes x q < s.K * s.b → Allowed x (arrival q 0)
  arrival-allowed none_stored l = record {
    not-4 = lt-leb x.sizes.Q q (omega (arith, below, queues_are limits s x store ready));
    not_5 = five_as_before x (arrival q 0) refl (byte q 0) refl
        ∙ ne_eqb (tail_bytes x q + x.sizes.b * blocks x q) (x.sizes.K * x.sizes.b)
        (λ e. omega (
          arith,
          e,
          l,
          ap (λ (n : ℕ). x.sizes.b * n) none_stored,
          ap (λ (z : Sizes). z.K * z.b) ready.sizes-are,
        ));
    not-6 = refl;
    not_7 = refl;
  }

  pub is_owed_lem : 1 ≤ blocks x q → owed_cells x q ≤ head_bytes x q → is_owed x q ≡ true
  is_owed_lem stored l =
      lt-ltb (owed_cells x q) (head_bytes x q + x.sizes.b * blocks x q)
      (omega (
        arith,
        l,
        ready.good.kept.phase_ok,
        mul-le-mul_left {m = 1} {n = blocks x q} x.sizes.b stored,
      ))

  pub request-allowed : is_owed x q ≡ true → Allowed x (request q)
  request-allowed o = record {
    not-4 = refl;
    not_5 = refl;
    not-6 = lt-leb x.sizes.Q q (omega (arith, below, queues_are limits s x store ready));
    not_7 = rw o;
  }

module _ (limits : Limits) (s : Sizes) (q j : ℕ) (there : ℕ → Figures) (x : State) (store : List ℕ) where
  -- An idle slot: it changes nothing, and the last of a round reads a block where the queue is critical.
  module _ (here : Figures) (v : Stage limits s q here there j x store) where
    idled : Stands q here there (asked x idle)
    idled = stands_idle x (not-8 limits s x store v.ready) q there here v.stands

    pub idle-on : suc j < s.b → After limits s q here there (suc j) x store idle
    idle-on l =
        on limits s x store idle v.ready (idle-allowed x) q there here idled j v.phase_is
        (omega (arith, l, block_is limits s x store v.ready))

    module _ (last : suc j ≡ s.b) (calm : Calm s.b there) where
      pub idle-moves_nothing : here.tail < s.b → here.asked ≤ here.margin
          → After limits s q here there 0 x store idle
      idle-moves_nothing light l =
          moves-nothing limits s x store idle v.ready (idle-allowed x) q there
          (omega (arith, last, v.phase_is, block_is limits s x store v.ready))
          (calm_there limits s x store v.ready there calm) here idled
          (omega (arith, light, block_is limits s x store v.ready)) l

  module _ (k m : ℕ) (below : q < s.Q) (calm : Calm s.b there) where
    -- The last slot of a round, from what the queues show after its step 3.
    read_last : (call : Call) (a : ℕ) (v : Stage limits s q (figures 0 (suc k) m a) there j x store)
        → (allowed : Allowed x call) → Stands q (figures 0 (suc k) m (suc m)) there (asked x call)
        → suc j ≡ s.b → After limits s q (figures 0 k (s.b - 1) 0) there 0 x store call
    read_last call a v allowed w last =
        subst (λ (z : Sizes). After limits s q (figures 0 k (z.b - 1) 0) there 0 x store call) v.ready.sizes-are
        (reads limits s x store call v.ready allowed q there
        (omega (arith, last, v.phase_is, block_is limits s x store v.ready))
        (calm_there limits s x store v.ready there calm) 0 k m
        (omega (arith, below, queues_are limits s x store v.ready))
        (omega (arith, last, block_is limits s x store v.ready)) w)

    pub idle-reads : Stage limits s q (figures 0 (suc k) m (suc m)) there j x store → suc j ≡ s.b
        → After limits s q (figures 0 k (s.b - 1) 0) there 0 x store idle
    idle-reads v last = read_last idle (suc m) v (idle-allowed x) (idled _ v) last

  -- A request: the queue has a block, and its margin covers what was asked for.
  module _ (k m a : ℕ) (v : Stage limits s q (figures 0 (suc k) m a) there j x store) (below : q < s.Q)
      (covered : a ≤ m) where
    pub owed_now : is_owed x q ≡ true
    owed_now =
        is_owed_lem limits s x store v.ready q below
        (omega (arith, v.stands.at_here.blocks-are)) (omega (arith, covered, v.stands.at_here.margin_is))

    pub request-taken : Allowed x (request q)
    request-taken = request-allowed limits s x store v.ready q below owed_now

    requested : Stands q (figures 0 (suc k) m (suc a)) there (asked x (request q))
    requested =
        stands_asked x (not-8 limits s x store v.ready) q there owed_now 0 (suc k) m a v.stands

    pub request-on : suc j < s.b → After limits s q (figures 0 (suc k) m (suc a)) there (suc j) x store (request q)
    request-on l =
        on limits s x store (request q) v.ready request-taken q there _ requested j v.phase_is
        (omega (arith, l, block_is limits s x store v.ready))

    pub request-reads : Calm s.b there → a ≡ m → suc j ≡ s.b
        → After limits s q (figures 0 k (s.b - 1) 0) there 0 x store (request q)
    request-reads calm e last =
        read_last k m below calm (request q) a v request-taken
        (subst (λ (n : ℕ). Stands q (figures 0 (suc k) m (suc n)) there (asked x (request q))) e requested) last

  -- An arrival: the round's queue has no block, and as many tail bytes as slots of the round have passed.
  module _ (m : ℕ) (v : Stage limits s q (figures j 0 m 0) there j x store) (below : q < s.Q) where
    pub arrival-taken : Allowed x (arrival q 0)
    arrival-taken =
        arrival-allowed limits s x store v.ready q below v.stands.at_here.blocks-are
        (omega (
          arith,
          v.stands.at_here.tail_is,
          v.phase_is,
          v.ready.good.kept.phase_ok,
          block_is limits s x store v.ready,
          mul-le-mul_right {m = 1} s.b some_block,
        ))
      where
        some_block : 1 ≤ s.K
        some_block =
            subst (λ (z : Sizes). 1 ≤ z.K) v.ready.sizes-are
            (within_limits limits x.sizes v.ready.good.kept.sizes-ok).k_low

    arrived : Stands q (figures (suc j) 0 m 0) there (asked x (arrival q 0))
    arrived = stands_arrived x (not-8 limits s x store v.ready) q there j 0 m 0 v.stands

    pub arrival-on : suc j < s.b → After limits s q (figures (suc j) 0 m 0) there (suc j) x store (arrival q 0)
    arrival-on l =
        on limits s x store (arrival q 0) v.ready arrival-taken q there _ arrived j v.phase_is
        (omega (arith, l, block_is limits s x store v.ready))

    pub arrival-writes : Calm s.b there → suc j ≡ s.b
        → After limits s q (figures 0 1 m 0) there 0 x store (arrival q 0)
    arrival-writes calm last =
        writes limits s x store (arrival q 0) v.ready arrival-taken q there
        (omega (arith, last, v.phase_is, block_is limits s x store v.ready))
        (calm_there limits s x store v.ready there calm) 0 m
        (omega (arith, below, queues_are limits s x store v.ready))
        (subst (λ (n : ℕ). Stands q (figures n 0 m 0) there (asked x (arrival q 0)))
        (let e : suc j ≡ x.sizes.b = omega (arith, last, block_is limits s x store v.ready) in e) arrived)
