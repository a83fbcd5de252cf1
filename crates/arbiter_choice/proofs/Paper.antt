-- The choice by figures is the model's: on the figures of a state that keeps the rules a queue can be asked exactly
-- where the model says so, and both look at the queues in the same order. `choice-is` says it.
use mathlib.Core.Path.{◌≡◌, refl, ap, sym, ◌∙◌}
use mathlib.Core.Bool.{Bool, true, false, ◌||◌}
use mathlib.Core.Option.{Option, some, none}
use Prim.Native.Nat.{ℕ, ◌+◌, ◌-◌, ◌*◌, ◌<◌, ◌≤◌}
use native.Mathlib.Omega.{arith}
use lib.Dec.{eqb, ltb, leb}
use borrow.Author.Tests.{ltb-true, ltb-false, lt-ltb, le-ltb, lt-leb, leb-true, ne_eqb}
use Rattle.model.specs.Basics.{choose}
use Rattle.model.specs.State.{Byte, State, count_of, tail_bytes, head_bytes, owed_cells, blocks}
use Rattle.model.specs.Slot.{arriving, is_full}
use Rattle.model.specs.Arbiter.{counted_arrival, can_be_asked, queue_after, choice}
use Rattle.model.proofs.basics.Tests.{by_test}
use Rattle.model.proofs.basics.Rounds.{next_below, first_alike}
use Rattle.layout.specs.Figures.{figures_of}
use Rattle.slot_refusals.specs.Says.{owes_now, arrives_at}
use Rattle.arbiter_choice.specs.Says.{counted_now, can_ask_now, choice_now}

-- One byte that arrives counts as one of its queue.
one_arrives : (arrival : Option Byte) (q : ℕ) → count_of q (arriving arrival) ≡ choose (arrives_at arrival q) 1 0
one_arrives none q = refl
one_arrives (some y) q =
    by_test (eqb y.queue q)
    (λ t. rw t)
    (λ t. rw t)

-- An arrival of an unknown queue counts for none of the known ones.
counted_alike : (x : State) (arrival : Option Byte) (q : ℕ) → q < x.sizes.Q
    → arrives_at (counted_now (figures_of x) arrival) q ≡ arrives_at (counted_arrival x arrival) q
counted_alike x none q l = refl
counted_alike x (some y) q l =
    by_test (leb x.sizes.Q y.queue)
    (λ t. rw t (by_test (is_full x y.queue)
    (λ u. rw u)
    (λ u. rw u (sym (not-q (leb-true x.sizes.Q y.queue t))))))
    (λ t. rw t)
  where
    not-q : x.sizes.Q ≤ y.queue → eqb y.queue q ≡ false
    not-q h = ne_eqb y.queue q (λ e. omega (arith, e, h, l))

-- Any of three numbers is there where their sum is.
some_there : (n m k : ℕ) (owing coming : Bool) → owing ≡ ltb 0 n → k ≡ choose coming 1 0
    → (owing || (ltb 0 m || coming)) ≡ ltb 0 (n + m + k)
some_there n m k true coming e f =
    sym (lt-ltb 0 (n + m + k) (omega (arith, ltb-true 0 n (sym e))))
some_there n m k false coming e f =
    by_test (ltb 0 m)
    (λ t. rw t (sym (lt-ltb 0 (n + m + k) (omega (arith, ltb-true 0 m t)))))
    (λ t. rw t (last coming f (omega (arith, ltb-false 0 n (sym e), ltb-false 0 m t))))
  where
    last : (coming : Bool) → k ≡ choose coming 1 0 → n + m ≡ 0 → coming ≡ ltb 0 (n + m + k)
    last true f z = sym (lt-ltb 0 (n + m + k) (omega (arith, f)))
    last false f z = sym (le-ltb 0 (n + m + k) (omega (arith, f)))

can_ask_is : (x : State) (arrival : Option Byte) (q : ℕ) → q < x.sizes.Q
    → can_ask_now (figures_of x) (counted_now (figures_of x) arrival) q ≡ can_be_asked x arrival q
can_ask_is x arrival q l =
    some_there (have - owed_cells x q) (tail_bytes x q) (count_of q (arriving (counted_arrival x arrival)))
    (owes_now (figures_of x) (some q)) (arrives_at (counted_now (figures_of x) arrival) q)
    (rw (lt-leb x.sizes.Q q l) more)
    (one_arrives (counted_arrival x arrival) q
    ∙ ap (λ (b : Bool). choose b 1 0) (sym (counted_alike x arrival q l)))
  where
    have : ℕ
    have = head_bytes x q + x.sizes.b * blocks x q

    more : ltb (owed_cells x q) have ≡ ltb 0 (have - owed_cells x q)
    more =
        by_test (ltb (owed_cells x q) have)
        (λ t. t ∙ sym (lt-ltb 0 (have - owed_cells x q) (omega (arith, ltb-true (owed_cells x q) have t))))
        (λ t. t ∙ sym (le-ltb 0 (have - owed_cells x q) (omega (arith, ltb-false (owed_cells x q) have t))))

pub choice-is : (x : State) (arrival : Option Byte) → x.last_asked < x.sizes.Q
    → choice_now (figures_of x) x.last_asked arrival ≡ choice x arrival
choice-is x arrival l =
    first_alike x.sizes.Q (can_ask_now (figures_of x) (counted_now (figures_of x) arrival)) (can_be_asked x arrival)
    x.sizes.Q (queue_after x.sizes.Q x.last_asked) (next_below x.sizes.Q x.last_asked
    (omega (arith, l)))
    (λ q k. can_ask_is x arrival q k)
