-- One queue after the other: the queues below q have had their turn, the others wait for it. A round of queue q is
-- about it alone, and after its turn the next queue's is due.
use mathlib.Core.Path.{◌≡◌, refl, subst}
use mathlib.Core.Bool.{true, false}
use mathlib.Core.List.{List}
use Prim.Native.Nat.{ℕ, zero, suc, ◌+◌, ◌*◌, ◌<◌, ◌≤◌}
use native.Mathlib.Omega.{arith}
use lib.Dec.{eqb, ltb}
use lib.ListN.{length}
use borrow.Author.Tests.{eqb-true, eqb-false, ltb-true, ltb-false, lt-ltb, le-ltb}
use Rattle.model.specs.Basics.{choose}
use Rattle.model.specs.Sizes.{Sizes, Limits, accepts, lookahead, store_bytes, full}
use Rattle.model.specs.State.{State, fresh, blocks}
use Rattle.model.proofs.basics.Tests.{by_test}
use Rattle.model.proofs.basics.Sums.{sum}
use Rattle.model.proofs.basics.Cells.{owed_empties}
use Rattle.model.proofs.basics.Rings.{ring-fresh}
use Rattle.model_least.proofs.Slots.{Ready, ready_fresh}
use Rattle.model_least.proofs.Figures.{Figures, figures, Shows}
use Rattle.model_least.proofs.Moves.{Calm}
use Rattle.model_least.proofs.Stages.{Stage}
use Rattle.model_least.proofs.Calls.{queues_are}

abbrev pub in_turn : Figures → Figures → ℕ → ℕ → Figures
in_turn done waiting q p = choose (ltb p q) done waiting

pub record Turn (limits : Limits) (s : Sizes) (done waiting : Figures) (q : ℕ) (x : State) (store : List ℕ)
    : Type 0 where
  pub ready : Ready limits s x store
  pub shows : (p : ℕ) → p < s.Q → Shows (in_turn done waiting q p) x p
  pub phase_is : x.phase ≡ 0

module _ (limits : Limits) (s : Sizes) (done waiting : Figures) where
  pub turn_begins : (q : ℕ) (x : State) (store : List ℕ) → q < s.Q → Turn limits s done waiting q x store
      → Stage limits s q waiting (in_turn done waiting q) 0 x store
  turn_begins q x store l v = record {
    ready = v.ready;
    stands = record {
      at_here = rw (le-ltb q q (omega arith)) at (v.shows q l);
      at_there = λ p k u. v.shows p (omega (arith, k, queues_are limits s x store v.ready));
    };
    phase_is = v.phase_is;
  }

  pub turn_ends : (q : ℕ) (x : State) (store : List ℕ) → Stage limits s q done (in_turn done waiting q) 0 x store
      → Turn limits s done waiting (suc q) x store
  turn_ends q x store v = record {
    ready = v.ready;
    shows = λ p l. by_test (eqb q p)
        (λ t. rw (lt-ltb p (suc q) (omega (arith, eqb-true q p t)))
        (subst (Shows done x) (eqb-true q p t) v.stands.at_here))
        (λ t. subst (λ (f : Figures). Shows f x p) (other p t)
        (v.stands.at_there p (omega (arith, l, queues_are limits s x store v.ready)) t));
    phase_is = v.phase_is;
  }
    where
      other : (p : ℕ) → eqb q p ≡ false → in_turn done waiting q p ≡ in_turn done waiting (suc q) p
      other p t =
          by_test (ltb p q)
          (λ u. rw (u, lt-ltb p (suc q) (omega (arith, ltb-true p q u))))
          (λ u. rw (u, le-ltb p (suc q) (omega (arith, ltb-false p q u, eqb-false q p t))))

  pub turn_calm : (q : ℕ) → done.tail < s.b → waiting.tail < s.b → done.asked ≡ 0 → waiting.asked ≡ 0
      → Calm s.b (in_turn done waiting q)
  turn_calm q hd hw ad aw = record {
    light = λ p. by_test (ltb p q) (λ t. rw t hd) (λ t. rw t hw);
    not_asked = λ p. by_test (ltb p q) (λ t. rw t ad) (λ t. rw t aw);
  }

  -- All have had it, or none has.
  pub all_done : (x : State) (store : List ℕ) → Turn limits s done waiting s.Q x store
      → (p : ℕ) → p < s.Q → Shows done x p
  all_done x store v p l = rw (lt-ltb p s.Q l) at (v.shows p l)

  pub none_done : (x : State) (store : List ℕ) → Ready limits s x store → x.phase ≡ 0
      → ((p : ℕ) → p < s.Q → Shows waiting x p) → Turn limits s done waiting 0 x store
  none_done x store ready phase h = record {
    ready = ready;
    shows = λ p l. rw (le-ltb p 0 (omega arith)) (h p l);
    phase_is = phase;
  }

  -- No queue is left.
  pub turns_over : (q : ℕ) (x : State) (store : List ℕ) → zero + q ≡ s.Q → Turn limits s done waiting q x store
      → Turn limits s done waiting s.Q x store
  turns_over q x store e v =
      subst (λ (p : ℕ). Turn limits s done waiting p x store) (let same : q ≡ s.Q = omega (arith, e) in same) v

-- A fresh state: no queue has a byte, and all wait.
abbrev pub untouched : Figures
untouched = figures 0 0 0 0

pub turns_fresh : (limits : Limits) (s : Sizes) (done : Figures) (store : List ℕ) → accepts limits s ≡ true
    → store_bytes s ≤ length store → Turn limits s done untouched 0 (fresh (full limits) s) store
turns_fresh limits s done store e long =
    none_done limits s done untouched (fresh (full limits) s) store (ready_fresh limits s store e long) refl
    (λ p l. record {
      tail_is = refl;
      blocks-are = rw (ring-fresh s.Q p, blocks);
      margin_is = omega (arith, owed_empties (lookahead s) p);
    })

-- A sum that is n times d more than another.
pub sum-add : (n d : ℕ) (f g : ℕ → ℕ) → ((q : ℕ) → q < n → g q ≡ f q + d) → sum n g ≡ sum n f + n * d
sum-add zero d f g h = omega arith
sum-add (suc n) d f g h = omega (arith, h n (omega arith), sum-add n d f g (λ q l. h q (omega arith)))
