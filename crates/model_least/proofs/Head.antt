-- The head's list fills it: every queue in turn comes to a margin of b - 1 with a block in the store; then b requests
-- of every queue in turn make all L cells Owed and leave the margins at b - 1. The head's bytes are the Owed cells and
-- the margins, L + Q(b - 1) = 2Q(b - 1) + 1.
use mathlib.Core.Path.{◌≡◌, refl, ap, sym, subst}
use mathlib.Core.Bool.{true}
use mathlib.Core.List.{List, ◌∷◌, ◌++◌, append_assoc}
use Prim.Native.Nat.{ℕ, zero, suc, ◌+◌, ◌-◌, ◌*◌, ◌<◌, ◌≤◌}
use native.Mathlib.Omega.{arith}
use lib.Dec.{eqb}
use lib.ListN.{length}
use borrow.Author.Tests.{eq-eqb, ne_eqb}
use Rattle.model.specs.Basics.{choose, some_of}
use Rattle.model.specs.Sizes.{Sizes, Limits, accepts, span, head_size, store_bytes, full}
use Rattle.model.specs.State.{State, fresh, head_bytes, owed_cells}
use Rattle.model.specs.Slot.{Call}
use Rattle.model.specs.Calls.{request, idles}
use Rattle.model.specs.Lists.{run}
use Rattle.model.specs.Demand.{block_of_arrivals}
use Rattle.model.proofs.basics.Tests.{by_test}
use Rattle.model.proofs.basics.Sums.{sum}
use Rattle.model.proofs.basics.Bytes.{sum-counts}
use Rattle.model.proofs.basics.Cells.{sum_owed}
use Rattle.model.proofs.basics.Rings.{times_pred}
use Rattle.model.proofs.basics.Limits.{within_limits}
use Rattle.model_least.specs.Least.{prepare_from, ask_from, head_fills, HeadFills}
use Rattle.model_least.proofs.Slots.{state_after, store_after, whole, no_refusal}
use Rattle.model_least.proofs.Figures.{Figures, figures}
use Rattle.model_least.proofs.Moves.{Calm}
use Rattle.model_least.proofs.Calls.{queues_are}
use Rattle.model_least.proofs.Young.{OwedPast, past_all}
use Rattle.model_least.proofs.Rounds.{Onward, fill_round, ask_round, ask_block}
use Rattle.model_least.proofs.Turns.{in_turn, Turn, turn_begins, turn_ends, turn_calm, all_done, none_done}
use Rattle.model_least.proofs.Turns.{turns_over, untouched, turns_fresh, sum-add}

-- The head is full now, or as some slot of the list ends.
abbrev Fills : Limits → Sizes → State → List ℕ → List Call → Type 0
Fills limits s x store calls =
    choose (eqb (length x.head) (head_size s)) true (some_of (head_fills s) (run (full limits) x store calls)) ≡ true

fills_later : (limits : Limits) (s : Sizes) → Onward limits s (Fills limits s)
fills_later limits s x store call ready allowed calls e =
    by_test (eqb (length x.head) (head_size s))
    (λ t. rw t)
    (λ t. rw (t, no_refusal limits s x store ready call allowed)
    (subst (λ (c : Call). Fills limits s (state_after x store c) (store_after x store c) calls)
    (sym (whole limits s x store ready call allowed)) e))

-- A queue with a margin of b - 1 and a block in the store, and with that block read too.
abbrev prepared : Sizes → Figures
prepared s = figures 0 1 (s.b - 1) 0

abbrev spent : Sizes → Figures
spent s = figures 0 0 (s.b - 1) 0

module _ (limits : Limits) (s : Sizes) (block : 1 ≤ s.b) where
  -- The first part, from queue q with n to come.
  prepare : (n q : ℕ) (x : State) (store : List ℕ) (calls : List Call)
      → n + q ≡ s.Q
      → Turn limits s (prepared s) untouched q x store
      → ((z : State) (stored : List ℕ) → Turn limits s (prepared s) untouched s.Q z stored
      → Fills limits s z stored calls)
      → Fills limits s x store (prepare_from s.b q n ++ calls)
  prepare zero q x store calls queues v rest =
      rest x store (turns_over limits s _ _ q x store queues v)
  prepare (suc n) q x store calls queues v rest =
      rw (
        append_assoc fill (request q ∷ (idles (s.b - 1) ++ (fill ++ more))) calls,
        append_assoc (idles (s.b - 1)) (fill ++ more) calls,
        append_assoc fill more calls,
      )
      (fill_round limits s G onward q below there calm 0 x store _ (turn_begins limits s _ _ q x store below v)
      (λ x₁ store₁ v₁. ask_round limits s G onward q below there calm 0 x₁ store₁ _ v₁
      (λ x₂ store₂ v₂. fill_round limits s G onward q below there calm (s.b - 1) x₂ store₂ _ v₂
      (λ x₃ store₃ v₃. prepare n (suc q) x₃ store₃ calls (omega (arith, queues))
      (turn_ends limits s _ _ q x₃ store₃ v₃) rest))))
    where
      G : State → List ℕ → List Call → Type 0
      G = Fills limits s

      onward : Onward limits s G
      onward = fills_later limits s

      below : q < s.Q
      below = omega (arith, queues)

      there : ℕ → Figures
      there = in_turn (prepared s) untouched q

      calm : Calm s.b there
      calm = turn_calm limits s (prepared s) untouched q block block refl refl

      fill : List Call
      fill = block_of_arrivals s.b q

      more : List Call
      more = prepare_from s.b (suc q) n

  -- Where all have been asked and all cells are Owed, the head is full.
  full-head : (x : State) (store : List ℕ) → Turn limits s (spent s) (prepared s) s.Q x store
      → OwedPast 0 x.cells → length x.head ≡ head_size s
  full-head x store v young =
      omega (
        arith,
        young,
        v.ready.good.kept.within.cells_long,
        ap span v.ready.sizes-are,
        ap (λ (n : ℕ). sum n (head_bytes x)) (queues_are limits s x store v.ready),
        ap (λ (n : ℕ). sum n (owed_cells x)) (queues_are limits s x store v.ready),
        sum-counts x.sizes.Q x.head v.ready.good.kept.within.head_below,
        sum_owed x.sizes.Q x.cells v.ready.good.kept.within.cells_below,
        sum-add s.Q (s.b - 1) (owed_cells x) (head_bytes x)
            (λ p l. omega (arith, (all_done limits s (spent s) (prepared s) x store v p l).margin_is)),
      )

  -- The second part, from queue q with n to come: as many slots with Owed requests as those have bytes in a block.
  ask : (n q : ℕ) (x : State) (store : List ℕ)
      → n + q ≡ s.Q
      → Turn limits s (spent s) (prepared s) q x store
      → OwedPast (n * s.b) x.cells
      → Fills limits s x store (ask_from s.b q n)
  ask zero q x store queues v young =
      rw (eq-eqb (length x.head) (head_size s) (full-head x store (turns_over limits s _ _ q x store queues v)
      (subst (λ (r : ℕ). OwedPast r x.cells) (let e : 0 * s.b ≡ 0 = omega arith in e) young)))
  ask (suc n) q x store queues v young =
      ask_block limits s (Fills limits s) (fills_later limits s) q below (in_turn (spent s) (prepared s) q)
      (turn_calm limits s (spent s) (prepared s) q block block refl refl)
      0 (n * s.b) x store (ask_from s.b (suc q) n)
      (turn_begins limits s _ _ q x store below v)
      (subst (λ (r : ℕ). OwedPast r x.cells) (let e : suc n * s.b ≡ s.b + n * s.b = omega arith in e) young)
      (λ z stored w y. ask n (suc q) z stored (omega (arith, queues)) (turn_ends limits s _ _ q z stored w) y)
    where
      below : q < s.Q
      below = omega (arith, queues)

pub head_fills_lem : (limits : Limits) (s : Sizes) (store : List ℕ) → accepts limits s ≡ true
    → store_bytes s ≤ length store → HeadFills limits s store
head_fills_lem limits s store e long =
    rw (ne_eqb 0 (head_size s) (λ d. omega (arith, d))) at
    (prepare limits s block s.Q 0 (fresh (full limits) s) store (ask_from s.b 0 s.Q) (omega arith)
    (turns_fresh limits s (prepared s) store e long)
    (λ z stored v. ask limits s block s.Q 0 z stored (omega arith)
    (none_done limits s (spent s) (prepared s) z stored v.ready v.phase_is
    (all_done limits s (prepared s) untouched z stored v))
    (past_all (s.Q * s.b) z.cells
    (omega (
      arith,
      v.ready.good.kept.within.cells_long,
      ap span v.ready.sizes-are,
      times_pred s.Q s.b block,
      (within_limits limits s e).q_low,
    )))))
  where
    block : 1 ≤ s.b
    block = (within_limits limits s e).b_low
