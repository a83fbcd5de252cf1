-- A state that is ready for a slot: its counts are its figures, its fills lie in their arrays, and what an accepted
-- slot leaves is ready again.
use mathlib.Core.Path.{◌≡◌, refl, ap, sym, ◌∙◌, subst, fun_ext}
use mathlib.Core.Bool.{Bool, true}
use mathlib.Core.List.{List}
use mathlib.Core.Option.{Option}
use Prim.Native.Nat.{ℕ, zero, suc, ◌<◌, ◌≤◌}
use native.Mathlib.Omega.{arith}
use lib.Dec.{ltb}
use lib.ListN.{length}
use borrow.Author.Tests.{ltb-true, ltb-false}
use Rattle.model.specs.Basics.{all_of}
use Rattle.model.specs.Sizes.{paper, lookahead, store_bytes}
use Rattle.model.specs.State.{Ring, State, ring_of, cell_below}
use Rattle.model.specs.Slot.{Call, refusal, Reply, number_alone, Answer, carried_out, answer, slot}
use Rattle.model.proofs.basics.Tests.{by_test}
use Rattle.model.proofs.basics.Cells.{cells_below_holds}
use Rattle.model.proofs.one_slot.Rules.{Keeps, keeps-facts, keeps-holds}
use Rattle.model.proofs.one_slot.Accepted.{Accepted, accepted-facts}
use Rattle.model.proofs.one_slot.Kept.{Kept, carried_kept}
use Rattle.model.proofs.one_slot.Calls.{answer-is}
use Rattle.layout.specs.Lengths.{tail_places, head_places, cell_places, queue_places}
use Rattle.layout.specs.Entries.{counts_in}
use Rattle.caches.proofs.Tallies.{count_le}
use Rattle.layout.proofs.Cells.{cells_length}
use Rattle.lookahead.proofs.Turns.{owed_at_most}
use Rattle.layout.specs.declared.Regs.{Regs}
use Rattle.layout.specs.Views.{Arrays, sizes_in, rings_in, state_in}
use Rattle.layout.specs.Figures.{Figures, figures_of, blocks_in, figures_in}
use Rattle.layout.specs.Counts.{ByQueue, Tallies}
use Rattle.layout.proofs.Fits.{tail_in_array, head_in_array, tail_length, head_length}
use Rattle.layout.proofs.Ranges.{InLimits, in_limits}
use Rattle.layout.proofs.Rings.{ring-at, ring-past}
use Rattle.slot_in_place.specs.declared.Carried.{Carried}
use Rattle.slot_in_place.specs.Says.{Decided, CarrySays, Ready}

-- The blocks of each queue, past the last queue too.
blocks-are : (n : ℕ) (firsts stored : List ℕ) (q : ℕ)
    → blocks_in n stored q ≡ (ring_of (rings_in n firsts stored) q).count
blocks-are n firsts stored q =
    by_test (ltb q n)
    (λ t. rw t (ap (λ (r : Ring). r.count) (sym (ring-at n firsts stored q (ltb-true q n t)))))
    (λ t. rw t (ap (λ (r : Ring). r.count) (sym (ring-past n firsts stored q (ltb-false q n t)))))

abbrev figures : Regs → ℕ → (ℕ → ℕ) → (ℕ → ℕ) → (ℕ → ℕ) → (ℕ → ℕ) → Figures
figures regs f t h o n = record { sizes = sizes_in regs; fill = f; tails = t; heads = h; owed = o; blocks = n }

same-figures : (regs : Regs) {f f' : ℕ} {t t' h h' o o' n n' : ℕ → ℕ}
    → f ≡ f' → t ≡ t' → h ≡ h' → o ≡ o' → n ≡ n' → figures regs f t h o n ≡ figures regs f' t' h' o' n'
same-figures regs ef et eh eo en = cc

module _ {regs : Regs} {m : Arrays} {counts : ByQueue} {store : List ℕ} (r : Ready regs m counts store)
  where
    abbrev x : State
    x = state_in regs m

    pub kept : Keeps paper x
    kept = keeps-facts paper x r.kept

    pub limits : InLimits regs
    limits = in_limits regs kept.sizes-ok

    pub head_in : regs.head_fill < head_places
    head_in = head_in_array regs m r.long kept.sizes-ok kept.head_fits

    tail_in : regs.tail_fill < tail_places
    tail_in = tail_in_array regs m r.long kept.sizes-ok kept.tail_fits

    pub head_long : length x.head ≡ regs.head_fill
    head_long = head_length regs m r.long head_in

    tail_long : length x.tail ≡ regs.tail_fill
    tail_long = tail_length regs m r.long tail_in

    pub cells_inside : lookahead (sizes_in regs) ≤ cell_places
    cells_inside = omega (arith, limits.span_high)

    pub cells_known : all_of (cell_below queue_places) x.cells ≡ true
    cells_known =
        cells_below_holds regs.queues queue_places limits.q_high x.cells kept.within.cells_below

    -- The counts that are kept beside the state are its figures.
    pub figures_are : figures_in regs counts m.stored ≡ figures_of x
    figures_are =
        same-figures regs (sym tail_long) (fun_ext r.tallies.tails_are.count_is)
        (fun_ext r.tallies.heads_are.count_is) (fun_ext r.tallies.owed_are.count_is)
        (fun_ext (blocks-are regs.queues m.firsts m.stored))

    -- The counts are small.
    pub tails_small : (q : ℕ) → counts_in counts.tails q ≤ tail_places
    tails_small q = omega (arith, r.tallies.tails_are.count_is q, count_le q x.tail, tail_long, tail_in)

    pub heads_small : (q : ℕ) → counts_in counts.heads q ≤ head_places
    heads_small q = omega (arith, r.tallies.heads_are.count_is q, count_le q x.head, head_long, head_in)

    pub owing_small : (q : ℕ) → counts_in counts.owing q ≤ cell_places
    owing_small q =
        omega (
          arith,
          r.tallies.owed_are.count_is q,
          owed_at_most q x.cells,
          cells_length (lookahead (sizes_in regs)) m.cells (omega (arith, cells_inside, r.long.cells_long)),
          cells_inside,
        )

    -- A refused slot answers its number, and nothing has changed.
    module _ (call : Call) where
      pub refused-slot : (n : ℕ) {r : Reply} → (n ≡ 0 → ⊥) → n ≡ refusal paper x store call → r ≡ number_alone n
          → record { reply = r; state = x; store = store } ≡ slot paper x store call
      refused-slot zero f e t = absurd (f refl)
      refused-slot (suc n) f e t =
          ap (λ (k : Reply). record { reply = k; state = x; store = store }) t
          ∙ ap (λ (k : ℕ). answer k x store call) e

      -- What is carried out of a call of which no half drops leaves a state that is ready, and is the slot's answer.
      module _ {is_owed' swaps' : Bool} {written readQueue : Option ℕ}
          (d : Decided x store call is_owed' swaps' written readQueue) where
        left : Kept paper x store (carried_out 0 0 x store call)
        left =
            carried_kept paper x store call (omega arith)
            (subst (Accepted paper x store) d.all_taken (accepted-facts paper x store call d.accepted))

        pub carried_ready : {c : Carried} {m' : Arrays} {counts' : ByQueue} {store' : List ℕ}
            → CarrySays x store call c m' store'
            → Tallies (carried_out 0 0 x store call).state counts'
            → Ready c.regs m' counts' store'
        carried_ready {c} {m'} {counts'} {store'} s t = record {
          long = s.long;
          kept = keeps-holds paper (state_in c.regs m') (subst (Keeps paper) (sym s.state_is) left.kept);
          tallies = subst (λ (y : State). Tallies y counts') (sym s.state_is) t;
          store_long =
              subst (λ (y : State). store_bytes y.sizes ≤ length store') (sym s.state_is)
              (omega (arith, r.store_long, ap length s.store_is, left.same_length));
        }

        pub carried_answer : {c : Carried} {m' : Arrays} {store' : List ℕ} {a : Answer} (i j : ℕ)
            → CarrySays x store call c m' store'
            → a.reply ≡ (carried_out i j x store call).reply
            → a.state ≡ state_in c.regs m'
            → a.store ≡ store'
            → a ≡ carried_out i j x store call
        carried_answer {a = a} i j s e₁ e₂ e₃ =
            answer-is (carried_out i j x store call) a e₁ (e₂ ∙ s.state_is) (e₃ ∙ s.store_is)
