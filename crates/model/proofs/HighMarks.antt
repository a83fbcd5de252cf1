-- A high mark is the greatest fill that was looked at: an accepted slot raises it to the new fill where that is
-- greater, a refused one leaves the state as it came, and a fresh state's marks are 0. `marks_exact` says it.
use mathlib.Core.Path.{◌≡◌, refl, ap, ◌∙◌}
use mathlib.Core.Bool.{Bool}
use mathlib.Core.List.{List, ◌∷◌}
use mathlib.Core.Option.{Option, none}
use Prim.Native.Nat.{ℕ, suc, ◌≤◌, max}
use native.Mathlib.Omega.{arith}
use lib.ListN.{length, length-append}
use borrow.Author.Tests.{ne_eqb}
use Rattle.model.specs.Basics.{choose}
use Rattle.model.specs.Sizes.{Sizes, Design}
use Rattle.model.specs.State.{Byte, State, fresh}
use Rattle.model.specs.Slot.{Call, oldest_cell, arriving, tail_left, swaps, early_arrival, late_arrival, joined}
use Rattle.model.specs.Slot.{asked, head_read, wrote, wrote_store, halves_taken, Answer, carried_out}
use Rattle.model.specs.Slot.{slot}
use Rattle.model.specs.Lists.{Step, joined_fill_of, step_of, run, last_state, list_of, accepted}
use Rattle.model.specs.Arbiter.{noting}
use Rattle.model.specs.Chains.{Chain}
use Rattle.model.specs.HighMarks.{greatest, tail_looks, head_looks, GreatestFills, MarksRise, MarksExact}
use Rattle.model.proofs.basics.Tests.{by_test}
use Rattle.model.proofs.meaning.Steps.{tail_looked_at}
use Rattle.model.proofs.one_slot.StepsKeepRules.{length-tail_left}
use Rattle.model.proofs.one_slot.Swap.{early_is_none, late_is_none}
use Rattle.model.proofs.one_slot.Accepted.{RefusedOrAccepted, was_refused, was_accepted, outcome}
use Rattle.model.proofs.one_slot.Kept.{length-head_without}
use Rattle.model.proofs.one_slot.Chains.{Links, no_link, link, links, run-chain}

-- Request 2.8: "On a handed-in state the mark is the greater of the old one and the new fill." Of a state that keeps
-- the rules, since the mark of such a state is at least its fill already. (Of the head it is `head_mark_rises`, in
-- proofs/meaning/Steps.)
pub tail_mark_rises : (x : State) (store : List ℕ) (call : Call) → length x.tail ≤ x.tail_mark
    → (carried_out 0 0 x store call).state.tail_mark ≡ max x.tail_mark (joined_fill_of 0 x call)
tail_mark_rises x store call h =
    by_test (swaps x call.arrival call.request)
    (λ t. omega (
      arith,
      h,
      length-append x.tail (arriving (early_arrival x call)),
      ap (λ (a : Option Byte). length (arriving a)) (early_is_none x call t),
      looked_at t,
    ))
    (λ t. omega (
      arith,
      length-append (tail_left (joined x call) call.request) (arriving (late_arrival x call)),
      ap (λ (a : Option Byte). length (arriving a)) (late_is_none x call t),
      length-tail_left (joined x call) call.request,
      looked_at t,
    ))
  where
    looked_at : {t : Bool} → swaps x call.arrival call.request ≡ t
        → joined_fill_of 0 x call ≡ length (choose t (asked x call).tail (joined x call).tail)
    looked_at e = ap (λ (b : Bool). length (choose b (asked x call).tail (joined x call).tail)) e

module _ (design : Design) where
  -- One slot, and then what the rest of the chain does.
  marks_more : (x : State) (store : List ℕ) (call : Call) (a : Answer) (noted : ℕ) (rest : List Step) (y : State)
      → RefusedOrAccepted design x store call a → MarksRise (noting noted a).state (accepted rest) y
      → MarksRise x (accepted (step_of x store call (noting noted a) ∷ rest)) y
  marks_more x store call a noted rest y (was_refused n e) m = record {
    tail_mark = rw (ne_eqb (suc n) 0 (λ z. omega arith)) m.tail_mark;
    head_mark = rw (ne_eqb (suc n) 0 (λ z. omega arith)) m.head_mark;
  }
  marks_more x store call a noted rest y (was_accepted f) m = record {
    tail_mark = m.tail_mark
        ∙ ap (λ (n : ℕ). max n (greatest (tail_looks (accepted rest))))
        (tail_mark_rises x store (halves_taken x call) f.judged.kept.tail_mark.0)
        ∙ max_assoc _ _ (greatest (tail_looks (accepted rest)));
    head_mark = m.head_mark ∙ max_assoc _ _ (greatest (head_looks (accepted rest)));
  }
    where
      max_assoc : (l m n : ℕ) → max (max l m) n ≡ max l (max m n)
      max_assoc l m n = omega arith

  marks_rise : {x : State} {store : List ℕ} {steps : List Step} {last : State} → Links design x store steps last
      → MarksRise x (accepted steps) last
  marks_rise no_link = record { tail_mark = omega arith; head_mark = omega arith }
  marks_rise (link {x = x} {store = store} {steps = steps} {last = last} call noted below c) =
      marks_more x store call (slot design x store call) noted steps last (outcome design x store call) (marks_rise c)

  list_marks : (x : State) (store : List ℕ) (calls : List Call)
      → MarksRise x (accepted (run design x store calls)) (last_state design x store calls)
  list_marks x store calls = marks_rise (links design (run-chain design x store calls))

  chain_since_fresh : (s : Sizes) (store : List ℕ) (steps : List Step) (last : State)
      → Chain design (fresh design s) store steps last → GreatestFills (accepted steps) last
  chain_since_fresh s store steps last c =
      let m = marks_rise (links design c) in record {
        tail_mark = omega (arith, m.tail_mark);
        head_mark = omega (arith, m.head_mark);
      }

  since_fresh : (s : Sizes) (store : List ℕ) (calls : List Call)
      → GreatestFills (accepted (list_of design s store calls)) (last_state design (fresh design s) store calls)
  since_fresh s store calls = chain_since_fresh s store _ _ (run-chain design (fresh design s) store calls)

  -- When a mark stays.
  module _ (x : State) (store : List ℕ) (call : Call) where
    abbrev left : Call
    left = halves_taken x call

    no_arrival : left.arrival ≡ none → (slot design x store call).state.tail_mark ≡ x.tail_mark
    no_arrival e = go (slot design x store call) (outcome design x store call)
      where
        joins_none : joined_fill_of 0 x left ≡ length x.tail
        joins_none =
            omega (
              arith,
              tail_looked_at x left (ap (λ o. swaps x o left.request) e),
              ap (λ o. length (arriving o)) e,
            )

        go : (a : Answer) → RefusedOrAccepted design x store call a → a.state.tail_mark ≡ x.tail_mark
        go a (was_refused n r) = refl
        go a (was_accepted f) =
            omega (
              arith,
              tail_mark_rises x store left f.judged.kept.tail_mark.0,
              joins_none,
              f.judged.kept.tail_mark,
            )

    no_read : (slot design x store call).reply.read ≡ none → (slot design x store call).state.head_mark ≡ x.head_mark
    no_read e = go (slot design x store call) (outcome design x store call) e
      where
        go : (a : Answer) → RefusedOrAccepted design x store call a → a.reply.read ≡ none
            → a.state.head_mark ≡ x.head_mark
        go a (was_refused n r) e = refl
        go a (was_accepted f) e =
            omega (
              arith,
              ap (λ o. length (head_read o (wrote x left) (wrote_store x store left))) e,
              length-head_without (oldest_cell x.cells) x.head,
              f.judged.kept.head_mark,
            )

    refused : ((slot design x store call).reply.number ≡ 0 → ⊥)
        → ((slot design x store call).state.tail_mark ≡ x.tail_mark)
        × ((slot design x store call).state.head_mark ≡ x.head_mark)
    refused = go (slot design x store call) (outcome design x store call)
      where
        go : (a : Answer) → RefusedOrAccepted design x store call a → (a.reply.number ≡ 0 → ⊥)
            → (a.state.tail_mark ≡ x.tail_mark) × (a.state.head_mark ≡ x.head_mark)
        go a (was_refused n r) other = (refl, refl)
        go a (was_accepted f) other = absurd (other refl)

pub marks_exact : (design : Design) → MarksExact design
marks_exact design = record {
  since_fresh = since_fresh design;
  every_chain = chain_since_fresh design;
  from_any_state = list_marks design;
  no_arrival = no_arrival design;
  no_read = no_read design;
  refused = refused design;
}
