-- The delay equation, read slot by slot: place t + L of the deliveries is what slot t's request is owed, and the
-- first L places are nothing. `sentences` says it.
use mathlib.Core.Path.{◌≡◌, ap, ◌∙◌}
use mathlib.Core.List.{List, [], ◌∷◌, ◌++◌}
use mathlib.Core.Option.{Option, none}
use Prim.Native.Nat.{ℕ, zero, suc, ◌+◌, ◌<◌, ◌≤◌}
use native.Mathlib.Omega.{arith}
use lib.Dec.{ltb}
use lib.ListN.{length, take, replicate, get_or, length-replicate, length-take, length-append, get_or-replicate}
use lib.ListN.{get_or-append, get_or-eq_default}
use lib.Seq.{get_or-take, get_or-append-add}
use borrow.Author.Tests.{ltb-true, ltb-false}
use Rattle.model.specs.Basics.{tabulate}
use Rattle.model.specs.Sizes.{Sizes, lookahead}
use Rattle.model.specs.State.{Byte, values_of}
use Rattle.model.specs.Slot.{as_byte, arriving}
use Rattle.model.specs.Lists.{Step, deliveries, arrivals_of, requests_of, due_to, due_at}
use Rattle.model.specs.Demand.{FixedDelay, Sentences}
use Rattle.model.proofs.basics.Tests.{by_test}
use Rattle.model.proofs.basics.AllOf.{tabulate-at}
use Rattle.model.proofs.delay.Line.{element_at}

-- The first L places of a line, and the places after them, of what is cut to n places.
module _ (L n : ℕ) (owed : ℕ → Option Byte) where
  abbrev line : List (Option Byte)
  line = take n (replicate L none ++ tabulate n owed)

  abbrev nothing : Option Byte
  nothing = none

  pub line_later : (t : ℕ) → t + L < n → get_or line (t + L) none ≡ owed t
  line_later t l =
      get_or-take n (replicate L none ++ tabulate n owed) (t + L) none l
      ∙ ap (λ (i : ℕ). get_or (replicate L none ++ tabulate n owed) i none)
      (let e : t + L ≡ length (replicate L nothing) + t = omega (arith, length-replicate L nothing) in e)
      ∙ get_or-append-add (replicate L none) (tabulate n owed) t none
      ∙ tabulate-at n owed t none (omega arith)

  pub line_first : (t : ℕ) → t < L → get_or line t none ≡ none
  line_first t l =
      by_test (ltb t n)
      (λ u. get_or-take n (replicate L none ++ tabulate n owed) t none (ltb-true t n u)
      ∙ get_or-append (replicate L none) (tabulate n owed) none t (omega (arith, length-replicate L nothing))
      ∙ get_or-replicate L t none none l)
      (λ u. get_or-eq_default line none {n = t}
      (omega (arith, ltb-false t n u, length-take n (replicate L none ++ tabulate n owed))))

arrivals-grow : (q n : ℕ) (slots : List Step) → length (arrivals_of q (take n slots)) ≤ length (arrivals_of q slots)
arrivals-grow q zero slots = omega arith
arrivals-grow q (suc n) [] = omega arith
arrivals-grow q (suc n) (step ∷ slots) =
    omega (
      arith,
      arrivals-grow q n slots,
      length-append (values_of q (arriving step.arrival))
          (arrivals_of q (take n slots)),
      length-append (values_of q (arriving step.arrival)) (arrivals_of q slots),
    )

pub sentences : (s : Sizes) (slots : List Step) → FixedDelay s slots → Sentences s slots
sentences s slots m = record {
  answered = λ t q r l.
      let there = element_at (arrivals_of q slots) (requests_of q (take t slots))
      (omega (arith, m.in_time t q r, arrivals-grow q (t + 1) slots)) in (
        there.0,
        there.1,
        at t l ∙ ap (due_to slots t) r ∙ ap (as_byte q) there.1,
      );
  silent = λ t r l. at t l ∙ ap (due_to slots t) r;
  quiet_start = λ t l.
      ap (λ (d : List (Option Byte)). get_or d t none) m.delay
      ∙ line_first (lookahead s) (length slots) (due_at slots) t l;
}
  where
    at : (t : ℕ) → t + lookahead s < length slots → get_or (deliveries slots) (t + lookahead s) none ≡ due_at slots t
    at t l =
        ap (λ (d : List (Option Byte)). get_or d (t + lookahead s) none) m.delay
        ∙ line_later (lookahead s) (length slots) (due_at slots) t l
