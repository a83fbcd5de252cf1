-- What the tests of the choice have found, as the figures say it: whether an arrival counts, whether a queue can be
-- asked, and what is left to look at.
use mathlib.Core.Path.{◌≡◌, refl, ap, sym, ◌∙◌}
use mathlib.Core.Bool.{Bool, true, false, ◌||◌}
use mathlib.Core.List.{List, []}
use mathlib.Core.Option.{Option, some, none}
use Prim.Native.Nat.{ℕ, suc, ◌+◌, ◌-◌, ◌<◌}
use lib.Dec.{ltb}
use native.Mathlib.Omega.{arith}
use Rattle.model.specs.Basics.{choose}
use Rattle.model.specs.State.{Byte}
use Rattle.model.specs.Arbiter.{queue_after, first_from}
use Rattle.model.proofs.basics.Rounds.{next_below}
use Rattle.layout.specs.Counts.{by_queue}
use Rattle.layout.specs.Figures.{Figures, figures_in}
use Rattle.layout.specs.declared.Regs.{Regs}
use Rattle.slot_refusals.specs.Says.{owes_now, arrives_at}
use Rattle.arbiter_choice.specs.Says.{counted_now, can_ask_now, choice_now}

module _ (f : Figures) (counted : Option Byte) (q : ℕ) where
  pub owed_asks : true ≡ owes_now f (some q) → true ≡ can_ask_now f counted q
  owed_asks e = ap (λ (b : Bool). b || (ltb 0 (f.tails q) || arrives_at counted q)) e

  pub tail_asks : false ≡ owes_now f (some q) → ltb 0 (f.tails q) ≡ true → true ≡ can_ask_now f counted q
  tail_asks e l =
      sym (ap (λ (b : Bool). b || arrives_at counted q) l)
      ∙ ap (λ (b : Bool). b || (ltb 0 (f.tails q) || arrives_at counted q)) e

  pub arrival-asks : false ≡ owes_now f (some q) → ltb 0 (f.tails q) ≡ false
      → arrives_at counted q ≡ can_ask_now f counted q
  arrival-asks e l =
      sym (ap (λ (b : Bool). b || arrives_at counted q) l)
      ∙ ap (λ (b : Bool). b || (ltb 0 (f.tails q) || arrives_at counted q)) e

-- An arrival counts by tail bytes and blocks alone.
pub counted_by_tails : (regs : Regs) (tails heads owing stored : List ℕ) (arrival : Option Byte)
    → counted_now (figures_in regs (by_queue tails [] []) stored) arrival
    ≡ counted_now (figures_in regs (by_queue tails heads owing) stored) arrival
counted_by_tails regs tails heads owing stored none = refl
counted_by_tails regs tails heads owing stored (some y) = refl

-- Behind the first i queues that are looked at, what is to be found from q on is what was to be found among all.
abbrev found_of : Figures → ℕ → Option Byte → Option ℕ
found_of f last counted = first_from f.sizes.Q (can_ask_now f counted) f.sizes.Q (queue_after f.sizes.Q last)

pub record LooksOn (f : Figures) (last : ℕ) (counted : Option Byte) (q i : ℕ) : Type 0 where
  pub below : q < f.sizes.Q
  pub same : first_from f.sizes.Q (can_ask_now f counted) (f.sizes.Q - i) q ≡ found_of f last counted

module _ (f : Figures) (last : ℕ) (arrival counted : Option Byte) where
  abbrev test : ℕ → Bool
  test q = can_ask_now f counted q

  tested : (i q : ℕ) → i < f.sizes.Q → {t : Bool} → t ≡ test q
      → choose t (some q) (first_from f.sizes.Q test (f.sizes.Q - (i + 1)) (queue_after f.sizes.Q q))
      ≡ first_from f.sizes.Q test (f.sizes.Q - i) q
  tested i q l t =
      ap (λ (b : Bool). choose b (some q) (first_from f.sizes.Q test (f.sizes.Q - (i + 1)) (queue_after f.sizes.Q q))) t
      ∙ ap (λ (n : ℕ). first_from f.sizes.Q test n q)
      (let e : suc (f.sizes.Q - (i + 1)) ≡ f.sizes.Q - i = omega (arith, l) in e)

  -- It is this one, or one of the rest.
  pub looks_here : counted ≡ counted_now f arrival → {q i : ℕ} → i < f.sizes.Q → true ≡ test q
      → LooksOn f last counted q i → some q ≡ choice_now f last arrival
  looks_here e {q} {i} l t v = tested i q l t ∙ v.same ∙ ap (found_of f last) e

  pub looks_on : {q i p : ℕ} → i < f.sizes.Q → false ≡ test q → p ≡ queue_after f.sizes.Q q → LooksOn f last counted q i
      → LooksOn f last counted p (i + 1)
  looks_on {q} {i} l t e v = record {
    below = rw e (next_below f.sizes.Q q (omega (arith, v.below)));
    same = ap (first_from f.sizes.Q test (f.sizes.Q - (i + 1))) e ∙ tested i q l t ∙ v.same;
  }
