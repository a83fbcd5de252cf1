-- How long a queue waits for the round robin arbiter, over the ideal buffer alone: a queue d places on is asked d slots
-- later at most. For where it is not asked, the arbiter asked one that comes before it, so that it is fewer places on;
-- and its front byte stays the front. `served_soon` says it, with Q - 1 for d.
use mathlib.Core.Path.{◌≡◌, ap, sym, ◌∙◌}
use mathlib.Core.Bool.{Bool, true, false}
use mathlib.Core.List.{List, [], ◌∷◌}
use mathlib.Core.Option.{Option, some, none}
use Prim.Native.Nat.{ℕ, zero, suc, ◌+◌, ◌-◌, ◌<◌, ◌≤◌}
use native.Mathlib.Omega.{arith}
use lib.Dec.{eqb, ltb}
use lib.ListN.{length, drop, get_or, get_elem?}
use borrow.Author.Tests.{eqb-true, eq-eqb, ltb-true, ltb-false, lt-ltb}
use Rattle.model.specs.Basics.{choose}
use Rattle.model.specs.State.{byte, values_of}
use Rattle.model.specs.Slot.{as_byte, arriving}
use Rattle.model.specs.Lists.{Step, asks, request_at}
use Rattle.model.specs.Arbiter.{queue_after, first_from, last_after}
use Rattle.model.specs.Ideal.{waiting_with, next_byte_of}
use Rattle.model.proofs.basics.Tests.{by_test, some_inj, true_not_false, eqb_same}
use Rattle.model.proofs.basics.Rounds.{onward, onward-add, next_below, reach, Found, found}
use Rattle.model.proofs.delay.Line.{first_append}
use Rattle.model.proofs.delay.Delay.{left_waiting, gives}

-- Slots of the ideal buffer whose requests the arbiter chose, from these waiting bytes and this last one asked on.
abbrev pub waits : (ℕ → List ℕ) → Step → ℕ → Bool
waits w step q = ltb 0 (length (waiting_with w step.arrival q))

pub data ChosenSlots (Q : ℕ) : (ℕ → List ℕ) → ℕ → List Step → Type 0 where
  none_chosen : {w : ℕ → List ℕ} {last : ℕ} → ChosenSlots Q w last []
  one_chosen : {w : ℕ → List ℕ} {last : ℕ} {step : Step} {slots : List Step}
      → step.request ≡ first_from Q (waits w step) Q (queue_after Q last)
      → ChosenSlots Q (left_waiting w step) (last_after 0 step.request last) slots
      → ChosenSlots Q w last (step ∷ slots)

-- v is the front byte of q in the first of these slots, if there is one.
abbrev pub FrontNow : (ℕ → List ℕ) → List Step → ℕ → ℕ → Type 0
FrontNow w [] q v = Unit {0}
FrontNow w (step ∷ slots) q v = get_elem? (waiting_with w step.arrival q) 0 ≡ some v

pub record Served (w : ℕ → List ℕ) (slots : List Step) (d q v : ℕ) : Type 0 where
  pub wait : ℕ
  pub within : wait ≤ d
  pub asked : wait < length slots → request_at slots wait ≡ some q
  pub not_before : (t : ℕ) → t < wait → request_at slots t ≡ some q → ⊥
  pub gives_it : wait < length slots → get_or (gives w slots) wait none ≡ some (byte q v)

pub front_there : (l : List ℕ) (v : ℕ) → get_elem? l 0 ≡ some v → ltb 0 (length l) ≡ true
front_there [] v e = absurd (let z : ◌≡◌ {A = ℕ} 0 1 = cc in omega arith)
front_there (x ∷ l) v e = lt-ltb 0 (suc (length l)) (omega arith)

-- The front byte stays the front until its queue is asked.
front_stays : (w : ℕ → List ℕ) (step : Step) (slots : List Step) (q v c : ℕ) → step.request ≡ some c
    → eqb c q ≡ false → get_elem? (waiting_with w step.arrival q) 0 ≡ some v
    → FrontNow (left_waiting w step) slots q v
front_stays w step [] q v c r u e = tt
front_stays w step (next ∷ slots) q v c r u e =
    first_append (left_waiting w step q) (values_of q (arriving next.arrival))
    (omega (
      arith,
      ap length same,
      ltb-true 0 (length (waiting_with w step.arrival q)) (front_there (waiting_with w step.arrival q) v e),
    ))
    ∙ ap (λ (l : List ℕ). get_elem? l 0) same ∙ e
  where
    same : left_waiting w step q ≡ waiting_with w step.arrival q
    same =
        ap (λ (o : Option ℕ). drop (asks q o) (waiting_with w step.arrival q)) r
        ∙ ap (λ (b : Bool). drop (choose b 1 0) (waiting_with w step.arrival q)) u

-- One slot: its queue is asked, or the arbiter comes nearer.
module _ (Q d : ℕ) (w : ℕ → List ℕ) (last : ℕ) (step : Step) (slots : List Step) (q v : ℕ) (m : d < Q)
    (there : onward Q d (queue_after Q last) ≡ q) (r : step.request ≡ first_from Q (waits w step) Q (queue_after Q last))
    (front : FrontNow w (step ∷ slots) q v)
    (on : (e : ℕ) → e < Q → onward Q e (queue_after Q (last_after 0 step.request last)) ≡ q
    → FrontNow (left_waiting w step) slots q v → Served (left_waiting w step) slots e q v) where
  near : Found Q (waits w step) Q (queue_after Q last) d
  near = found Q (waits w step) Q (queue_after Q last) d m
      (ap (waits w step) there ∙ front_there (waiting_with w step.arrival q) v front)

  abbrev c : ℕ
  c = onward Q near.place (queue_after Q last)

  asks-c : step.request ≡ some c
  asks-c = r ∙ near.found-is

  asked-now : eqb c q ≡ true → Served w (step ∷ slots) d q v
  asked-now t = record {
    wait = 0;
    within = omega arith;
    asked = λ z. asks-q;
    not_before = λ t l. absurd (omega arith);
    gives_it = λ z. ap (next_byte_of (waiting_with w step.arrival)) asks-q ∙ ap (as_byte q) front;
  }
    where
      asks-q : step.request ≡ some q
      asks-q = asks-c ∙ ap some (eqb-true c q t)

  nearer : eqb c q ≡ false → near.place < d
  nearer u =
      by_test (ltb near.place d)
      (λ t. ltb-true near.place d t)
      (λ t. absurd (not-q (omega (arith, near.no_later, ltb-false near.place d t))))
    where
      not-q : near.place ≡ d → ⊥
      not-q e =
          true_not_false (eqb c q)
          (ap (λ (n : ℕ). eqb (onward Q n (queue_after Q last)) q) e ∙ ap (λ (n : ℕ). eqb n q) there ∙ eqb_same q) u

  asked-later : eqb c q ≡ false → Served w (step ∷ slots) d q v
  asked-later u =
      let s = on less (omega (arith, m)) still (front_stays w step slots q v c asks-c u front) in record {
        wait = suc s.wait;
        within = omega (arith, s.within, nearer u);
        asked = λ z. s.asked (omega (arith, z));
        not_before = before s;
        gives_it = λ z. s.gives_it (omega (arith, z));
      }
    where
      less : ℕ
      less = d - suc near.place

      before : {e : ℕ} (s : Served (left_waiting w step) slots e q v) (t : ℕ) → t < suc s.wait
          → request_at (step ∷ slots) t ≡ some q → ⊥
      before s zero l e =
          true_not_false (eqb c q) (eq-eqb c q (some_inj c q (sym asks-c ∙ e))) u
      before s (suc t) l e = s.not_before t (omega arith) e

      still : onward Q less (queue_after Q (last_after 0 step.request last)) ≡ q
      still =
          ap (λ (o : Option ℕ). onward Q less (queue_after Q (last_after 0 o last))) asks-c
          ∙ sym (onward-add Q (near.place + 1) less (queue_after Q last)
          ∙ ap (onward Q less) (onward-add Q near.place 1 (queue_after Q last)))
          ∙ ap (λ (n : ℕ). onward Q n (queue_after Q last))
          (let z : near.place + 1 + less ≡ d = omega (arith, nearer u) in z)
          ∙ there

  served_from_here : Served w (step ∷ slots) d q v
  served_from_here = by_test (eqb c q) asked-now asked-later

served : (Q : ℕ) {w : ℕ → List ℕ} {last : ℕ} {slots : List Step} (d q v : ℕ) → d < Q
    → onward Q d (queue_after Q last) ≡ q → ChosenSlots Q w last slots → FrontNow w slots q v → Served w slots d q v
served Q d q v m there none_chosen front = record {
  wait = 0;
  within = omega arith;
  asked = λ z. absurd (omega (arith, z));
  not_before = λ t l. absurd (omega (arith, l));
  gives_it = λ z. absurd (omega (arith, z));
}
served Q d q v m there (one_chosen {w = w} {last = last} {step = step} {slots = slots} r rest) front =
    served_from_here Q d w last step slots q v m there r front
    (λ e k still stays. served Q e q v k still rest stays)

-- Within a round.
pub served_soon : (Q : ℕ) {w : ℕ → List ℕ} {last : ℕ} {slots : List Step} (q v : ℕ) → last < Q → q < Q
    → ChosenSlots Q w last slots → FrontNow w slots q v → Served w slots (Q - 1) q v
served_soon Q {w} {last} {slots} q v k h chosen front =
    let r = reach Q (queue_after Q last) q (next_below Q last (omega (arith, k))) h in
    let s = served Q r.steps q v r.few r.is_there chosen front in record {
      wait = s.wait;
      within = omega (arith, s.within, r.few);
      asked = s.asked;
      not_before = s.not_before;
      gives_it = s.gives_it;
    }
