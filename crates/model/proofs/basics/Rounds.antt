-- Counting queues up and wrapping: d queues on from q is q + d, taken modulo Q (`onward-is`), so that every queue comes
-- within a round (`reach`); and the first of some queues of which a test holds is no later than any of which it holds
-- (`found`), with none before it (`first_at`).
use mathlib.Core.Path.{◌≡◌, refl, ap, sym, ◌∙◌, subst}
use mathlib.Core.Bool.{Bool, true, false}
use mathlib.Core.Option.{some, none}
use Prim.Native.Nat.{ℕ, zero, suc, ◌+◌, ◌-◌, ◌%◌, ◌<◌, ◌≤◌}
use native.Mathlib.Nat.{mod-eq_of_lt, add-mod_right}
use native.Mathlib.Omega.{arith}
use lib.Dec.{ltb}
use borrow.Author.Tests.{ltb-true, ltb-false, lt-ltb, le-ltb}
use Rattle.model.specs.Basics.{choose}
use Rattle.model.specs.Arbiter.{queue_after, first_from}
use Rattle.model.proofs.basics.Tests.{by_test, some_inj, none_not_some}

-- d queues on from q.
abbrev pub onward : ℕ → ℕ → ℕ → ℕ
onward Q zero q = q
onward Q (suc d) q = onward Q d (queue_after Q q)

pub onward-add : (Q d e q : ℕ) → onward Q (d + e) q ≡ onward Q e (onward Q d q)
onward-add Q zero e q = ap (λ (n : ℕ). onward Q n q) (let z : 0 + e ≡ e = omega arith in z)
onward-add Q (suc d) e q =
    ap (λ (n : ℕ). onward Q n q) (let z : suc d + e ≡ suc (d + e) = omega arith in z)
    ∙ onward-add Q d e (queue_after Q q)

next_wraps : (Q q : ℕ) → suc q ≡ Q → queue_after Q q ≡ 0
next_wraps Q q e = rw (le-ltb (suc q) Q (omega (arith, e)))

next_up : (Q q : ℕ) → suc q < Q → queue_after Q q ≡ suc q
next_up Q q l = rw (lt-ltb (suc q) Q l)

pub next_below : (Q q : ℕ) → 1 ≤ Q → queue_after Q q < Q
next_below Q q l =
    by_test (ltb (suc q) Q)
    (λ t. rw t (ltb-true (suc q) Q t))
    (λ t. rw t (omega (arith, l)))

pub onward-is : (Q d q : ℕ) → q < Q → onward Q d q ≡ (q + d) % Q
onward-is Q zero q l = sym (ap (λ (n : ℕ). n % Q) (let e : q + 0 ≡ q = omega arith in e) ∙ mod-eq_of_lt l)
onward-is Q (suc d) q l =
    by_test (ltb (suc q) Q)
    (λ t. ap (onward Q d) (next_up Q q (ltb-true (suc q) Q t))
    ∙ onward-is Q d (suc q) (ltb-true (suc q) Q t)
    ∙ ap (λ (n : ℕ). n % Q) (let e : suc q + d ≡ q + suc d = omega arith in e))
    (λ t. ap (onward Q d) (next_wraps Q q (omega (arith, l, ltb-false (suc q) Q t)))
    ∙ onward-is Q d 0 (omega (arith, l))
    ∙ ap (λ (n : ℕ). n % Q) (let e : 0 + d ≡ d = omega arith in e)
    ∙ sym (add-mod_right d Q)
    ∙ ap (λ (n : ℕ). n % Q) (let e : d + Q ≡ q + suc d = omega (arith, l, ltb-false (suc q) Q t) in e))

-- Every queue comes within a round.
up : (Q d q : ℕ) → q + d < Q → onward Q d q ≡ q + d
up Q d q l = onward-is Q d q (omega arith) ∙ mod-eq_of_lt l

pub record Reached (Q start q : ℕ) : Type 0 where
  pub steps : ℕ
  pub few : steps < Q
  pub is_there : onward Q steps start ≡ q

pub reach : (Q start q : ℕ) → start < Q → q < Q → Reached Q start q
reach Q start q l m =
    by_test (ltb q start)
    (λ t. wrapped (ltb-true q start t))
    (λ t. record {
      steps = q - start;
      few = omega (arith, m);
      is_there =
          up Q (q - start) start (omega (arith, m, ltb-false q start t))
          ∙ (let e : start + (q - start) ≡ q = omega (arith, ltb-false q start t) in e);
    })
  where
    wrapped : q < start → Reached Q start q
    wrapped h = record {
      steps = Q + q - start;
      few = omega (arith, h, l);
      is_there =
          onward-is Q (Q + q - start) start l
          ∙ ap (λ (n : ℕ). n % Q) (let e : start + (Q + q - start) ≡ q + Q = omega (arith, h, l) in e)
          ∙ add-mod_right q Q
          ∙ mod-eq_of_lt m;
    }

-- The first queue found is no later than one of which the test holds.
pub record Found (Q : ℕ) (test : ℕ → Bool) (n start d : ℕ) : Type 0 where
  pub place : ℕ
  pub no_later : place ≤ d
  pub found-is : first_from Q test n start ≡ some (onward Q place start)

pub found : (Q : ℕ) (test : ℕ → Bool) (n start d : ℕ) → d < n → test (onward Q d start) ≡ true
    → Found Q test n start d
found Q test zero start d l t = absurd (omega arith)
found Q test (suc n) start zero l t = record { place = 0; no_later = omega arith; found-is = rw t }
found Q test (suc n) start (suc d) l t =
    by_test (test start)
    (λ u. record { place = 0; no_later = omega arith; found-is = rw u })
    (λ u. let f = found Q test n (queue_after Q start) d (omega arith) t in record {
      place = suc f.place;
      no_later = omega (arith, f.no_later);
      found-is = ap (λ (b : Bool). choose b (some start) (first_from Q test n (queue_after Q start))) u ∙ f.found-is;
    })

-- It is the first: the test holds of it, and of none before it. Where there is none, it holds of none at all.
pub record FirstAt (Q : ℕ) (test : ℕ → Bool) (n start q : ℕ) : Type 0 where
  pub place : ℕ
  pub in_reach : place < n
  pub is_there : q ≡ onward Q place start
  pub holds : test q ≡ true
  pub none_before : (d : ℕ) → d < place → test (onward Q d start) ≡ false

pub first_at : (Q : ℕ) (test : ℕ → Bool) (n start q : ℕ) → first_from Q test n start ≡ some q
    → FirstAt Q test n start q
first_at Q test zero start q e = absurd (none_not_some q e)
first_at Q test (suc n) start q e =
    by_test (test start) here (λ u. later u (first_at Q test n (queue_after Q start) q (look u)))
  where
    look : {b : Bool} → test start ≡ b → choose b (some start) (first_from Q test n (queue_after Q start)) ≡ some q
    look u = sym (ap (λ (c : Bool). choose c (some start) (first_from Q test n (queue_after Q start))) u) ∙ e

    here : test start ≡ true → FirstAt Q test (suc n) start q
    here u = record {
      place = 0;
      in_reach = omega arith;
      is_there = sym (some_inj start q (look u));
      holds = subst (λ (p : ℕ). test p ≡ true) (some_inj start q (look u)) u;
      none_before = λ d l. absurd (omega arith);
    }

    later : test start ≡ false → FirstAt Q test n (queue_after Q start) q → FirstAt Q test (suc n) start q
    later u f = record {
      place = suc f.place;
      in_reach = omega (arith, f.in_reach);
      is_there = f.is_there;
      holds = f.holds;
      none_before = before;
    }
      where
        before : (d : ℕ) → d < suc f.place → test (onward Q d start) ≡ false
        before zero l = u
        before (suc d) l = f.none_before d (omega arith)

pub first_none : (Q : ℕ) (test : ℕ → Bool) (n start d : ℕ) → first_from Q test n start ≡ none → d < n
    → test (onward Q d start) ≡ false
first_none Q test n start d e l =
    by_test (test (onward Q d start))
    (λ t. absurd (let f = found Q test n start d l t in none_not_some _ (sym e ∙ f.found-is)))
    (λ t. t)

pub none_found : (Q : ℕ) (test : ℕ → Bool) (n start : ℕ) → start < Q → ((q : ℕ) → q < Q → test q ≡ false)
    → first_from Q test n start ≡ none
none_found Q test zero start l f = refl
none_found Q test (suc n) start l f =
    ap (λ (b : Bool). choose b (some start) (first_from Q test n (queue_after Q start))) (f start l)
    ∙ none_found Q test n (queue_after Q start) (next_below Q start (omega (arith, l))) f

-- It is one of the Q, and tests that agree on those find the same.
pub first_below : (Q : ℕ) (test : ℕ → Bool) (n start q : ℕ) → start < Q → first_from Q test n start ≡ some q → q < Q
first_below Q test zero start q l e = absurd (none_not_some q e)
first_below Q test (suc n) start q l e =
    by_test (test start)
    (λ t. subst (λ (p : ℕ). p < Q) (some_inj start q (sym (look t) ∙ e)) l)
    (λ t. first_below Q test n (queue_after Q start) q (next_below Q start (omega (arith, l))) (sym (look t) ∙ e))
  where
    look : {b : Bool} → test start ≡ b
        → first_from Q test (suc n) start ≡ choose b (some start) (first_from Q test n (queue_after Q start))
    look u = ap (λ (c : Bool). choose c (some start) (first_from Q test n (queue_after Q start))) u

pub first_alike : (Q : ℕ) (test other : ℕ → Bool) (n start : ℕ) → start < Q
    → ((q : ℕ) → q < Q → test q ≡ other q) → first_from Q test n start ≡ first_from Q other n start
first_alike Q test other zero start l f = refl
first_alike Q test other (suc n) start l f =
    ap (λ (b : Bool). choose b (some start) (first_from Q test n (queue_after Q start))) (f start l)
    ∙ ap (choose (other start) (some start))
    (first_alike Q test other n (queue_after Q start) (next_below Q start (omega (arith, l))) f)
