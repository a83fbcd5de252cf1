-- The fixed delay. The accepted slots of a chain are slots of the ideal buffer, whose line is a delay line: what its
-- slots deliver is the line as it stood and then what each request was given; and what a request was given is what is
-- due to it. All of it holds from every state that keeps the rules, for any number of cells. `chain_delays`,
-- `given-is_due` and `arrived_since_fresh` say it.
use mathlib.Core.Path.{◌≡◌, refl, ap, sym, ◌∙◌, fun_ext, subst}
use mathlib.Core.List.{List, [], ◌∷◌, ◌++◌, append_assoc}
use mathlib.Core.Option.{Option, some, none}
use Prim.Native.Nat.{ℕ, zero, suc, ◌+◌, ◌<◌, ◌≤◌}
use native.Mathlib.Omega.{arith}
use lib.ListN.{length, drop, take, get_elem?, length-append, length-drop}
use lib.Seq.{drop-append-le, append_snoc}
use borrow.Author.Tests.{ne_eqb}
use Rattle.model.specs.Basics.{tabulate}
use Rattle.model.specs.Sizes.{Design}
use Rattle.model.specs.State.{Byte, State, values_of}
use Rattle.model.specs.Slot.{Call, as_byte, arriving, halves_taken, Answer, accept, slot}
use Rattle.model.specs.Lists.{Step, step_of, accepted, deliveries, arrivals_of, asks, requests_of, request_at, due_to}
use Rattle.model.specs.Arbiter.{noting}
use Rattle.model.specs.Ideal.{Ideal, soonest, waiting_with, next_byte_of, ideal_slot, stands_for, stream, IsIdealSlot}
use Rattle.model.proofs.basics.Tests.{eqb_same, none_not_some}
use Rattle.model.proofs.one_slot.Rules.{Keeps, keeps-noted}
use Rattle.model.proofs.one_slot.Accepted.{RefusedOrAccepted, was_refused, was_accepted, outcome}
use Rattle.model.proofs.one_slot.Kept.{slot_kept}
use Rattle.model.proofs.one_slot.Chains.{Links, no_link, link}
use Rattle.model.proofs.delay.Line.{line_length, first_append}
use Rattle.model.proofs.delay.IdealSlot.{accepted-is_ideal}

-- What the ideal buffer gives to each request of a list of slots, and that it has a byte for each.
abbrev pub left_waiting : (ℕ → List ℕ) → Step → ℕ → List ℕ
left_waiting w step q = drop (asks q step.request) (waiting_with w step.arrival q)

abbrev pub gives : (ℕ → List ℕ) → List Step → List (Option Byte)
gives w [] = []
gives w (step ∷ slots) = next_byte_of (waiting_with w step.arrival) step.request ∷ gives (left_waiting w step) slots

abbrev pub Finds : (ℕ → List ℕ) → List Step → Type 0
Finds w [] = Unit {0}
Finds w (step ∷ slots) =
    ((q : ℕ) → asks q step.request ≤ length (waiting_with w step.arrival q)) × Finds (left_waiting w step) slots

-- A list of slots, as the ideal buffer answers it.
pub record Delays (i : Ideal) (slots : List Step) : Type 0 where
  pub delivers : deliveries slots ≡ take (length slots) (i.line ++ gives i.waiting slots)
  pub finds : Finds i.waiting slots

-- One slot more: the oldest place of the line goes first.
line_shifts : (line : List (Option Byte)) (new : Option Byte) (later : List (Option Byte)) (n : ℕ) → 1 ≤ length line
    → soonest line ∷ take n ((drop 1 line ++ new ∷ []) ++ later) ≡ take (suc n) (line ++ new ∷ later)
line_shifts [] new later n h = absurd (omega arith)
line_shifts (o ∷ line) new later n h = ap (λ (l : List (Option Byte)). o ∷ take n l) (append_snoc line new later)

delays_more : (i : Ideal) (step : Step) (slots : List Step) → 1 ≤ length i.line
    → step.reply.delivered ≡ soonest i.line
    → ((q : ℕ) → asks q step.request ≤ length (waiting_with i.waiting step.arrival q))
    → Delays (ideal_slot (record { arrival = step.arrival; request = step.request }) i) slots
    → Delays i (step ∷ slots)
delays_more i step slots long first there d = record {
  delivers =
      ap (λ (o : Option Byte). o ∷ deliveries slots) first
      ∙ ap (λ (l : List (Option Byte)). soonest i.line ∷ l) d.delivers
      ∙ line_shifts i.line (next_byte_of (waiting_with i.waiting step.arrival) step.request)
      (gives (left_waiting i.waiting step) slots) (length slots) long;
  finds = (there, d.finds);
}

-- From a state that keeps the rules.
module _ (design : Design) where
  pub line_long : (x : State) (store : List ℕ) → 1 ≤ design.cell_count x.sizes → Keeps design x
      → 1 ≤ length (stands_for x store).line
  line_long x store h v = omega (arith, line_length (stream x store) x.cells, v.within.cells_long)

  call_delays : (x : State) (store : List ℕ) (call : Call) (a : Answer) (noted : ℕ) (rest : List Step)
      → 1 ≤ design.cell_count x.sizes → Keeps design x → RefusedOrAccepted design x store call a
      → Delays (stands_for a.state a.store) (accepted rest)
      → Delays (stands_for x store) (accepted (step_of x store call (noting noted a) ∷ rest))
  call_delays x store call a noted rest h v (was_refused n e) d = rw (ne_eqb (suc n) 0 (λ z. omega arith)) d
  call_delays x store call a noted rest h v (was_accepted f) d =
      delays_more (stands_for x store) (step_of x store call (noting noted a)) (accepted rest) (line_long x store h v)
      ideal.delivers ideal.byte_waits
      (subst (λ (i : Ideal). Delays i (accepted rest)) ideal.leaves d)
    where
      ideal : IsIdealSlot x store (halves_taken x call) (accept x store call)
      ideal = accepted-is_ideal design x store (halves_taken x call) h f.judged

  pub chain_delays : {x : State} {store : List ℕ} {steps : List Step} {last : State}
      → 1 ≤ design.cell_count x.sizes → Keeps design x → Links design x store steps last
      → Delays (stands_for x store) (accepted steps)
  chain_delays h v no_link = record { delivers = refl; finds = tt }
  chain_delays h v (link {x = x} {store = store} {steps = steps} call noted below c) =
      let a = slot design x store call in
      let k = slot_kept design x store call h v in
      call_delays x store call a noted steps h v (outcome design x store call)
      (chain_delays (rw k.same-sizes h)
      (keeps-noted design a.state noted (rw k.same-sizes (below v.last_below)) k.kept) c)

-- What a request was given is what is due to it, where `w` waited before the list began.
abbrev due_from : (ℕ → List ℕ) → List Step → ℕ → Option ℕ → Option Byte
due_from w slots t none = none
due_from w slots t (some q) = as_byte q (get_elem? (w q ++ arrivals_of q slots) (requests_of q (take t slots)))

own_request : (q : ℕ) → asks q (some q) ≡ 1
own_request q = rw (eqb_same q)

nth_drop : (n i : ℕ) (l : List ℕ) → get_elem? (drop n l) i ≡ get_elem? l (n + i)
nth_drop zero i l = ap (get_elem? l) (let e : i ≡ 0 + i = omega arith in e)
nth_drop (suc n) i [] = refl
nth_drop (suc n) i (x ∷ l) = nth_drop n i l ∙ ap (get_elem? (x ∷ l)) (let e : suc (n + i) ≡ suc n + i = omega arith in e)

module _ (w : ℕ → List ℕ) (step : Step) (slots : List Step)
    (there : (q : ℕ) → asks q step.request ≤ length (waiting_with w step.arrival q)) where
  given-now : (r : Option ℕ) → step.request ≡ r
      → next_byte_of (waiting_with w step.arrival) r ≡ due_from w (step ∷ slots) 0 r
  given-now none e = refl
  given-now (some q) e =
      ap (as_byte q)
      (sym (first_append (waiting_with w step.arrival q) (arrivals_of q slots) one)
      ∙ ap (λ (l : List ℕ). get_elem? l 0)
      (append_assoc (w q) (values_of q (arriving step.arrival)) (arrivals_of q slots)))
    where
      one : 1 ≤ length (waiting_with w step.arrival q)
      one = omega (arith, there q, ap (asks q) e, own_request q)

  given-later : (t : ℕ) (r : Option ℕ) → due_from (left_waiting w step) slots t r ≡ due_from w (step ∷ slots) (suc t) r
  given-later t none = refl
  given-later t (some q) =
      ap (as_byte q)
      (ap (λ (l : List ℕ). get_elem? l n) (sym (drop-append-le k front (arrivals_of q slots) (there q)))
      ∙ nth_drop k n (front ++ arrivals_of q slots)
      ∙ ap (λ (l : List ℕ). get_elem? l (k + n))
      (append_assoc (w q) (values_of q (arriving step.arrival)) (arrivals_of q slots)))
    where
      k : ℕ
      k = asks q step.request

      n : ℕ
      n = requests_of q (take t slots)

      front : List ℕ
      front = waiting_with w step.arrival q

pub given-is_due : (w : ℕ → List ℕ) (slots : List Step) → Finds w slots
    → gives w slots ≡ tabulate (length slots) (λ t. due_from w slots t (request_at slots t))
given-is_due w [] f = refl
given-is_due w (step ∷ slots) f =
    ap (λ (o : Option Byte). o ∷ gives (left_waiting w step) slots) (given-now w step slots f.0 step.request refl)
    ∙ ap (λ (l : List (Option Byte)). due_from w (step ∷ slots) 0 step.request ∷ l)
    (given-is_due (left_waiting w step) slots f.1
    ∙ ap (tabulate (length slots)) (fun_ext (λ t. given-later w step slots f.0 t (request_at slots t))))

pub due_from_nothing : (slots : List Step) (t : ℕ) (r : Option ℕ) → due_from (λ q. []) slots t r ≡ due_to slots t r
due_from_nothing slots t none = refl
due_from_nothing slots t (some q) = refl

-- Every byte that is owed had arrived by the slot of its request.
pub arrived_in_time : (w : ℕ → List ℕ) (slots : List Step) → Finds w slots → (t q : ℕ) → request_at slots t ≡ some q
    → requests_of q (take t slots) < length (w q) + length (arrivals_of q (take (suc t) slots))
arrived_in_time w [] f t q e = absurd (none_not_some q e)
arrived_in_time w (step ∷ slots) f zero q e =
    omega (arith, f.0 q, ap (asks q) e, own_request q, length-append (w q) now, length-append now [])
  where
    now : List ℕ
    now = values_of q (arriving step.arrival)
arrived_in_time w (step ∷ slots) f (suc t) q e =
    omega (
      arith,
      arrived_in_time (left_waiting w step) slots f.1 t q e,
      f.0 q,
      length-drop (asks q step.request) (waiting_with w step.arrival q),
      length-append (w q) now,
      length-append now (arrivals_of q (take (suc t) slots)),
    )
  where
    now : List ℕ
    now = values_of q (arriving step.arrival)

pub arrived_since_fresh : (slots : List Step) → Finds (λ q. []) slots → (t q : ℕ) → request_at slots t ≡ some q
    → requests_of q (take t slots) < length (arrivals_of q (take (t + 1) slots))
arrived_since_fresh slots f t q e =
    rw (let n : t + 1 ≡ suc t = omega arith in n) (omega (arith, arrived_in_time (λ q. []) slots f t q e))
