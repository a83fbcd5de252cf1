-- What the slots of a list deliver, from the fixed delay alone (`deliveries-few`, `deliveries-small`): at most one byte
-- for each accepted request, of a queue that was asked for, with a value that arrived.
use mathlib.Core.Path.{◌≡◌, refl, ap, sym, subst}
use mathlib.Core.Bool.{Bool, true, false}
use mathlib.Core.List.{List, [], ◌∷◌, ◌++◌}
use mathlib.Core.Option.{Option, some, none}
use Prim.Native.Nat.{ℕ, zero, suc, ◌+◌, ◌≤◌, ◌<◌}
use native.Mathlib.Omega.{arith}
use lib.Dec.{eqb}
use lib.ListN.{length, take, replicate, get_elem?}
use Rattle.model.specs.Basics.{choose, All, tabulate}
use Rattle.model.specs.Sizes.{Sizes, lookahead}
use Rattle.model.specs.State.{Byte, values_of}
use Rattle.model.specs.Slot.{as_byte, arriving}
use Rattle.model.specs.Lists.{Step, deliveries, arrivals_of, requests_of, request_at, due_to, due_at, due_to_all}
use Rattle.model.specs.Demand.{FixedDelay}
use Rattle.model.proofs.basics.AllOf.{all_append}
use Rattle.model.proofs.basics.Present.{one, present, present_take, present_behind_none}

-- A property of what may be there.
abbrev pub IfAny : {A : Type 0} → (A → Type 0) → Option A → Type 0
IfAny P none = Unit {0}
IfAny P (some y) = P y

all_take : {A : Type 0} (P : A → Type 0) (n : ℕ) (xs : List A) → All P xs → All P (take n xs)
all_take P zero xs h = tt
all_take P (suc n) [] h = tt
all_take P (suc n) (x ∷ xs) h = (h.0, all_take P n xs h.1)

all_none : {A : Type 0} (P : A → Type 0) (n : ℕ) → All (IfAny P) (replicate n none)
all_none P zero = tt
all_none P (suc n) = (tt, all_none P n)

all_tabulate : {A : Type 0} (P : A → Type 0) (n : ℕ) (f : ℕ → A) → ((i : ℕ) → P (f i)) → All P (tabulate n f)
all_tabulate P zero f h = tt
all_tabulate P (suc n) f h = (h 0, all_tabulate P n (λ i. f (suc i)) (λ i. h (suc i)))

all_get : {A : Type 0} (P : A → Type 0) (xs : List A) (i : ℕ) → All P xs → IfAny P (get_elem? xs i)
all_get P [] i h = tt
all_get P (x ∷ xs) zero h = h.0
all_get P (x ∷ xs) (suc i) h = all_get P xs i h.1

-- The requests of a list's slots.
abbrev pub requested : List Step → ℕ
requested [] = 0
requested (step ∷ slots) = one step.request + requested slots

-- At most one byte is due to each request.
one_at_most : {A : Type 0} (o : Option A) → one o ≤ 1
one_at_most none = omega arith
one_at_most (some y) = omega arith

one_for_one : {A B : Type 0} (o : Option A) (r : Option B) → (r ≡ none → o ≡ none) → one o ≤ one r
one_for_one o none h = rw (h refl) (omega arith)
one_for_one o (some q) h = one_at_most o

due_present : (slots : List Step) (due : ℕ → Option Byte) → ((t : ℕ) → request_at slots t ≡ none → due t ≡ none)
    → present (tabulate (length slots) due) ≤ requested slots
due_present [] due h = omega arith
due_present (step ∷ slots) due h =
    omega (
      arith,
      one_for_one (due 0) step.request (h 0),
      due_present slots (λ t. due (suc t)) (λ t. h (suc t)),
    )

-- What a slot took: a queue below a bound, a value below another.
pub record TakesSmall (queues values : ℕ) (step : Step) : Type 0 where
  pub queue_below : IfAny (λ (q : ℕ). q < queues) step.request
  pub value_below : IfAny (λ (y : Byte). y.value < values) step.arrival

pub record SmallByte (queues values : ℕ) (y : Byte) : Type 0 where
  pub queue_small : y.queue < queues
  pub value_small : y.value < values

-- So the same bounds hold of what is due.
module _ (queues values : ℕ) where
  request-below : (slots : List Step) → All (TakesSmall queues values) slots → (t : ℕ)
      → IfAny (λ (q : ℕ). q < queues) (request_at slots t)
  request-below [] h t = tt
  request-below (step ∷ slots) h zero = h.0.queue_below
  request-below (step ∷ slots) h (suc t) = request-below slots h.1 t

  value_arrived : (q : ℕ) (arrival : Option Byte) → IfAny (λ (y : Byte). y.value < values) arrival
      → All (λ (v : ℕ). v < values) (values_of q (arriving arrival))
  value_arrived q none h = tt
  value_arrived q (some y) h = by_queue_lem (eqb y.queue q)
    where
      by_queue_lem : (t : Bool) → All (λ (v : ℕ). v < values) (choose t (y.value ∷ []) [])
      by_queue_lem true = (h, tt)
      by_queue_lem false = tt

  arrivals-below : (q : ℕ) (slots : List Step) → All (TakesSmall queues values) slots
      → All (λ (v : ℕ). v < values) (arrivals_of q slots)
  arrivals-below q [] h = tt
  arrivals-below q (step ∷ slots) h =
      all_append (λ (v : ℕ). v < values) (values_of q (arriving step.arrival)) (arrivals_of q slots)
      (value_arrived q step.arrival h.0.value_below) (arrivals-below q slots h.1)

  as_small_byte : (q : ℕ) (v : Option ℕ) → q < queues → IfAny (λ (n : ℕ). n < values) v
      → IfAny (SmallByte queues values) (as_byte q v)
  as_small_byte q none hq hv = tt
  as_small_byte q (some v) hq hv = record { queue_small = hq; value_small = hv }

  due_small : (slots : List Step) → All (TakesSmall queues values) slots → (t : ℕ) (request : Option ℕ)
      → IfAny (λ (q : ℕ). q < queues) request → IfAny (SmallByte queues values) (due_to slots t request)
  due_small slots h t none hq = tt
  due_small slots h t (some q) hq =
      as_small_byte q (get_elem? (arrivals_of q slots) (requests_of q (take t slots))) hq
      (all_get (λ (v : ℕ). v < values) (arrivals_of q slots) (requests_of q (take t slots)) (arrivals-below q slots h))

  pub deliveries-small : (s : Sizes) (slots : List Step) → FixedDelay s slots → All (TakesSmall queues values) slots
      → All (IfAny (SmallByte queues values)) (deliveries slots)
  deliveries-small s slots fixed h =
      subst (All (IfAny (SmallByte queues values))) (sym fixed.delay)
      (all_take _ (length slots) (replicate (lookahead s) none ++ due_to_all slots)
      (all_append _ (replicate (lookahead s) none) (due_to_all slots)
      (all_none (SmallByte queues values) (lookahead s))
      (all_tabulate _ (length slots) (due_at slots)
      (λ t. due_small slots h t (request_at slots t) (request-below slots h t)))))

pub deliveries-few : (s : Sizes) (slots : List Step) → FixedDelay s slots
    → present (deliveries slots) ≤ requested slots
deliveries-few s slots fixed =
    omega (
      arith,
      ap present fixed.delay,
      present_take (length slots) (replicate (lookahead s) none ++ due_to_all slots),
      present_behind_none (lookahead s) (due_to_all slots),
      due_present slots (due_at slots) (λ t e. ap (due_to slots t) e),
    )
