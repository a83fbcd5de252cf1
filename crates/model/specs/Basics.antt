-- What the definitions share: a choice, tests over lists and queues, the first refusal of several.
use Rattle.std.specs.Prelude.{Bool, true, false, ◌&&◌, List, [], ◌∷◌, ℕ, zero, suc, eqb, leb}

-- The first of two values where the test holds, and else the second.
abbrev pub choose : {A : Type 0} → Bool → A → A → A
choose true a b = a
choose false a b = b

-- The function f, but v at q.
abbrev pub update : {A : Type 0} → (ℕ → A) → ℕ → A → ℕ → A
update f q v p = choose (eqb q p) v (f p)

-- low ≤ n ≤ high
abbrev pub between : ℕ → ℕ → ℕ → Bool
between low n high = leb low n && leb n high

-- Every test of a list holds.
abbrev pub all_true : List Bool → Bool
all_true [] = true
all_true (t ∷ ts) = t && all_true ts

-- A test holds of every element of a list.
abbrev pub all_of : {A : Type 0} → (A → Bool) → List A → Bool
all_of test [] = true
all_of test (x ∷ xs) = test x && all_of test xs

-- A test holds of every number below n.
abbrev pub all_below : ℕ → (ℕ → Bool) → Bool
all_below zero test = true
all_below (suc n) test = test n && all_below n test

-- A property holds of every element of a list.
abbrev pub All : {A : Type 0} → (A → Type 0) → List A → Type 0
All P [] = Unit {0}
All P (x ∷ xs) = P x × All P xs

-- A test holds of some element of a list.
abbrev pub some_of : {A : Type 0} → (A → Bool) → List A → Bool
some_of test [] = false
some_of test (x ∷ xs) = choose (test x) true (some_of test xs)

-- f 0, f 1, .., f (n - 1)
abbrev pub tabulate : {A : Type 0} → ℕ → (ℕ → A) → List A
tabulate zero f = []
tabulate (suc n) f = f 0 ∷ tabulate n (λ i. f (suc i))

-- A refusal's number where its condition holds; 0 is no refusal.
abbrev pub when : Bool → ℕ → ℕ
when true n = n
when false n = 0

-- The first refusal of a list that is in the order of judging; 0 where there is none.
abbrev pub first_refusal : List ℕ → ℕ
first_refusal [] = 0
first_refusal (zero ∷ ns) = first_refusal ns
first_refusal (suc n ∷ ns) = suc n
