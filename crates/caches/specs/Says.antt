-- What the operations on a cache promise: each gives what the array then holds by the model's own definition.
use Rattle.std.specs.Prelude.{◌≡◌, List, [], ◌∷◌, ◌++◌, ℕ, suc, ◌+◌, ◌-◌, ◌/◌, ◌<◌, eqb, length, take, drop, get_or}
use Rattle.std.proofs.Math.Option.{some}
use Rattle.model.specs.Basics.{choose}
use Rattle.model.specs.State.{Byte, byte, values_of}
use Rattle.model.specs.Slot.{oldest_of, without, placed, bytes_for}
use Rattle.layout.specs.Entries.{bytes_in}

-- None of n entries from `at` on is of queue q.
abbrev pub NoneOf : ℕ → List ℕ → ℕ → ℕ → Type 0
NoneOf q xs at n = (k : ℕ) → k < n → get_or xs (at + k) 0 / 256 ≡ q → ⊥

-- The place of the oldest byte of a queue, or the number of bytes where it has none.
unfoldable pub place_of : ℕ → List Byte → ℕ
place_of q [] = 0
place_of q (x ∷ xs) = choose (eqb x.queue q) 0 (suc (place_of q xs))

-- The first n entries have closed up over place p.
pub record ClosedUp (p n : ℕ) (before after : List ℕ) : Type 0 where
  pub closed : take (n - 1) after ≡ take p before ++ drop (p + 1) (take n before)
  pub same_length : length after ≡ length before

-- The oldest byte of q has left the first n.
pub record TookOldest (n q : ℕ) (before after : List ℕ) (value : ℕ) : Type 0 where
  pub left : bytes_in (n - 1) after ≡ without 1 q (bytes_in n before)
  pub value_is : oldest_of q (bytes_in n before) ≡ some value
  pub same_length : length after ≡ length before

-- A byte has joined the first n.
pub record JoinedBy (n q v : ℕ) (before after : List ℕ) : Type 0 where
  pub joined : bytes_in (n + 1) after ≡ bytes_in n before ++ byte q v ∷ []
  pub same_length : length after ≡ length before

-- The b oldest bytes of q have gone from the first n to the store, from `place` on.
pub record WroteOut (n q b place : ℕ) (before after store stored : List ℕ) : Type 0 where
  pub left : bytes_in (n - b) after ≡ without b q (bytes_in n before)
  pub stored_is : stored ≡ placed place (take b (values_of q (bytes_in n before))) store
  pub same_length : length after ≡ length before

-- b bytes of the store, from `place` on, have joined the first n as bytes of q.
pub record ReadIn (n q b place : ℕ) (before after store : List ℕ) : Type 0 where
  pub joined : bytes_in (n + b) after ≡ bytes_in n before ++ bytes_for q (take b (drop place store))
  pub same_length : length after ≡ length before
