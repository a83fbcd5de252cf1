-- What the steps say of their arrays is what the model's steps say of a state: the moves look at sizes, caches and
-- rings alone, a request's cell goes by the test that was decided, and the oldest cell is the first of the array.
use mathlib.Core.Path.{◌≡◌, refl}
use mathlib.Core.Bool.{Bool}
use mathlib.Core.List.{List, [], ◌∷◌}
use mathlib.Core.Option.{Option, some, none}
use Prim.Native.Nat.{ℕ, zero, suc, ◌≤◌}
use native.Mathlib.Omega.{arith}
use lib.ListN.{length, get_or}
use Rattle.model.specs.State.{State}
use Rattle.model.specs.Slot.{oldest_cell, is_owed, youngest_cell, tail_left, tail_written, rings_written, store_written}
use Rattle.model.specs.Slot.{head_read}
use Rattle.model.specs.Slot.{rings_read}
use Rattle.layout.specs.Entries.{cell_of, cells_in}
use Rattle.slot_steps.specs.Says.{cell_asked, tail_asked, moving}

-- The oldest cell is the first number of the array.
pub oldest_cell_lem : (n : ℕ) (xs : List ℕ) → 1 ≤ n → n ≤ length xs → oldest_cell (cells_in n xs) ≡ cell_of (get_or xs 0 0)
unfolding cells_in
oldest_cell_lem zero xs l h = absurd (omega arith)
oldest_cell_lem (suc n) [] l h = absurd (omega arith)
oldest_cell_lem (suc n) (c ∷ xs) l h = refl

-- The two moves look at sizes, caches and rings alone.
pub moving-tail : (o : Option ℕ) (y : State) → tail_written o (moving y.sizes y.tail [] y.rings) ≡
    tail_written o y
moving-tail none y = refl
moving-tail (some q) y = refl

pub moving-rings : (o : Option ℕ) (y : State) → rings_written o (moving y.sizes y.tail [] y.rings) ≡
    rings_written o y
moving-rings none y = refl
moving-rings (some q) y = refl

pub moving-store : (o : Option ℕ) (y : State) (store : List ℕ)
    → store_written o (moving y.sizes y.tail [] y.rings) store ≡ store_written o y store
moving-store none y store = refl
moving-store (some q) y store = refl

pub moving-head : (o : Option ℕ) (y : State) (store : List ℕ)
    → head_read o (moving y.sizes [] y.head y.rings) store ≡ head_read o y store
moving-head none y store = refl
moving-head (some q) y store = refl

pub moving-read : (o : Option ℕ) (y : State)
    → rings_read o (moving y.sizes [] y.head y.rings) ≡ rings_read o y
moving-read none y = refl
moving-read (some q) y = refl

-- A request's cell, and the tail that it leaves, by the test that was decided.
pub asked-cell : (y : State) (request : Option ℕ) (is_owed' : Bool)
    → ((q : ℕ) → request ≡ some q → is_owed' ≡ is_owed y q)
    → cell_asked is_owed' request y.tail ≡ youngest_cell y request
asked-cell y none t f = refl
asked-cell y (some q) t f = rw (f q refl)

pub asked-tail : (y : State) (request : Option ℕ) (is_owed' : Bool)
    → ((q : ℕ) → request ≡ some q → is_owed' ≡ is_owed y q)
    → tail_asked is_owed' request y.tail ≡ tail_left y request
asked-tail y none t f = refl
asked-tail y (some q) t f = rw (f q refl)
