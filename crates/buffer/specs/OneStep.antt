-- What the steps of a slot promise as methods on the state, each of the whole state and by the model's own step, and
-- what the margin of a queue promises.
use Rattle.std.specs.Prelude.{◌≡◌, Bool, true, false, List, ℕ, ◌-◌, ◌≤◌, ◌<◌, ltb, ℤ, pos, length, take}
use Rattle.std.proofs.Math.Option.{Option, some, none}
use Rattle.std.specs.Int.Signed.{lt_z}
use Rattle.model.specs.Sizes.{paper_limits, accepts, tail_size, head_size, store_bytes}
use Rattle.model.specs.State.{State, with_cells, ring_of, tail_bytes, head_bytes, owed_cells, blocks, margin, critical}
use Rattle.model.specs.Slot.{oldest_cell, is_owed, after_delivery, after_request, leaves_uncovered, head_full}

-- 1. The oldest cell has left, and the youngest is empty until the request takes it.
abbrev pub opened : State → State
opened x = after_request none (after_delivery x)

-- The state without its youngest cell, which the request takes.
abbrev pub closed : State → State
closed x = with_cells (take (length x.cells - 1) x.cells) x

-- What every step of 1 to 4 asks: "the sizes are accepted" and "fills fit the caches".
pub record CachesFit (x : State) : Type 0 where
  pub sizes-ok : accepts paper_limits x.sizes ≡ true
  pub tail_fits : length x.tail ≤ tail_size x.sizes
  pub head_fits : length x.head ≤ head_size x.sizes

-- 1. Refusal 8 is ruled out.
pub record DeliverAsks (x : State) : Type 0 where
  pub fits : CachesFit x
  pub covered : leaves_uncovered (oldest_cell x.cells) x ≡ false

-- 3. Where the code's test says that the cell is not Owed, the queue has a tail byte: refusal 7 is ruled out.
pub record AskAsks (x : State) (owes : Bool) (request : Option ℕ) : Type 0 where
  pub fits : CachesFit x
  pub owes_is : (q : ℕ) → request ≡ some q → owes ≡ is_owed (closed x) q
  pub byte-there : (q : ℕ) → request ≡ some q → is_owed (closed x) q ≡ false → 1 ≤ tail_bytes x q

-- 4. The queue to write has a block of tail bytes and room in its ring.
pub record WriteAsks (x : State) (written : Option ℕ) (store : List ℕ) : Type 0 where
  pub fits : CachesFit x
  pub store_long : store_bytes x.sizes ≤ length store
  pub known : (q : ℕ) → written ≡ some q → q < x.sizes.Q
  pub block_there : (q : ℕ) → written ≡ some q → x.sizes.b ≤ tail_bytes x q
  pub first_in : (q : ℕ) → written ≡ some q → (ring_of x.rings q).first < x.sizes.K
  pub ring-room : (q : ℕ) → written ≡ some q → blocks x q < x.sizes.K

-- 4. The queue to read has a block, and the head can take it: refusal 10 is ruled out.
pub record ReadAsks (x : State) (readQueue : Option ℕ) (store : List ℕ) : Type 0 where
  pub fits : CachesFit x
  pub store_long : store_bytes x.sizes ≤ length store
  pub known : (q : ℕ) → readQueue ≡ some q → q < x.sizes.Q
  pub block_there : (q : ℕ) → readQueue ≡ some q → 1 ≤ blocks x q
  pub first_in : (q : ℕ) → readQueue ≡ some q → (ring_of x.rings q).first < x.sizes.K
  pub head_room : head_full x readQueue ≡ false

-- "The margin of a queue is its head bytes less its Owed cells. Below zero the queue is critical": the signed value,
-- and what it means below, at and above zero: the queue has fewer head bytes than Owed cells, as many, or more.
pub record MarginSays (x : State) (q : ℕ) (r : ℤ) : Type 0 where
  pub value_is : r ≡ margin x q
  pub is_critical : lt_z r (pos 0) ≡ critical x q
  pub below_zero : lt_z r (pos 0) ≡ ltb (head_bytes x q) (owed_cells x q)
  pub at_zero : r ≡ pos 0 → head_bytes x q ≡ owed_cells x q
  pub zero_at : head_bytes x q ≡ owed_cells x q → r ≡ pos 0
  pub above_zero : lt_z (pos 0) r ≡ ltb (owed_cells x q) (head_bytes x q)
