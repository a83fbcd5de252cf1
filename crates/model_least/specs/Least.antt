-- "Tail cache Q(b - 1) + b bytes. Head cache 2Q(b - 1) + 1 bytes." By demand 3 no list needs more. The statement here
-- is that none of it can be spared: one list from a fresh state fills the head cache to its last byte, and another the
-- tail cache. The lists are made of rounds of b slots, each of which ends with the two moves.
use Rattle.std.specs.Prelude.{◌≡◌, Bool, true, false, List, [], ◌∷◌, ◌++◌, ℕ, zero, suc, ◌-◌, ◌≤◌, ◌<◌, eqb, leb, length, replicate}
use Rattle.model.specs.Basics.{choose, some_of}
use Rattle.model.specs.Sizes.{Sizes, Limits, accepts, tail_size, head_size, store_bytes, full}
use Rattle.model.specs.Slot.{Call}
use Rattle.model.specs.Calls.{arrival, request, idles}
use Rattle.model.specs.Lists.{Step, list_of}
use Rattle.model.specs.Demand.{block_of_arrivals}

-- The head. Its bytes are the Owed cells and the margins, and no margin is over b - 1 where a list began with a fresh
-- state. So it is full where all L = Q(b - 1) + 1 cells are Owed and all Q margins are b - 1.
-- First, for each queue in turn: a block is stored; one byte of it is asked for, so that the margin is -1 and the
-- round's read makes it b - 1; and a second block is stored.
abbrev pub prepare_from : ℕ → ℕ → ℕ → List Call
prepare_from b q zero = []
prepare_from b q (suc n) =
    block_of_arrivals b q
    ++ (request q ∷ (idles (b - 1)
    ++ (block_of_arrivals b q
    ++ prepare_from b (suc q) n)))

-- Then, for each queue in turn, b requests: its margin falls from b - 1 to -1, and the round's read makes it b - 1
-- again. These are Q × b slots, no fewer than L, and each leaves an Owed cell behind.
abbrev pub ask_from : ℕ → ℕ → ℕ → List Call
ask_from b q zero = []
ask_from b q (suc n) = replicate b (request q) ++ ask_from b (suc q) n

abbrev pub head_list : Sizes → List Call
head_list s = prepare_from s.b 0 s.Q ++ ask_from s.b 0 s.Q

-- "Both caches are looked at as each slot ends."
abbrev pub head_fills : Sizes → Step → Bool
head_fills s step = eqb (length step.state.head) (head_size s)

abbrev pub HeadFills : Limits → Sizes → List ℕ → Type 0
HeadFills limits s store = some_of (head_fills s) (list_of (full limits) s store (head_list s)) ≡ true

-- The tail. First, for each queue in turn, b - 1 arrivals and an idle slot: no queue has a block to write.
abbrev pub short_from : ℕ → ℕ → ℕ → List Call
short_from b q zero = []
short_from b q (suc n) = block_of_arrivals (b - 1) q ++ (idles 1 ++ short_from b (suc q) n)

-- Then b arrivals before the next write: all of queue 0 where its store has room for a second block, and else one
-- for each of b queues.
abbrev pub last_queue : Sizes → ℕ → ℕ
last_queue s i = choose (leb 2 s.K) 0 i

abbrev pub last_from : Sizes → ℕ → ℕ → List Call
last_from s i zero = []
last_from s i (suc n) = arrival (last_queue s i) 0 ∷ last_from s (suc i) n

abbrev pub tail_list : Sizes → List Call
tail_list s = short_from s.b 0 s.Q ++ last_from s 0 s.b

-- ".. the tail also just after the arrival joins it."
abbrev pub tail_fills : Sizes → Step → Bool
tail_fills s step = eqb step.joined_fill (tail_size s)

abbrev pub TailFills : Limits → Sizes → List ℕ → Type 0
TailFills limits s store = some_of (tail_fills s) (list_of (full limits) s store (tail_list s)) ≡ true

-- For all accepted sizes, and any store that is long enough. The tail is filled where a queue has a second block, or
-- where there are as many queues as a block has bytes. Else, with K = 1 and Q < b, no list fills it: its queues have
-- at most K × b tail bytes each, Q × b in all, and Q(b - 1) + b is more.
pub record Least (limits : Limits) : Type 0 where
  pub head_is_filled :
      (s : Sizes) (store : List ℕ)
      → accepts limits s ≡ true
      → store_bytes s ≤ length store
      → HeadFills limits s store
  pub tail_is_filled :
      (s : Sizes) (store : List ℕ)
      → accepts limits s ≡ true
      → store_bytes s ≤ length store
      → 2 ≤ s.K
      → TailFills limits s store
  pub tail_fills_by_queues :
      (s : Sizes) (store : List ℕ)
      → accepts limits s ≡ true
      → store_bytes s ≤ length store
      → s.b ≤ s.Q
      → TailFills limits s store
  pub tail_never_fills :
      (s : Sizes) (store : List ℕ) (calls : List Call)
      → accepts limits s ≡ true
      → s.K ≡ 1
      → s.Q < s.b
      → some_of (tail_fills s) (list_of (full limits) s store calls) ≡ false
