-- The two lists run at small sizes, computed.
use mathlib.Core.Path.{◌≡◌, refl}
use mathlib.Core.Bool.{Bool, true, not}
use mathlib.Core.List.{[], ◌∷◌}
use Prim.Native.Nat.{ℕ}
use lib.ListN.{replicate}
use Rattle.model.specs.Basics.{all_true, some_of}
use Rattle.model.specs.Sizes.{sizes, store_bytes, paper}
use Rattle.model.specs.Lists.{list_of}
use Rattle.model_least.specs.Least.{head_list, head_fills, tail_list, tail_fills}

abbrev head : ℕ → ℕ → ℕ → Bool
head q b k =
    some_of (head_fills (sizes q b k))
    (list_of paper (sizes q b k) (replicate (store_bytes (sizes q b k)) 0) (head_list (sizes q b k)))

abbrev tail : ℕ → ℕ → ℕ → Bool
tail q b k =
    some_of (tail_fills (sizes q b k))
    (list_of paper (sizes q b k) (replicate (store_bytes (sizes q b k)) 0) (tail_list (sizes q b k)))

pub heads_fill : all_true (
    head 1 1 1 ∷ head 1 2 1 ∷ head 2 2 1 ∷ head 3 2 1 ∷ head 2 3 2 ∷ head 1 3 2 ∷ head 3 3 1 ∷ []) ≡ true
heads_fill = refl

-- With one block to a queue and fewer queues than a block has bytes, the tail cannot be filled.
pub tails_fill : all_true (
    tail 1 1 1 ∷ not (tail 1 2 1) ∷ tail 2 2 1 ∷ tail 3 2 1 ∷ tail 2 3 2 ∷ tail 1 3 2 ∷ tail 3 3 1 ∷
    not (tail 2 3 1) ∷ []) ≡ true
tails_fill = refl
