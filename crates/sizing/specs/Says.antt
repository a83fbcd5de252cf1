-- The answers of the sizing functions, by the model's definitions.
use Rattle.std.specs.Prelude as rust
use Rattle.std.specs.Prelude.{◌≡◌, not, ℕ, Some, None}
use Rattle.std.proofs.Math.Option.{Option, some, none}
use Rattle.model.specs.Basics.{choose, when}
use Rattle.model.specs.Sizes.{Sizes, sizes, paper_limits, accepts, lookahead, tail_size, head_size, store_bytes}
use Rattle.model.specs.Sizes.{sizing_number, sized_block}
use Rattle.sizing.specs.declared.Memory.{Memory}

-- A sizing answer: the paper's number, and the block that it gives.
abbrev pub sizing_number_in : rust.Option ℕ → ℕ
sizing_number_in (Some b) = 0
sizing_number_in None = 11

abbrev pub block_in : rust.Option ℕ → Option ℕ
block_in (Some b) = some b
block_in None = none

pub record SizingSays (rate grade : ℕ) (r : rust.Option ℕ) : Type 0 where
  pub number_is : sizing_number_in r ≡ sizing_number rate grade
  pub block_is : block_in r ≡ sized_block rate grade

-- The memories that sizes need.
abbrev pub memory_of : Sizes → Memory
memory_of s = record {
  lookahead = lookahead s;
  tail = tail_size s;
  head = head_size s;
  store = store_bytes s;
}

-- A derived answer: the paper's number, and the memories.
abbrev pub derived_number_in : rust.Option Memory → ℕ
derived_number_in (Some m) = 0
derived_number_in None = 1

abbrev pub memory_in : rust.Option Memory → Option Memory
memory_in (Some m) = some m
memory_in None = none

pub record DerivedSays (q b k : ℕ) (r : rust.Option Memory) : Type 0 where
  pub number_is : derived_number_in r ≡ when (not (accepts paper_limits (sizes q b k))) 1
  pub memory_is : memory_in r ≡ choose (accepts paper_limits (sizes q b k)) (some (memory_of (sizes q b k))) none
