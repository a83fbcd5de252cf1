-- The answers of the sizing functions for C and C++, by the model's definitions. 0 stands for a refusal: no block and
-- no lookahead that the paper takes is 0.
use Rattle.std.specs.Prelude.{ℕ, eqb}
use Rattle.model.specs.Basics.{choose}
use Rattle.model.specs.Sizes.{Sizes, sizes, paper_limits, accepts, lookahead, tail_size, head_size, store_bytes}
use Rattle.model.specs.Sizes.{sizing_number, block_for}
use Rattle.sizing.specs.declared.Memory.{Memory}
use Rattle.c_sizes.specs.declared.Memories.{Memories}

-- The block of the sizing rule, or 0 beside refusal 11.
abbrev pub block_or_none : ℕ → ℕ → ℕ
block_or_none rate grade = choose (eqb (sizing_number rate grade) 0) (block_for rate grade) 0

-- The memories of accepted sizes, or none of them beside refusal 1.
abbrev pub memories_for : Sizes → Memories
memories_for s = record {
  lookahead = lookahead s;
  tail = tail_size s;
  head = head_size s;
  store = store_bytes s;
}

-- The memories of the sizing rule as they go to C.
abbrev pub memories_in : Memory → Memories
memories_in m = record { lookahead = m.lookahead; tail = m.tail; head = m.head; store = m.store }

abbrev pub no_memories : Memories
no_memories = record { lookahead = 0; tail = 0; head = 0; store = 0 }

abbrev pub memories_or_none : ℕ → ℕ → ℕ → Memories
memories_or_none q b k = choose (accepts paper_limits (sizes q b k)) (memories_for (sizes q b k)) no_memories
