-- The figures that a slot is judged by: sizes, the tail's fill, and for each queue its tail bytes, head bytes, Owed
-- cells and blocks. A state has them by counting, a run keeps them in arrays beside the state.
use Rattle.std.specs.Prelude.{Bool, true, false, List, ℕ, ltb, length}
use Rattle.std.proofs.Math.Option.{Option, some, none}
use Rattle.model.specs.Basics.{choose}
use Rattle.model.specs.Sizes.{Sizes}
use Rattle.model.specs.State.{Cell, empty, owed, State, tail_bytes, head_bytes, owed_cells, blocks}
use Rattle.layout.specs.Entries.{counts_in}
use Rattle.layout.specs.Counts.{ByQueue}
use Rattle.layout.specs.declared.Regs.{Regs}
use Rattle.layout.specs.Views.{sizes_in}

pub record Figures : Type 0 where
  pub sizes : Sizes
  pub fill : ℕ
  pub tails : ℕ → ℕ
  pub heads : ℕ → ℕ
  pub owed : ℕ → ℕ
  pub blocks : ℕ → ℕ

abbrev pub figures_of : State → Figures
figures_of x = record {
  sizes = x.sizes;
  fill = length x.tail;
  tails = tail_bytes x;
  heads = head_bytes x;
  owed = owed_cells x;
  blocks = blocks x;
}

-- A queue's blocks; one past the last queue has none.
abbrev pub blocks_in : ℕ → List ℕ → ℕ → ℕ
blocks_in queues stored q = choose (ltb q queues) (counts_in stored q) 0

abbrev pub figures_in : Regs → ByQueue → List ℕ → Figures
figures_in regs counts stored = record {
  sizes = sizes_in regs;
  fill = regs.tail_fill;
  tails = counts_in counts.tails;
  heads = counts_in counts.heads;
  owed = counts_in counts.owing;
  blocks = blocks_in regs.queues stored;
}

-- The new cell as the scan sees it: Owed or not.
abbrev pub new_cell : Bool → Option ℕ → Cell
new_cell false request = empty
new_cell true none = empty
new_cell true (some q) = owed q
