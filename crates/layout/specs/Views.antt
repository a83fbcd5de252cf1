-- The state as registers and five arrays hold it. Every register and every array is read as some state, so
-- that the representation needs no rule of its own: an array is one entry longer than the largest cache, so that a fill
-- past its end breaks the paper's own rule.
use Rattle.std.specs.Prelude.{◌≡◌, List, ℕ, length, get_or}
use Rattle.model.specs.Basics.{tabulate}
use Rattle.model.specs.Sizes.{Sizes, sizes, lookahead}
use Rattle.model.specs.State.{Ring, ring, State}
use Rattle.layout.specs.Entries.{bytes_in, counts_in, cells_in}
use Rattle.layout.specs.Lengths.{tail_places, head_places, cell_places, queue_places}
use Rattle.layout.specs.declared.Regs.{Regs}

-- The five arrays: tail and head bytes with their queues, cells, first ring blocks, block counts.
pub record Arrays : Type 0 where
  pub tail : List ℕ
  pub head : List ℕ
  pub cells : List ℕ
  pub firsts : List ℕ
  pub stored : List ℕ

abbrev pub arrays : List ℕ → List ℕ → List ℕ → List ℕ → List ℕ → Arrays
arrays t h c f n = record { tail = t; head = h; cells = c; firsts = f; stored = n }

-- Their lengths, which their types fix.
pub record Long (m : Arrays) : Type 0 where
  pub tail_long : length m.tail ≡ tail_places
  pub head_long : length m.head ≡ head_places
  pub cells_long : length m.cells ≡ cell_places
  pub firsts_long : length m.firsts ≡ queue_places
  pub stored_long : length m.stored ≡ queue_places

-- The registers as an array of nine, in their own order.
abbrev pub regs_in : List ℕ → Regs
regs_in l = record {
  queues = get_or l 0 0;
  block = get_or l 1 0;
  depth = get_or l 2 0;
  phase = get_or l 3 0;
  tail_fill = get_or l 4 0;
  head_fill = get_or l 5 0;
  tail_mark = get_or l 6 0;
  head_mark = get_or l 7 0;
  last_asked = get_or l 8 0;
}

abbrev pub sizes_in : Regs → Sizes
sizes_in regs = sizes regs.queues regs.block regs.depth

-- The rings of the first n queues.
unfoldable pub rings_in : ℕ → List ℕ → List ℕ → List Ring
rings_in n firsts stored = tabulate n (λ q. ring (counts_in firsts q) (counts_in stored q))

abbrev pub state_in : Regs → Arrays → State
state_in regs m = record {
  sizes = sizes_in regs;
  phase = regs.phase;
  tail = bytes_in regs.tail_fill m.tail;
  head = bytes_in regs.head_fill m.head;
  cells = cells_in (lookahead (sizes_in regs)) m.cells;
  rings = rings_in regs.queues m.firsts m.stored;
  tail_mark = regs.tail_mark;
  head_mark = regs.head_mark;
  last_asked = regs.last_asked;
}
