-- A fresh state in registers and arrays, every place of them: 0 is an empty cell, and a fill of 0 holds no byte. The
-- last one asked is the last queue.
use Rattle.std.specs.Prelude.{ℕ, ◌-◌, replicate}
use Rattle.layout.specs.Counts.{ByQueue, by_queue}
use Rattle.layout.specs.Lengths.{tail_places, head_places, cell_places, queue_places}
use Rattle.layout.specs.declared.Regs.{Regs}
use Rattle.layout.specs.Views.{Arrays, arrays}

abbrev pub fresh_regs : ℕ → ℕ → ℕ → Regs
fresh_regs q b k = record {
  queues = q;
  block = b;
  depth = k;
  phase = 0;
  tail_fill = 0;
  head_fill = 0;
  tail_mark = 0;
  head_mark = 0;
  last_asked = q - 1;
}

abbrev pub fresh_arrays : Arrays
fresh_arrays =
    arrays (replicate tail_places 0) (replicate head_places 0) (replicate cell_places 0) (replicate queue_places 0)
    (replicate queue_places 0)

abbrev pub fresh_counts : ByQueue
fresh_counts = by_queue (replicate queue_places 0) (replicate queue_places 0) (replicate queue_places 0)
