-- Before a cell the count is that of the cells before it.
use Rattle.std.proofs.Common.{◌≡◌, ◌/◌, ◌%◌, ◌==◌, ◌&&◌, nat_le, filter, length}
use lib.ListN.{take}
use Rattle.buffer_margin.proofs.count_owed.Given as goal

abbrev pub invariant-loop-cell : goal.invariant-loop-cell
invariant-loop-cell l = l.count ≡ length (filter (λ c. nat_le 131072 c && (c / 256 % 256 == l.q)) (take l.cell-index l.cells))
