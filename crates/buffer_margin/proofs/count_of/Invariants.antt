-- Before an entry the count is that of the entries before it.
use Rattle.std.proofs.Common.{◌≡◌, ◌/◌, ◌==◌, filter, length}
use lib.ListN.{take}
use Rattle.buffer_margin.proofs.count_of.Given as goal

abbrev pub invariant-loop-entry : goal.invariant-loop-entry
invariant-loop-entry l = l.count ≡ length (filter (λ e. e / 256 == l.q) (take l.entry-index l.entries))
