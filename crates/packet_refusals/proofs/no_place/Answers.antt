-- `no_place` meets its contract: its tests are those of the figures.
use Rattle.std.proofs.Common.{rules}
use Rattle.layout.specs.Entries.{counts_in}
use Rattle.packet_refusals.proofs.no_place.Goals as goal

pub returns-else-is_some : goal.returns-else-is_some
unfolding counts_in
returns-else-is_some c = search rules
