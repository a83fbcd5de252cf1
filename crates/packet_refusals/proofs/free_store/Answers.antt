-- `free_store` meets its contract: of a queue below the last its numbers are those of the figures.
use Rattle.std.proofs.Common.{rules}
use Rattle.slot_refusals.proofs.Judging.{with_blocks_is}
use Rattle.packet_refusals.proofs.free_store.Goals as goal

pub returns : goal.returns
returns c = search (rules, with_blocks_is c.args.regs c.args.tails.now c.args.stored.now c.args.q c.requires.1)
