-- `tail_bytes` meets its contract: of the counts of the tail that of the queue.
use mathlib.Core.Path.{◌≡◌}
use lib.ListN.{length}
use borrow.Author.Rules.{rules}
use Rattle.layout.specs.Lengths.{tail_places}
use Rattle.buffer.specs.Says.{arrays_of}
use Rattle.buffer_choices.proofs.Swapping.{tail_counted}
use Rattle.buffer_choices.proofs.tail_bytes.Goals as goal

pub returns : goal.returns
returns c =
    let s = c.args.state in
    let long : length s.tail ≡ tail_places = search rules in
    tail_counted s.regs (arrays_of s) c.args.queue long c.min.ensures c.tally-tails.ensures
