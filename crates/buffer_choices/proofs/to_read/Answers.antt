-- `to_read` meets its contract: at phase b - 1 the scan of the cells with the counts of the head.
use mathlib.Core.Path.{sym, ◌∙◌}
use borrow.Author.Rules.{rules}
use Rattle.buffer.specs.Says.{arrays_of}
use Rattle.buffer_choices.proofs.Choosing.{read_chosen}
use Rattle.buffer_choices.proofs.to_read.Goals as goal

pub returns : goal.returns
returns c =
    let s = c.args.state in
    read_chosen s.regs (arrays_of s) (sym c.moves_now.ensures ∙ c.if-not-moves_now.false) (search rules) (search rules)
    c.min.ensures c.cells_within-l.ensures c.tally-heads.ensures c.scan.ensures
