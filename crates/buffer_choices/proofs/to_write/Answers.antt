-- `to_write` meets its contract: at phase b - 1 the fullest queue by the counts of the tail.
use mathlib.Core.Path.{sym, ◌∙◌}
use borrow.Author.Rules.{rules}
use Rattle.buffer.specs.Says.{arrays_of}
use Rattle.buffer_choices.proofs.Choosing.{write_chosen}
use Rattle.buffer_choices.proofs.to_write.Goals as goal

pub returns : goal.returns
returns c =
    let s = c.args.state in
    write_chosen s.regs (arrays_of s) (sym c.moves_now.ensures ∙ c.if-not-moves_now.false) (search rules)
    c.min.ensures c.tally-tails.ensures c.fullest_of.ensures
