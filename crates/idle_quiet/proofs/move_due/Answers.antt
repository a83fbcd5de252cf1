-- `idle_quiet::move_due` meets its contract: a queue to write settles it, and else the scan does.
use Rattle.std.proofs.Common.{◌-◌, ◌≤◌, length, sym, ◌∙◌, arith}
use Rattle.model.specs.Sizes.{lookahead}
use Rattle.layout.specs.Entries.{counts_in, cells_in}
use Rattle.layout.specs.Calls.{chosen_in}
use Rattle.layout.specs.Views.{sizes_in}
use Rattle.layout.proofs.Ranges.{in_limits}
use Rattle.idle_quiet.proofs.Leading.{leading_fits}
use Rattle.idle_quiet.proofs.Counting.{some_is, due_to_read}
use Rattle.idle_quiet.proofs.move_due.Goals as goal

pub scan-requires : goal.scan-requires
scan-requires c =
    let a = c.args in
    let l = lookahead (sizes_in a.regs) in
    let fits : l ≤ length a.cells.now = omega (arith, in_limits a.regs c.requires.0, c.told-cells) in
    (omega (arith, c.requires.2, leading_fits l a.cells.now fits), fits, c.requires.1)

pub returns-else-is_some : goal.returns-else-is_some
returns-else-is_some c =
    let a = c.args in
    let stopped = c.scan.result in
    due_to_read (sizes_in a.regs) (counts_in a.tails.now) (counts_in a.heads.now)
    (cells_in (lookahead (sizes_in a.regs)) a.cells.now)
    (chosen_in c.fullest_of.result) c.fullest_of.ensures
    (chosen_in stopped.found) (stopped.place - a.empties)
    (counts_in stopped.left) c.is_some-else-is_some.result
    a.empties (sym c.if-is_some.false ∙ c.is_some.ensures ∙ some_is c.fullest_of.result)
    c.requires.2 c.scan.ensures.0 (c.is_some-else-is_some.ensures ∙ some_is stopped.found)
