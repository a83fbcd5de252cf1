-- `pass_quiet` meets its contract: it counts as the model does, and what it counts fits the cells that it shifts.
use Rattle.std.proofs.Common.{arith}
use Rattle.layout.proofs.Ranges.{in_limits}
use Rattle.idle_in_place.proofs.Counting.{count_fits}
use Rattle.idle_in_place.proofs.pass_quiet.Goals as goal

pub shift_by-requires : goal.shift_by-requires
shift_by-requires c =
    let a = c.args in
    let limits = in_limits a.regs c.requires.0 in (
      count_fits a.regs a.cells.now a.tails.now a.heads.now a.n
          c.leading_empties-empties.ensures c.move_due-due.ensures c.quiet_count-count.ensures
          c.phase_after-phase.ensures c.if-empties-l.true (omega (arith, limits, c.told-cells)),
      omega (arith, limits),
      c.told-cells,
    )
