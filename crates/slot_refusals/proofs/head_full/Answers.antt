-- `head_full` meets its contract: its test is that of refusal 10, with one byte less where an Owed cell leaves.
use Rattle.std.proofs.Common.{arith, not, ap, ◌∙◌}
use Rattle.layout.specs.Views.{sizes_in}
use Rattle.layout.proofs.Ranges.{in_limits}
use Rattle.slot_refusals.proofs.Room.{full-with_owed, full-without}
use Rattle.slot_refusals.proofs.head_full.Goals as goal

pub returns-then-cell-ge-OWED : goal.returns-then-cell-ge-OWED
returns-then-cell-ge-OWED c =
    let a = c.args in
    full-with_owed (sizes_in a.regs) a.regs.head_fill a.cell a.read (c.is_none.ensures ∙ ap not c.if-is_none.false)
    (in_limits a.regs c.requires.0).q_low c.if-cell-ge-OWED.true

pub returns-else-cell-ge-OWED : goal.returns-else-cell-ge-OWED
returns-else-cell-ge-OWED c =
    let a = c.args in
    full-without (sizes_in a.regs) a.regs.head_fill a.cell a.read (c.is_none.ensures ∙ ap not c.if-is_none.false)
    (omega (arith, c.if-cell-ge-OWED.false))
