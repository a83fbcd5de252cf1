-- `shift` meets its contract: all cells but the oldest have moved down, and the new one has the last place.
use Rattle.lookahead.proofs.Turns.{shift_ends}
use Rattle.lookahead.proofs.shift.Goals as goal

pub returns : goal.returns
returns c =
    let a = c.args in
    rw c.copy_within.ensures.after (shift_ends a.l a.cell a.cells.now c.requires.0 c.requires.1)
