-- `is_owed` meets its contract: of a queue below the last its test is that of the figures, and no other owes.
use Rattle.slot_refusals.proofs.Judging.{known_owes}
use Rattle.slot_refusals.proofs.is_owed.Goals as goal

pub returns : goal.returns
returns c =
    let a = c.args in
    rw c.in-Some.is
    (known_owes a.regs a.heads.now a.owing.now a.stored.now c.in-Some.queue c.if-regs-q.false)
