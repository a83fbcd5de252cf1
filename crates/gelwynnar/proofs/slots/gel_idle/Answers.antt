-- `gel_idle` meets its contract: a stretch by the registers that the array holds, and the array with what it leaves.
use Rattle.gelwynnar.proofs.Lent.{idled}
use Rattle.gelwynnar.proofs.slots.gel_idle.Goals as goal

pub returns : goal.returns
returns c =
    idled _ _ c.regs_in-before.ensures c.idle-stretch.ensures c.put_regs.ensures
    c.tell_reply.ensures
