-- `gel_slot` meets its contract: what is judged of every slot holds of this one, and where 3 and 2 are ruled out it is
-- a step with the counts that judging took.
use mathlib.Core.Path.{refl}
use Rattle.gelwynnar.proofs.Lent.{slot-refused, step_ready, slot-stepped}
use Rattle.gelwynnar.proofs.slots.gel_slot.Goals as goal

pub returns-in-Err : goal.returns-in-Err
returns-in-Err c =
    slot-refused _ c.args.store.now c.regs_in-before.ensures c.in-Err.ensures _ refl c.tell_reply.ensures

pub gel_step-requires : goal.gel_step-requires
gel_step-requires c = step_ready _ c.args.store.now c.regs_in-before.ensures c.in-Ok.ensures refl c.requires

pub returns-in-Ok : goal.returns-in-Ok
returns-in-Ok c = slot-stepped _ c.args.store.now c.regs_in-before.ensures c.in-Ok.ensures refl c.gel_step.ensures
