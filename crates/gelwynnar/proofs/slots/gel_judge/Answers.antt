-- `gel_judge` meets its contract: what is decided of the slot of the nearest call is decided of the call.
use Rattle.run_words.specs.Words.{call_of}
use Rattle.gelwynnar.proofs.Lent.{judged_stopped, judged_going_on}
use Rattle.gelwynnar.proofs.slots.gel_judge.Goals as goal

pub returns-in-Err : goal.returns-in-Err
returns-in-Err c =
    rw c.from-number.ensures
    (judged_stopped _ c.regs_in.ensures (call_of c.args.call) c.call_in.result c.call_in.ensures c.in-Err.ensures)

pub returns-in-Ok : goal.returns-in-Ok
returns-in-Ok c =
    judged_going_on _ c.regs_in.ensures (call_of c.args.call) c.call_in.result c.call_in.ensures c.in-Ok.ensures
    c.dropped_halves.ensures
