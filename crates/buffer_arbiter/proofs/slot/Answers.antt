-- `slot` meets its contract: a slot on the state's arrays, and the record with what they then hold.
use Rattle.buffer_arbiter.proofs.ByValue.{by_value}
use Rattle.buffer_arbiter.proofs.slot.Goals as goal

pub returns : goal.returns
returns c =
    by_value c.args.state _
    c.put_regs.ensures c.regs_in-state.ensures c.slot-answer.ensures.0
