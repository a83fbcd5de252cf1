-- `gel_arbiter_slot` meets its contract: a slot of the arbiter's of any state, with its answer told.
use Rattle.run_words.specs.Words.{call_of}
use Rattle.gelwynnar.proofs.ArbiterTold.{lent-told}
use Rattle.gelwynnar.proofs.arbiter.gel_arbiter_slot.Goals as goal

pub returns : goal.returns
returns c = (
  lent-told _ (call_of c.args.call).arrival c.arrival_in-arrival.ensures
      c.slot-answer.ensures.0 c.tell_arbiter.ensures,
  c.slot-answer.ensures.1,
)
