-- `gel_arbiter_step` meets its contract: a slot of the arbiter's in place, with its answer told.
use Rattle.run_words.specs.Words.{call_of}
use Rattle.gelwynnar.proofs.ArbiterTold.{lent-told}
use Rattle.gelwynnar.proofs.arbiter.gel_arbiter_step.Goals as goal

pub returns : goal.returns
returns c = (
  lent-told _ (call_of c.args.call).arrival c.arrival_in-arrival.ensures
      c.advance-answer.ensures.0 c.tell_arbiter.ensures,
  c.advance-answer.ensures.1,
)
