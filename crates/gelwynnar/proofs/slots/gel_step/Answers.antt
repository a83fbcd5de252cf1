-- `gel_step` meets its contract: a run of one call, and its answer told.
use mathlib.Core.Path.{refl}
use Rattle.run_words.specs.Words.{call_of}
use Rattle.gelwynnar.proofs.Lent.{stepped}
use Rattle.gelwynnar.proofs.slots.gel_step.Goals as goal

pub returns : goal.returns
returns c =
    stepped _ _ _ c.run_calls-reply.result (c.run_calls-reply.ensures.2 (call_of c.args.call) refl) c.tell_reply.ensures
