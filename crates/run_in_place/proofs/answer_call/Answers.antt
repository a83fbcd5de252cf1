-- `answer_call` meets its contract: it is the slot of the call that the number stands for.
use Rattle.run_words.specs.Words.{call_of}
use Rattle.run_in_place.proofs.Turns.{word_fits, called}
use Rattle.run_in_place.proofs.answer_call.Goals as goal

pub reply_word-requires : goal.reply_word-requires
reply_word-requires c = word_fits c.advance-advanced.ensures.0

pub returns : goal.returns
returns c = (
  called (call_of c.args.call) _ c.advance-advanced.ensures.0 c.call_in-call.ensures c.reply_word.ensures,
  c.advance-advanced.ensures.1,
)
