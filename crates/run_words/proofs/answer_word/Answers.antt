-- `answer_word` meets its contract: each part is what its own contract says, and all of them fit 64 bits.
use Rattle.std.proofs.Common.{rules}
use Rattle.run_words.specs.Words.{answer_word}
use Rattle.run_words.proofs.answer_word.Goals as goal

pub returns : goal.returns
unfolding answer_word
returns c = search rules
