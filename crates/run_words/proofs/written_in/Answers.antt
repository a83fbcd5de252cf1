-- `written_in` meets its contract: it reads the 11 bits above the delivery's 19.
use Rattle.run_words.specs.Words.{written_of}
use Rattle.run_words.proofs.written_in.Goals as goal

pub returns : goal.returns
unfolding written_of
returns c = c.chosen_of.ensures
