-- `read_in` meets its contract: it reads the 11 bits above the 30 of delivery and queue written.
use Rattle.run_words.specs.Words.{read_of}
use Rattle.run_words.proofs.read_in.Goals as goal

pub returns : goal.returns
unfolding read_of
returns c = c.chosen_of.ensures
