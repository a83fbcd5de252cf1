-- `number_in` meets its contract: it computes the definition.
use mathlib.Core.Path.{refl}
use Rattle.run_words.specs.Words.{number_of}
use Rattle.run_words.proofs.number_in.Goals as goal

pub returns : goal.returns
unfolding number_of
returns c = refl
