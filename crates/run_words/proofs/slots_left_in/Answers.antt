-- `slots_left_in` meets its contract: it computes the definition.
use mathlib.Core.Path.{refl}
use Rattle.run_words.specs.Words.{slots_left_of}
use Rattle.run_words.proofs.slots_left_in.Goals as goal

pub returns : goal.returns
unfolding slots_left_of
returns c = refl
