-- `request_number_in` meets its contract: it computes the definition.
use mathlib.Core.Path.{refl}
use Rattle.run_words.specs.Words.{request_number_of}
use Rattle.run_words.proofs.request_number_in.Goals as goal

pub returns : goal.returns
unfolding request_number_of
returns c = refl
