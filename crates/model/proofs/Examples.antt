-- Every row of document 01's table of examples and of the requests' holds of the definitions, by computing them:
-- `examples-hold`. No row of the false ones does: `false_examples_fail`.
use mathlib.Core.Path.{◌≡◌, refl}
use mathlib.Core.Bool.{true, false}
use Rattle.model.specs.Basics.{all_of, some_of}
use Rattle.model.specs.Examples.{holds, examples}
use Rattle.model.specs.RequestExamples.{request_examples}
use Rattle.model.specs.FalseExamples.{false_examples}

pub examples-hold : (all_of holds examples ≡ true) × (all_of holds request_examples ≡ true)
examples-hold = (refl, refl)

pub false_examples_fail : some_of holds false_examples ≡ false
false_examples_fail = refl
