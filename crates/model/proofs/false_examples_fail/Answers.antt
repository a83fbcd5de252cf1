-- `false_examples_fail` meets its contract: it is the theorem of Examples.
use Rattle.model.proofs.Examples.{false_examples_fail}
use Rattle.model.proofs.false_examples_fail.Goals as goal

pub returns : goal.returns
returns c = false_examples_fail
