-- `false_capture_examples_fail` meets its contract: it is the theorem of Examples.
use Rattle.capture_frames.proofs.Examples.{false_capture_examples_fail}
use Rattle.capture_frames.proofs.false_capture_examples_fail.Goals as goal

pub returns : goal.returns
returns c = false_capture_examples_fail
