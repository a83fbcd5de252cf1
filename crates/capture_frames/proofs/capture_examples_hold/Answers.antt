-- `capture_examples_hold` meets its contract: it is the theorem of Examples.
use Rattle.capture_frames.proofs.Examples.{capture_examples_hold}
use Rattle.capture_frames.proofs.capture_examples_hold.Goals as goal

pub returns : goal.returns
returns c = capture_examples_hold
