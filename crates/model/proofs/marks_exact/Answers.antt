-- `marks_exact` meets its contract: it is the theorem of HighMarks.
use Rattle.model.proofs.HighMarks.{marks_exact}
use Rattle.model.proofs.marks_exact.Goals as goal

pub returns : goal.returns
returns c = marks_exact
