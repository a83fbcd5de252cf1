-- `line_does_not_wait` meets its contract: it is the theorem of Halves, and that of Demand on stops.
use Rattle.model.proofs.Halves.{halves_say}
use Rattle.model.proofs.Demand.{list_stops_low}
use Rattle.model.proofs.line_does_not_wait.Goals as goal

pub returns : goal.returns
returns c = (halves_say, list_stops_low)
