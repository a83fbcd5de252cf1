-- `demand_3` meets its contract: it is the theorem of Demand.
use Rattle.model.proofs.Demand.{demand_3}
use Rattle.model.proofs.demand_3.Goals as goal

pub returns : goal.returns
returns c = demand_3
