-- `demand_3_over_mixed_calls` meets its contract, which is demand 3 itself.
use Rattle.buffer_runs.proofs.Demand.{mixed_calls_meet}
use Rattle.buffer_runs.proofs.demand_3_over_mixed_calls.Goals as goal

pub returns : goal.returns
returns c = mixed_calls_meet
