-- `script_run` meets its contract: the runner's answer, 0 standing where the output is too short.
use Rattle.c_scripts.proofs.Running.{ran_is}
use Rattle.c_scripts.proofs.script_run.Goals as goal

pub returns : goal.returns
returns c = ran_is c.run_script.ensures c.unwrap_or.ensures
