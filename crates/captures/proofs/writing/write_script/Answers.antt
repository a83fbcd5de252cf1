-- `write_script` meets its contract: its three parts stand one behind the other.
use Rattle.captures.proofs.Whole.{closed_is}
use Rattle.captures.proofs.writing.write_script.Goals as goal

pub returns : goal.returns
returns c = closed_is c.requires c.write.ensures c.write_frames-written.ensures c.write-2.ensures
