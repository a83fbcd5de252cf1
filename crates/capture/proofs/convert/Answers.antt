-- `convert` hands over to be written the script of a capture, whole.
use Rattle.capture.proofs.Written.{is_script}
use Rattle.capture.proofs.convert.Goals as goal

pub write_script-requires : goal.write_script-requires
write_script-requires g c = is_script c.to_script.ensures c.in-Ok.is
