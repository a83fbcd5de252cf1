-- `captures_become_scripts` meets its contract: it is the theorem of Sentences.
use Rattle.capture_frames.proofs.Sentences.{captures_say}
use Rattle.capture_frames.proofs.captures_become_scripts.Goals as goal

pub returns : goal.returns
returns c = captures_say
