-- It is the theorem of Example.
use Rattle.layout.proofs.Example.{example_reads}
use Rattle.layout.proofs.example_reads.Goals as goal

pub returns : goal.returns
returns c = example_reads
