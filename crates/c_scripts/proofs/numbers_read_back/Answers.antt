-- What is written reads back: `numbers-back`.
use Rattle.c_scripts.proofs.Writing.{numbers-back}
use Rattle.c_scripts.proofs.numbers_read_back.Goals as goal

pub returns : goal.returns
returns c = numbers-back
