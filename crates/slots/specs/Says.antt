-- What the program's parts promise of the text that is written.
use Rattle.std.specs.Prelude.{◌≡◌, List, ℕ, take}
use Rattle.io.specs.Counts.{IsPrefixLen}
use Rattle.script_text.specs.Run.{most_bytes, output_bound, program_text}
use Rattle.slots.specs.declared.Answer.{Answer}

-- How much output the program lends: what the longest script can need, 720,907 bytes, and so any (`output_enough`).
abbrev pub most_output : ℕ
most_output = output_bound most_bytes

-- The text that the program prints for some input. It is not any bytes: every text begins with the letter of a line, so
-- that neither no bytes nor a script that reads well is one (proofs/Texts.antt).
pub record IsProgramText (text : List ℕ) : Type 0 where
  pub input : List ℕ
  pub text-is : text ≡ program_text input

-- The output begins with the text of the bytes that were read.
pub record AnswerSays (input : List ℕ) (r : Answer) (output : List ℕ) : Type 0 where
  pub read_within : IsPrefixLen r.read input
  pub printed_within : IsPrefixLen r.printed output
  pub text-is : take r.printed output ≡ program_text (take r.read input)
