-- The digits so far make a number.
use Rattle.capture.proofs.Digits.{ReadTo}
use Rattle.capture.proofs.decimal.Given as goal

abbrev pub invariant-loop-letter : goal.invariant-loop-letter
invariant-loop-letter l = ReadTo l.letter-index l.n l.text
