-- A number that is written in decimal.
use Rattle.std.specs.Prelude.{List, [], ◌∷◌, ℕ, ◌+◌, ◌-◌, ◌*◌, min, Option, Some, None}
use Rattle.std.proofs.Math.Option as maybe
use Rattle.std.proofs.Math.Option.{some, none}
use Rattle.model.specs.Basics.{choose, between}

-- The number of digits 0 to 9, of which those before make n; none where a letter is no digit.
abbrev pub with_digits : ℕ → List ℕ → maybe.Option ℕ
with_digits n [] = some n
with_digits n (c ∷ letters) = choose (between 48 c 57) (with_digits (10 * n + (c - 48)) letters) none

-- Digits alone, one or more.
abbrev pub decimal_in : List ℕ → maybe.Option ℕ
decimal_in [] = none
decimal_in (c ∷ letters) = with_digits 0 (c ∷ letters)

-- Sizes over 100,000 are refused as this one is, so that the program need not know them.
abbrev pub most_told : ℕ
most_told = 100000

abbrev pub at_most : maybe.Option ℕ → Option ℕ
at_most none = None
at_most (some n) = Some (min n most_told)
