-- Document 01, "Scripts", and document 02, 2.6: the lines that the program `slots` prints, and their text.
use Rattle.std.specs.Prelude.{List, [], ◌∷◌, ◌++◌, ℕ, zero, suc, ◌+◌, ◌/◌, ◌%◌, ltb}
use Rattle.model.specs.Basics.{choose}

-- "`D t q v` (slot, queue, byte), `R t n` (slot about to run, refusal), last `E t` (slots accepted)"; "`S n offset`".
-- Request 2.6: "`slots` prints a line `M t q n` for each read (slot, queue, slots left)".
pub data Line : Type 0 where
  delivery : ℕ → ℕ → ℕ → Line
  refusal : ℕ → ℕ → Line
  refill : ℕ → ℕ → ℕ → Line
  ending : ℕ → Line
  fault : ℕ → ℕ → Line

-- A line's letter, in ASCII, and its numbers.
abbrev pub letter : Line → ℕ
letter (delivery t q v) = 68
letter (refusal t n) = 82
letter (refill t q n) = 77
letter (ending t) = 69
letter (fault n offset) = 83

abbrev pub numbers : Line → List ℕ
numbers (delivery t q v) = t ∷ q ∷ v ∷ []
numbers (refusal t n) = t ∷ n ∷ []
numbers (refill t q n) = t ∷ q ∷ n ∷ []
numbers (ending t) = t ∷ []
numbers (fault n offset) = n ∷ offset ∷ []

-- A number in decimal, in ASCII, with no zero in front: the last digit after those of a tenth of it. A number n has no
-- more than n + 1 digits, so that as many steps are enough.
abbrev pub digit : ℕ → ℕ
digit d = 48 + d

abbrev pub decimal_within : ℕ → ℕ → List ℕ
decimal_within zero n = []
decimal_within (suc steps) n =
    choose (ltb n 10) (digit n ∷ []) (decimal_within steps (n / 10) ++ digit (n % 10) ∷ [])

unfoldable pub decimal : ℕ → List ℕ
decimal n = decimal_within (suc n) n

-- A line's text: its letter, each number after one space, and a newline.
abbrev pub spaced : ℕ → List ℕ
spaced n = 32 ∷ decimal n

abbrev pub numbers_text : List ℕ → List ℕ
numbers_text [] = 10 ∷ []
numbers_text (n ∷ ns) = spaced n ++ numbers_text ns

unfoldable pub line_text : Line → List ℕ
line_text line = letter line ∷ numbers_text (numbers line)

abbrev pub text : List Line → List ℕ
text [] = []
text (line ∷ lines) = line_text line ++ text lines
