-- How long a line is: its letter, its newline, and for each number a space and its digits. So of the lines that a slot
-- prints D and R have at most 20 bytes and M has 21, as slot numbers have at most 10 digits, queues and refusals 2,
-- bytes 3, slots left 4.
use mathlib.Core.Path.{◌≡◌, refl, ap}
use mathlib.Core.List.{List, [], ◌∷◌}
use Prim.Native.Nat.{ℕ, ◌+◌, ◌≤◌, ◌<◌}
use native.Mathlib.Omega.{arith}
use lib.ListN.{length, length-append}
use Rattle.script_lines.specs.Lines.{Line, delivery, refusal, refill, ending, fault, numbers, decimal, numbers_text}
use Rattle.script_lines.specs.Lines.{line_text, text}
use Rattle.script_lines.proofs.Decimal.{decimal-length}
use Rattle.script_lines.proofs.Pieces.{one_line}

-- The bytes of numbers with a space before each.
abbrev spaced_length : List ℕ → ℕ
spaced_length [] = 0
spaced_length (n ∷ ns) = 1 + length (decimal n) + spaced_length ns

numbers-length : (ns : List ℕ) → length (numbers_text ns) ≡ spaced_length ns + 1
numbers-length [] = refl
numbers-length (n ∷ ns) = omega (arith, length-append (decimal n) (numbers_text ns), numbers-length ns)

line_length : (line : Line) → length (line_text line) ≡ spaced_length (numbers line) + 2
unfolding line_text
line_length line = omega (arith, numbers-length (numbers line))

-- Slot numbers have at most 10 digits.
abbrev pub most_slots : ℕ
most_slots = 10_000_000_000

slot-digits : (t : ℕ) → t < most_slots → length (decimal t) ≤ 10
slot-digits t h = decimal-length 10 t (omega arith) h

two_digits : (n : ℕ) → n < 100 → length (decimal n) ≤ 2
two_digits n h = decimal-length 2 n (omega arith) h

pub delivery-length : (t q v : ℕ) → t < most_slots → q < 100 → v < 1000 → length (line_text (delivery t q v)) ≤ 20
delivery-length t q v ht hq hv =
    omega (arith, line_length (delivery t q v), slot-digits t ht, two_digits q hq, decimal-length 3 v (omega arith) hv)

pub refusal-length : (t n : ℕ) → t < most_slots → n < 100 → length (line_text (refusal t n)) ≤ 20
refusal-length t n ht hn = omega (arith, line_length (refusal t n), slot-digits t ht, two_digits n hn)

pub refill_length : (t q n : ℕ) → t < most_slots → q < 100 → n < 10_000 → length (line_text (refill t q n)) ≤ 21
refill_length t q n ht hq hn =
    omega (arith, line_length (refill t q n), slot-digits t ht, two_digits q hq, decimal-length 4 n (omega arith) hn)

pub ending_length : (t : ℕ) → t < most_slots → length (line_text (ending t)) ≤ 13
ending_length t ht = omega (arith, line_length (ending t), slot-digits t ht)

pub fault_length : (n offset : ℕ) → n < 100 → offset < 100_000 → length (line_text (fault n offset)) ≤ 11
fault_length n offset hn ho =
    omega (arith, line_length (fault n offset), two_digits n hn, decimal-length 5 offset (omega arith) ho)

-- The text of one line.
pub one_line_length : (line : Line) → length (text (line ∷ [])) ≡ length (line_text line)
one_line_length line = ap length (one_line line)

-- The two lines of sizes that are not accepted and of a store that is too short.
pub start_lines_length : (n : ℕ) → n < 10 → length (text (refusal 0 n ∷ ending 0 ∷ [])) ≤ 10
start_lines_length n hn =
    omega (
      arith,
      length-append (line_text (refusal 0 n)) (text (ending 0 ∷ [])),
      one_line_length (ending 0),
      line_length (refusal 0 n),
      line_length (ending 0),
      decimal-length 1 0 (omega arith) (omega arith),
      decimal-length 1 n (omega arith) hn,
    )
