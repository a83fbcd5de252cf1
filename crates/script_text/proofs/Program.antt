-- What the program needs for the text of an input of any length (`program_text`). It need not read on behind 65,537
-- bytes (`program_reads_enough`): an input that goes so far is over 65,536 bytes and prints S 15 65536, whatever
-- follows. And 720,907 bytes of output are enough for any input (`output_enough`).
use mathlib.Core.Path.{◌≡◌, refl, ap, sym, ◌∙◌}
use mathlib.Core.Bool.{Bool}
use mathlib.Core.List.{List, [], ◌∷◌}
use Prim.Native.Nat.{ℕ, ◌≤◌, ◌<◌}
use native.Mathlib.Omega.{arith}
use lib.Dec.{ltb}
use lib.ListN.{length, take, replicate, length-take}
use lib.Seq.{take_all}
use borrow.Author.Tests.{ltb-true, ltb-false, lt-ltb}
use Rattle.model.specs.Basics.{choose}
use Rattle.model.proofs.basics.Tests.{by_test}
use Rattle.script_commands.specs.Scripts.{judge}
use Rattle.script_lines.specs.Lines.{fault, text}
use Rattle.script_text.specs.Run.{most_bytes, judged_lines, script_lines, store_lent, program_text, output_bound}

-- "and input over 65,536 bytes prints only S 15 65536"
pub long_lines : (bytes store : List ℕ) → most_bytes < length bytes → script_lines bytes store ≡ fault 15 most_bytes ∷ []
unfolding script_lines
long_lines bytes store h =
    ap (λ (t : Bool). choose t (fault 15 most_bytes ∷ []) (judged_lines (judge bytes) store))
    (lt-ltb most_bytes (length bytes) h)

-- Any number of first bytes over 65,536 tells as much as the whole input.
pub longer_input_prints_alike : (n : ℕ) (bytes store : List ℕ) → most_bytes < n
    → script_lines (take n bytes) store ≡ script_lines bytes store
longer_input_prints_alike n bytes store over = by_test (ltb n (length bytes))
    (λ t.
    long_lines (take n bytes) store (omega (arith, over, length-take n bytes, ltb-true n (length bytes) t))
    ∙ sym (long_lines bytes store (omega (arith, over, ltb-true n (length bytes) t))))
    (λ t. ap (λ (read : List ℕ). script_lines read store) (take_all n bytes (ltb-false n (length bytes) t)))

-- The program reads 65,537 bytes at most.
pub program_reads_enough : (bytes : List ℕ) → program_text (take 65_537 bytes) ≡ program_text bytes
unfolding program_text
program_reads_enough bytes =
    ap text (longer_input_prints_alike 65_537 bytes (replicate store_lent 0) (omega arith))

-- The bound is 720,907 at 65,536 bytes and does not rise above it.
most_output_lem : output_bound 65_536 ≡ 720_907
most_output_lem = refl

pub output_enough : (n : ℕ) → output_bound n ≤ 720_907
output_enough n = omega arith
