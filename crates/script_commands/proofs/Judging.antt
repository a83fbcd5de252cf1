-- Judging is the reader iterated: the script from an offset on is what `go_on` makes of the next reading, with no
-- count of steps. A command that is taken has a byte or more and no more than there are, so that what is left is
-- shorter each time, and any count of steps above the length answers the same.
use mathlib.Core.Path.{◌≡◌, refl, ap, ◌∙◌}
use mathlib.Core.Bool.{Bool, true, false}
use mathlib.Core.List.{List, [], ◌∷◌}
use mathlib.Core.Option.{Option, some, none}
use Prim.Native.Nat.{ℕ, zero, suc, ◌+◌, ◌<◌, ◌≤◌}
use native.Mathlib.Omega.{arith}
use lib.Dec.{ltb}
use lib.ListN.{length, drop, length-drop}
use borrow.Author.Tests.{ltb-false, lt-ltb, le-ltb}
use Rattle.model.specs.Basics.{choose}
use Rattle.model.proofs.basics.Tests.{by_test}
use Rattle.script_commands.specs.Commands.{Kind, Command, command, row, is_end, kind_of, widths, operands_in}
use Rattle.script_commands.specs.Scripts.{Reading, refused, taken, out_of_place, read_known, read_code, read_command}
use Rattle.script_commands.specs.Scripts.{Script}
use Rattle.script_commands.specs.Scripts.{after_end, with_command, go_on, judge_within, judge_from, judge}

-- A refusal is no command, and what is taken is one command of one length.
pub refused-not_taken : (number : ℕ) (c : Command) (n : ℕ) → refused number ≡ taken c n → ⊥
refused-not_taken number c n e = let z : ◌≡◌ {A = ℕ} 0 1 = cc in omega arith

pub taken-same_command : (c d : Command) (n m : ℕ) → taken c n ≡ taken d m → c ≡ d
taken-same_command c d n m e = cc

pub taken-same_length : (c d : Command) (n m : ℕ) → taken c n ≡ taken d m → n ≡ m
taken-same_length c d n m e = cc

-- The reader's answers where a command's kind is known, in the order of judging: out of its place, cut short, taken.
pub reads_out_of_place : (first : Bool) (k : Kind) (bytes : List ℕ) → out_of_place first k ≡ true
    → read_known first k bytes ≡ refused 14
reads_out_of_place first k bytes t = rw t

pub reads_cut_short : (first : Bool) (k : Kind) (bytes : List ℕ) → out_of_place first k ≡ false
    → length bytes < widths (row k).operands → read_known first k bytes ≡ refused 13
reads_cut_short first k bytes t h = rw (t, lt-ltb (length bytes) (widths (row k).operands) h)

pub reads_taken : (first : Bool) (k : Kind) (bytes : List ℕ) → out_of_place first k ≡ false
    → widths (row k).operands ≤ length bytes
    → read_known first k bytes
    ≡ taken (command k (operands_in (row k).operands bytes)) (1 + widths (row k).operands)
reads_taken first k bytes t h = rw (t, le-ltb (length bytes) (widths (row k).operands) h)

-- All of the reader's answers, by the bytes that it reads: none, a code of no kind, and those three.
pub data ReadAs (first : Bool) : List ℕ → Reading → Type 0 where
  no_byte : ReadAs first [] (refused 15)
  no_kind : (code : ℕ) (bytes : List ℕ) → ReadAs first (code ∷ bytes) (refused 12)
  out_of_place_lem : (code : ℕ) (bytes : List ℕ) → ReadAs first (code ∷ bytes) (refused 14)
  cut_short : (code : ℕ) (bytes : List ℕ) → ReadAs first (code ∷ bytes) (refused 13)
  takes : (code : ℕ) (bytes : List ℕ) (k : Kind) → out_of_place first k ≡ false → widths (row k).operands ≤ length bytes
      → ReadAs first (code ∷ bytes)
      (taken (command k (operands_in (row k).operands bytes)) (1 + widths (row k).operands))

pub read_as : (first : Bool) (bytes : List ℕ) → ReadAs first bytes (read_command first bytes)
read_as first [] = no_byte
read_as first (code ∷ bytes) = by_kind (kind_of code)
  where
    by_kind : (found : Option Kind) → ReadAs first (code ∷ bytes) (read_code first found bytes)
    by_kind none = no_kind code bytes
    by_kind (some k) =
        by_test (out_of_place first k)
        (λ t. rw t (out_of_place_lem code bytes))
        (λ t. by_test (ltb (length bytes) (widths (row k).operands))
        (λ u. rw (t, u) (cut_short code bytes))
        (λ u. rw (t, u) (takes code bytes k t (ltb-false (length bytes) (widths (row k).operands) u))))

-- A command that is taken has a byte or more, and at most as many as there are.
read_length : {first : Bool} {bytes : List ℕ} {r : Reading} → ReadAs first bytes r → (c : Command) (n : ℕ)
    → r ≡ taken c n → (1 ≤ n) × (n ≤ length bytes)
read_length no_byte c n e = absurd (refused-not_taken 15 c n e)
read_length (no_kind code bytes) c n e = absurd (refused-not_taken 12 c n e)
read_length (out_of_place_lem code bytes) c n e = absurd (refused-not_taken 14 c n e)
read_length (cut_short code bytes) c n e = absurd (refused-not_taken 13 c n e)
read_length (takes code bytes k t long) c n e =
    let is_n = taken-same_length _ c _ n e in
    (omega (arith, is_n), omega (arith, is_n, long))

pub taken-length : (first : Bool) (bytes : List ℕ) (c : Command) (n : ℕ)
    → read_command first bytes ≡ taken c n → (1 ≤ n) × (n ≤ length bytes)
taken-length first bytes c n e = read_length (read_as first bytes) c n e

-- So the place behind it lies within the script.
pub moves-on : (first : Bool) (script : List ℕ) (at : ℕ) (c : Command) (n : ℕ)
    → read_command first (drop at script) ≡ taken c n → (1 ≤ n) × (at + n ≤ length script)
moves-on first script at c n e =
    let long = taken-length first (drop at script) c n e in
    (long.0, omega (arith, long.0, long.1, length-drop at script))

-- What comes of a reading asks of the rest only what it is after a command that was taken.
pub go_on_alike : (r : Reading) (offset : ℕ) (bytes : List ℕ) (rest other : ℕ → Script)
    → ((c : Command) (n : ℕ) → r ≡ taken c n → rest n ≡ other n)
    → go_on r offset bytes rest ≡ go_on r offset bytes other
go_on_alike (refused number) offset bytes rest other same = refl
go_on_alike (taken c n) offset bytes rest other same =
    ap (λ (s : Script). with_command c (choose (is_end c.kind) (after_end (offset + n) (drop n bytes)) s))
    (same c n refl)

-- Any two counts of steps above the length answer the same.
pub steps_enough : (steps more : ℕ) (first : Bool) (offset : ℕ) (bytes : List ℕ)
    → length bytes < steps → length bytes < more
    → judge_within steps first offset bytes ≡ judge_within more first offset bytes
steps_enough zero more first offset bytes h k = absurd (omega arith)
steps_enough (suc steps) zero first offset bytes h k = absurd (omega arith)
steps_enough (suc steps) (suc more) first offset bytes h k =
    go_on_alike (read_command first bytes) offset bytes _ _ (λ c n e.
    let long = taken-length first bytes c n e in
    let left = length-drop n bytes in
    steps_enough steps more false (offset + n) (drop n bytes)
    (omega (arith, h, left, long.0, long.1))
    (omega (arith, k, left, long.0, long.1)))

-- The script from an offset on, by the reading there and the script after it.
pub judge-is_reading : (first : Bool) (offset : ℕ) (bytes : List ℕ)
    → judge_from first offset bytes
    ≡ go_on (read_command first bytes) offset bytes (λ n. judge_from false (offset + n) (drop n bytes))
unfolding judge_from
judge-is_reading first offset bytes =
    go_on_alike (read_command first bytes) offset bytes _ _ (λ c n e.
    let long = taken-length first bytes c n e in
    let left = length-drop n bytes in
    steps_enough (length bytes) (suc (length (drop n bytes))) false (offset + n) (drop n bytes)
    (omega (arith, left, long.0, long.1))
    (omega arith))

-- The same by cases: the reader refuses, the command is the end, the script goes on.
pub judged_refused : (first : Bool) (offset : ℕ) (bytes : List ℕ) (number : ℕ)
    → read_command first bytes ≡ refused number
    → judge_from first offset bytes ≡ record { commands = []; number = number; offset = offset }
judged_refused first offset bytes number e =
    judge-is_reading first offset bytes
    ∙ ap (λ (r : Reading). go_on r offset bytes (λ n. judge_from false (offset + n) (drop n bytes))) e

judged_taken : (first : Bool) (offset : ℕ) (bytes : List ℕ) (c : Command) (n : ℕ)
    → read_command first bytes ≡ taken c n
    → judge_from first offset bytes
    ≡ with_command c (choose (is_end c.kind) (after_end (offset + n) (drop n bytes))
    (judge_from false (offset + n) (drop n bytes)))
judged_taken first offset bytes c n e =
    judge-is_reading first offset bytes
    ∙ ap (λ (r : Reading). go_on r offset bytes (λ n. judge_from false (offset + n) (drop n bytes))) e

pub judged_end : (first : Bool) (offset : ℕ) (bytes : List ℕ) (c : Command) (n : ℕ)
    → read_command first bytes ≡ taken c n → is_end c.kind ≡ true
    → judge_from first offset bytes ≡ with_command c (after_end (offset + n) (drop n bytes))
judged_end first offset bytes c n e t = judged_taken first offset bytes c n e ∙ rw t

pub judged_on : (first : Bool) (offset : ℕ) (bytes : List ℕ) (c : Command) (n : ℕ)
    → read_command first bytes ≡ taken c n → is_end c.kind ≡ false
    → judge_from first offset bytes ≡ with_command c (judge_from false (offset + n) (drop n bytes))
judged_on first offset bytes c n e t = judged_taken first offset bytes c n e ∙ rw t

-- A whole script is judged from its start.
pub judged_from_start : (script : List ℕ) → judge script ≡ judge_from true 0 script
unfolding judge
judged_from_start script = refl
