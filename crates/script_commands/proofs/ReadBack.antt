-- What is written reads back: a number from the bytes that hold it, operands from theirs, a command from its own with
-- whatever follows, and a script in order from its commands' bytes. Each operand takes its own width, and a code is
-- that of one kind, so that the reader finds each where the writer put it.
use mathlib.Core.Path.{◌≡◌, refl, ap, sym, ◌∙◌}
use mathlib.Core.Bool.{Bool, true, false}
use mathlib.Core.List.{List, [], ◌∷◌, ◌++◌, append_assoc}
use mathlib.Core.Option.{Option}
use Prim.Native.Nat.{ℕ, zero, suc, ◌+◌, ◌*◌, ◌/◌, ◌%◌, ◌<◌, ◌≤◌}
use native.Mathlib.Omega.{arith}
use lib.ListN.{length, drop, length-append}
use lib.Seq.{drop-append_seam, drop_at}
use Rattle.model.specs.Basics.{All}
use Rattle.script_commands.specs.Commands.{Operand, Kind, Command, command, width, row, widths, number_in, bytes_of}
use Rattle.script_commands.specs.Commands.{bound, operands_in, operand_bytes, Fitting, OperandsFit}
use Rattle.script_commands.specs.Scripts.{taken, out_of_place, read_code, read_command, after_end, with_command}
use Rattle.script_commands.specs.Scripts.{judge_from, judge, command_bytes, script_bytes, InOrder, ends, goes_on}
use Rattle.script_commands.proofs.Table.{kind_of_code}
use Rattle.script_commands.proofs.Judging.{reads_taken, judged_end, judged_on, judged_from_start}

-- One number in n bytes.
pub bytes-length : (n v : ℕ) → length (bytes_of n v) ≡ n
bytes-length zero v = refl
bytes-length (suc n) v = ap suc (bytes-length n (v / 256))

pub number_back : (n v : ℕ) (rest : List ℕ) → v < bound n → number_in n (bytes_of n v ++ rest) ≡ v
number_back zero v rest h = omega (arith, h)
number_back (suc n) v rest h =
    ap (λ (high : ℕ). v % 256 + 256 * high) (number_back n (v / 256) rest (omega (arith, h)))
    ∙ omega arith

-- The operands of a row.
pub operands_length : (os : List Operand) (values : List ℕ) → Fitting os values
    → length (operand_bytes os values) ≡ widths os
operands_length [] values h = refl
operands_length (o ∷ os) [] h = absurd h
operands_length (o ∷ os) (v ∷ values) h =
    length-append (bytes_of (width o) v) (operand_bytes os values)
    ∙ rw (bytes-length (width o) v, operands_length os values h.1)

pub operands_back : (os : List Operand) (values rest : List ℕ) → Fitting os values
    → operands_in os (operand_bytes os values ++ rest) ≡ values
operands_back [] [] rest h = refl
operands_back [] (v ∷ values) rest h = absurd h
operands_back (o ∷ os) [] rest h = absurd h
operands_back (o ∷ os) (v ∷ values) rest h =
    ap (λ (bytes : List ℕ). number_in (width o) bytes ∷ operands_in os (drop (width o) bytes))
    (append_assoc (bytes_of (width o) v) (operand_bytes os values) rest)
    ∙ rw (
      number_back (width o) v (operand_bytes os values ++ rest) h.0,
      drop_at (bytes_of (width o) v) (operand_bytes os values ++ rest) (width o) (bytes-length (width o) v),
      operands_back os values rest h.1,
    )

-- A command: it is read as itself with its length, whatever follows it.
pub reads_back : (first : Bool) (c : Command) (rest : List ℕ) → OperandsFit c → out_of_place first c.kind ≡ false
    → read_command first (command_bytes c ++ rest) ≡ taken c (length (command_bytes c))
reads_back first c rest h t =
    ap (λ (found : Option Kind). read_code first found (operand_bytes (row c.kind).operands c.operands ++ rest))
    (kind_of_code c.kind)
    ∙ reads_taken first c.kind _ t long
    ∙ ap (λ (values : List ℕ). taken (command c.kind values) (1 + widths (row c.kind).operands))
    (operands_back (row c.kind).operands c.operands rest h)
    ∙ ap (taken c) (omega (arith, operands_length (row c.kind).operands c.operands h))
  where
    long : widths (row c.kind).operands ≤ length (operand_bytes (row c.kind).operands c.operands ++ rest)
    long = omega (
      arith,
      operands_length (row c.kind).operands c.operands h,
      length-append (operand_bytes (row c.kind).operands c.operands) rest,
    )

-- The bytes of two lists of commands, one behind the other.
pub script-append : (cs ds : List Command) → script_bytes (cs ++ ds) ≡ script_bytes cs ++ script_bytes ds
script-append [] ds = refl
script-append (c ∷ cs) ds =
    ap (λ (bytes : List ℕ). command_bytes c ++ bytes) (script-append cs ds)
    ∙ sym (append_assoc (command_bytes c) (script_bytes cs) (script_bytes ds))

-- A script in order is judged good, and its commands are those that were written.
pub script-reads_back : (first : Bool) (offset : ℕ) (cs : List Command) → InOrder first cs → All OperandsFit cs
    → judge_from first offset (script_bytes cs) ≡ record { commands = cs; number = 0; offset = 0 }
script-reads_back first offset [] x' h = elim x' [ ]
script-reads_back first offset (c ∷ []) (ends t e) h =
    judged_end first offset (command_bytes c ++ []) c (length (command_bytes c)) (reads_back first c [] h.0 t) e
    ∙ ap (λ (bytes : List ℕ). with_command c (after_end (offset + length (command_bytes c)) bytes))
    (drop-append_seam (command_bytes c) [])
script-reads_back first offset (c ∷ cs) (goes_on t e in_order) h =
    judged_on first offset (script_bytes (c ∷ cs)) c (length (command_bytes c)) (reads_back first c _ h.0 t) e
    ∙ ap (λ (bytes : List ℕ). with_command c (judge_from false (offset + length (command_bytes c)) bytes))
    (drop-append_seam (command_bytes c) (script_bytes cs))
    ∙ ap (with_command c) (script-reads_back false (offset + length (command_bytes c)) cs in_order h.1)

pub script-judged_good : (cs : List Command) → InOrder true cs → All OperandsFit cs
    → judge (script_bytes cs) ≡ record { commands = cs; number = 0; offset = 0 }
script-judged_good cs in_order h = judged_from_start (script_bytes cs) ∙ script-reads_back true 0 cs in_order h
