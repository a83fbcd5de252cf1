-- A command written reads back as itself, and a script that is written in order is judged good and read as it was
-- written: the contracts of writer, reader and judge give the bytes, and the laws of the definitions do the rest.
use Rattle.std.specs.Prelude.{⊤, Result, Ok, Err}
use mathlib.Core.Path.{◌≡◌, refl, ap, sym, ◌∙◌}
use mathlib.Core.Bool.{Bool, true, false}
use mathlib.Core.List.{List, [], ◌∷◌, ◌++◌, map}
use Prim.Native.Nat.{ℕ}
use native.Mathlib.Omega.{arith}
use lib.ListN.{length, take, drop}
use lib.Seq.{take-append_seam, take-append-add, drop-append_seam}
use Rattle.model.specs.Basics.{All, choose}
use Rattle.model.proofs.basics.FirstRefusal.{when-zero}
use Rattle.model.proofs.basics.Tests.{true_not_false}
use Rattle.script_commands.specs.declared.Command as code
use Rattle.script_commands.specs.Commands.{Command, is_end, OperandsFit}
use Rattle.script_commands.specs.Scripts.{taken, out_of_place, read_command, Script, judge}
use Rattle.script_commands.specs.Scripts.{command_bytes, script_bytes, InOrder, ends, goes_on}
use Rattle.script_commands.specs.Values.{command_in}
use Rattle.script_commands.proofs.Judging.{refused-not_taken, taken-same_command, taken-same_length}
use Rattle.script_commands.proofs.ReadBack.{reads_back, script-judged_good}
use Rattle.script_commands.proofs.Values.{command-inj, commands_inj}
use Rattle.scripts.specs.declared.Fault.{Fault}
use Rattle.scripts.specs.declared.Refusal.{Refusal}
use Rattle.scripts.specs.declared.Refusal.TheVariants.{UnknownCode, CutShort, OutOfPlace, WrongEnd, DoesNotFit}
use Rattle.scripts.specs.Says.{number_of, reading_in, fault_number_in, written_number_in, written_length_in}
use Rattle.scripts.specs.Says.{command_bytes_in, too_short, CommandWritten}
use Rattle.scripts.specs.Back.{CommandBack, Writes, none_written, next_written, Reads, end_read, next_read}
use Rattle.scripts.specs.Back.{ScriptBack, ReadBack}

nil_not_cons : {A : Type 0} (x : A) (xs : List A) → ◌≡◌ {A = List A} [] (x ∷ xs) → ⊥
nil_not_cons x xs e = let z : ◌≡◌ {A = ℕ} 0 1 = cc in omega arith

-- A reader's answer is known by its reading.
reading_inj : (r : Result (code.Command × ℕ) Refusal) (c : code.Command) (n : ℕ)
    → reading_in r ≡ taken (command_in c) n → r ≡ Ok (c, n)
reading_inj (Ok t) c n e =
    ap (λ (b : code.Command). Ok (b, t.1)) (command-inj t.0 c (taken-same_command _ _ t.1 n e))
    ∙ ap (λ (m : ℕ). Ok (c, m)) (taken-same_length _ _ t.1 n e)
reading_inj (Err m) c n e = absurd (refused-not_taken (number_of m) (command_in c) n e)

-- No refusal has the number 0, so that a judge's answer of 0 is Ok.
pub number_not_zero : (r : Refusal) → number_of r ≡ 0 → ⊥
number_not_zero UnknownCode e = omega arith
number_not_zero CutShort e = omega arith
number_not_zero OutOfPlace e = omega arith
number_not_zero WrongEnd e = omega arith
number_not_zero DoesNotFit e = omega arith

good_inj : (j : Result ⊤ Fault) → fault_number_in j ≡ 0 → j ≡ Ok tt
good_inj (Ok t) e = refl
good_inj (Err f) e = absurd (number_not_zero f.refusal e)

-- What an accepted write leaves: the command's bytes, and the output behind them.
module _ (c : code.Command) (output output' : List ℕ) (w : Result ℕ Refusal) (n : ℕ)
    (says : CommandWritten c output w output') (accepted : w ≡ Ok n) where
  long_enough : too_short c output ≡ false
  long_enough = when-zero (too_short c output) 15 (sym says.number_is ∙ ap written_number_in accepted)

  written-length : n ≡ length (command_bytes_in c)
  written-length = ap written_length_in (sym accepted) ∙ says.length-is ∙ ap (λ (t : Bool). choose t 0 (length (command_bytes_in c))) long_enough

  written-output : output' ≡ command_bytes_in c ++ drop (length (command_bytes_in c)) output
  written-output =
      says.output_is
      ∙ ap (λ (t : Bool). choose t output (command_bytes_in c ++ drop (length (command_bytes_in c)) output)) long_enough

  written-bytes : take n output' ≡ command_bytes_in c
  written-bytes = rw (written-length, written-output) (take-append_seam (command_bytes_in c) _)

command-back : CommandBack
command-back c output output' w n first r says accepted t reads =
    reading_inj r c n (
    reads
    ∙ ap (read_command first) (written-output c output output' w n says accepted)
    ∙ reads_back first (command_in c) _ says.fits t
    ∙ ap (taken (command_in c)) (sym (written-length c output output' w n says accepted)))

-- What a script's writing leaves at the start of the output.
all_fit : (cs : List code.Command) (output output' : List ℕ) (n : ℕ) → Writes cs output output' n
    → All OperandsFit (map command_in cs)
all_fit [] output output' n none_written = tt
all_fit (c ∷ cs) output output' n (next_written says accepted rest) = (says.fits, all_fit cs _ _ _ rest)

script-written : (cs : List code.Command) (output output' : List ℕ) (n : ℕ) → Writes cs output output' n
    → take n output' ≡ script_bytes (map command_in cs)
script-written [] output output' n none_written = refl
script-written (c ∷ cs) output output' n
    (next_written {output' = here} {rest' = rest} {w = w} {m = m} {n = k} says accepted writes) =
    rw (written-bytes c output here w m says accepted, written-length c output here w m says accepted)
    (take-append-add (command_bytes_in c) rest k)
    ∙ ap (λ (bytes : List ℕ). command_bytes_in c ++ bytes) (script-written cs _ rest k writes)

same_end : (c : code.Command) (d : Command) → command_in c ≡ d → is_end (command_in c).kind ≡ is_end d.kind
same_end c d same = ap (λ (b : Command). is_end b.kind) same

-- One command read from the bytes of one that was written: it is that one, and what is left is what follows it.
module _ (first : Bool) (d : Command) (bytes rest : List ℕ) (r : Result (code.Command × ℕ) Refusal) (c : code.Command) (n : ℕ)
    (is-bytes : bytes ≡ command_bytes d ++ rest) (fits : OperandsFit d) (in_place : out_of_place first d.kind ≡ false)
    (reads : reading_in r ≡ read_command first bytes) (is_taken : r ≡ Ok (c, n)) where
  same-reading : taken (command_in c) n ≡ taken d (length (command_bytes d))
  same-reading =
      ap reading_in (sym is_taken) ∙ reads ∙ ap (read_command first) is-bytes ∙ reads_back first d rest fits in_place

  command-read : command_in c ≡ d
  command-read = taken-same_command (command_in c) d n _ same-reading

  rest_left : drop n bytes ≡ rest
  rest_left = rw (taken-same_length (command_in c) d n _ same-reading, is-bytes) (drop-append_seam (command_bytes d) rest)

  kind_read : (t : Bool) → is_end (command_in c).kind ≡ t → is_end d.kind ≡ t
  kind_read t e = sym (same_end c d command-read) ∙ e

script-read : (first : Bool) (ds : List Command) → InOrder first ds → All OperandsFit ds
    → (bytes : List ℕ) → bytes ≡ script_bytes ds → (read : List code.Command) → Reads first bytes read
    → map command_in read ≡ ds
script-read first [] x' fits bytes e read x'' = elim x' [ ]
script-read first (d ∷ []) (ends in_place last) fits bytes e [] x'' = elim x'' [ ]
script-read first (d ∷ ds) (goes_on in_place on order) fits bytes e [] x'' = elim x'' [ ]
script-read first (d ∷ []) (ends in_place last) fits bytes e (c ∷ [])
    (end_read {r = r} {n = n} reads is_taken is-end) =
    ap (λ (b : Command). b ∷ []) (command-read first d bytes [] r c n e fits.0 in_place reads is_taken)
script-read first (d ∷ []) (ends in_place last) fits bytes e (c ∷ cs)
    (next_read {r = r} {n = n} reads is_taken on more) =
    absurd (true_not_false _ last (kind_read first d bytes [] r c n e fits.0 in_place reads is_taken false on))
script-read first (d ∷ ds) (goes_on in_place on order) fits bytes e (c ∷ [])
    (end_read {r = r} {n = n} reads is_taken is-end) =
    absurd (true_not_false _ (kind_read first d bytes _ r c n e fits.0 in_place reads is_taken true is-end) on)
script-read first (d ∷ ds) (goes_on in_place on order) fits bytes e (c ∷ cs)
    (next_read {r = r} {n = n} reads is_taken goes more) =
    let left = rest_left first d bytes (script_bytes ds) r c n e fits.0 in_place reads is_taken in
    rw (command-read first d bytes (script_bytes ds) r c n e fits.0 in_place reads is_taken)
    (ap (λ (bs : List Command). d ∷ bs) (script-read false ds order fits.1 (drop n bytes) left cs more))

-- And there is such a reading: each command is taken in its turn.
answer-is : (first : Bool) (d : Command) (bytes rest : List ℕ) (c : code.Command)
    → bytes ≡ command_bytes d ++ rest → OperandsFit d → out_of_place first d.kind ≡ false → command_in c ≡ d
    → reading_in (Ok (c, length (command_bytes d))) ≡ read_command first bytes
answer-is first d bytes rest c e fits in_place same =
    ap (λ (b : Command). taken b (length (command_bytes d))) same
    ∙ sym (ap (read_command first) e ∙ reads_back first d rest fits in_place)

script-can_be_read : (first : Bool) (ds : List Command) → InOrder first ds → All OperandsFit ds
    → (bytes : List ℕ) → bytes ≡ script_bytes ds → (cs : List code.Command) → map command_in cs ≡ ds
    → Reads first bytes cs
script-can_be_read first [] x' fits bytes e cs f = elim x' [ ]
script-can_be_read first (d ∷ []) (ends in_place last) fits bytes e [] f = absurd (nil_not_cons d [] f)
script-can_be_read first (d ∷ []) (ends in_place last) fits bytes e (c ∷ []) f =
    let same : command_in c ≡ d = cc in
    end_read (answer-is first d bytes [] c e fits.0 in_place same) refl (same_end c d same ∙ last)
script-can_be_read first (d ∷ []) (ends in_place last) fits bytes e (c ∷ b ∷ cs) f =
    let left : map command_in (b ∷ cs) ≡ [] = cc in
    absurd (nil_not_cons _ _ (sym left))
script-can_be_read first (d ∷ ds) (goes_on in_place on order) fits bytes e [] f = absurd (nil_not_cons d ds f)
script-can_be_read first (d ∷ ds) (goes_on in_place on order) fits bytes e (c ∷ cs) f =
    let same : command_in c ≡ d = cc in
    let more : map command_in cs ≡ ds = cc in
    let left = ap (drop (length (command_bytes d))) e ∙ drop-append_seam (command_bytes d) (script_bytes ds) in
    next_read (answer-is first d bytes (script_bytes ds) c e fits.0 in_place same) refl (same_end c d same ∙ on)
    (script-can_be_read false ds order fits.1 (drop (length (command_bytes d)) bytes) left cs more)

script-back : (cs : List code.Command) (output output' : List ℕ) (n : ℕ)
    → InOrder true (map command_in cs) → Writes cs output output' n → ScriptBack cs output' n
script-back cs output output' n order writes = record {
  judged_good = λ j says. good_inj j (says.number_is ∙ ap (λ (s : Script). s.number) judged);
  commands_are = ap (λ (s : Script). s.commands) judged;
  reads_are = λ read reads. commands_inj read cs (script-read true (map command_in cs) order fit _ written read reads);
  reads_run = script-can_be_read true (map command_in cs) order fit (take n output') written cs refl;
}
  where
    written : take n output' ≡ script_bytes (map command_in cs)
    written = script-written cs output output' n writes

    fit : All OperandsFit (map command_in cs)
    fit = all_fit cs output output' n writes

    judged : judge (take n output') ≡ record { commands = map command_in cs; number = 0; offset = 0 }
    judged = ap judge written ∙ script-judged_good (map command_in cs) order fit

pub read_back : ReadBack
read_back = record { command-back = command-back; script-back = script-back }
