-- A command given as numbers is written as the paper's writer does, where the numbers name one, and reads back as them.
use Rattle.std.specs.Prelude.{Result, Ok, Err}
use mathlib.Core.Path.{◌≡◌, refl, ap, sym, ◌∙◌}
use mathlib.Core.Bool.{true, false, not, ◌&&◌}
use mathlib.Core.List.{List}
use mathlib.Core.Option.{Option, some}
use Prim.Native.Nat.{ℕ}
use native.Mathlib.Omega.{arith}
use lib.Dec.{eqb, ltb}
use lib.ListN.{length}
use borrow.Author.Tests.{not-false}
use Rattle.model.proofs.basics.FirstRefusal.{no_refusal_at, when-zero}
use Rattle.model.proofs.basics.Tests.{by_test, by_option, none_not_some, some_inj, true_not_false}
use Rattle.script_commands.specs.declared.Command as code
use Rattle.script_commands.specs.Commands.{Kind, row, kind_of, Command}
use Rattle.script_commands.specs.Scripts.{read_command, command_bytes}
use Rattle.script_commands.specs.Values.{command_in}
use Rattle.script_commands.proofs.ReadBack.{reads_back}
use Rattle.script_codes.specs.Says.{put_over}
use Rattle.scripts.specs.declared.Refusal.{Refusal}
use Rattle.scripts.specs.declared.Refusal.TheVariants.{DoesNotFit}
use Rattle.scripts.specs.Says.{too_short, written_number_in, written_length_in, CommandWritten}
use Rattle.c_scripts.specs.declared.Numbers.{Numbers}
use Rattle.c_scripts.specs.Says.{given, fitting, command_for, bytes_for, named_number, named_command, CommandNamed}
use Rattle.c_scripts.specs.Says.{put_of, NumbersWritten, NumbersBack, numbers_of, cut_command, is_first, reading_of}
use Rattle.c_scripts.specs.Says.{write_refusals, write_number}
use Rattle.c_scripts.proofs.Fitting.{same_operands, alike, operands_fit, cut-is, told_back}

put_number : (w : Result ℕ Refusal) → (put_of w).number ≡ written_number_in w
put_number (Ok n) = refl
put_number (Err e) = refl

put_length : (w : Result ℕ Refusal) → (put_of w).length ≡ written_length_in w
put_length (Ok n) = refl
put_length (Err e) = refl

module _ (n : Numbers) (output : List ℕ) {c : code.Command} (named : CommandNamed n (Ok c)) where
  -- The code is that of a row, and the numbers fit it.
  by_kind : {A : Type 0}
      → ((k : Kind) → kind_of n.code ≡ some k → fitting (row k).operands (given n) ≡ true
      → command_in c ≡ command_for k n → A)
      → A
  by_kind go = by_option (kind_of n.code)
      (λ e. let z : ◌≡◌ {A = ℕ} 0 12 = named.number_is ∙ ap (λ (found : Option Kind). named_number found n) e in absurd (omega arith))
      (λ k e. by_test (fitting (row k).operands (given n))
      (λ fit. go k e fit (some_inj _ _ (named.command_is ∙ ap (λ (found : Option Kind). named_command found n) e ∙ rw fit)))
      (λ unfit.
      let z : ◌≡◌ {A = ℕ} 0 16 = named.number_is ∙ ap (λ (found : Option Kind). named_number found n) e ∙ rw unfit in
      absurd (omega arith)))

  pub named-written : {w : Result ℕ Refusal} {output' : List ℕ} → CommandWritten c output w output'
      → NumbersWritten n output (put_of w) output'
  named-written {w} {output'} written = by_kind (λ k known fit same.
      by_test (ltb (length output) (length (bytes_for (some k) n)))
      (λ t.
      let short : too_short c output ≡ true = rw same t in
      let number : (put_of w).number ≡ 16 = put_number w ∙ written.number_is ∙ rw short in
      record {
        number_is = number ∙ sym (rw (known, fit, t));
        length-is = put_length w ∙ written.length-is ∙ rw (short, number);
        output_is = written.output_is ∙ rw (short, number);
      })
      (λ t.
      let room : too_short c output ≡ false = rw same t in
      let number : (put_of w).number ≡ 0 = put_number w ∙ written.number_is ∙ rw room in
      record {
        number_is = number ∙ sym (rw (known, fit, t));
        length-is = put_length w ∙ written.length-is ∙ rw (room, number, known, same);
        output_is =
            written.output_is
            ∙ rw (room, number, known)
            (ap (λ (x : Command). put_over (command_bytes x) output) same);
      }))

-- A command that is told as other numbers than were given was cut: the numbers do not fit it.
pub unfitting : (n : Numbers) (c : code.Command) (back : Numbers) → some (command_in c) ≡ cut_command (kind_of n.code) n
    → back ≡ numbers_of (command_in c) → true ≡ not (eqb back.code n.code && same_operands back n)
    → CommandNamed n (Err DoesNotFit)
unfitting n c back is-cut told other = by_option (kind_of n.code)
    (λ e. absurd (none_not_some _ (sym (is-cut ∙ ap (λ (found : Option Kind). cut_command found n) e))))
    (λ k e. by_test (fitting (row k).operands (given n))
    (λ fit.
    let same : command_in c ≡ command_for k n =
    some_inj _ _ (is-cut ∙ ap (λ (found : Option Kind). cut_command found n) e) ∙ cut-is k n fit in
    absurd (true_not_false true refl (other
    ∙ ap (λ (x : Numbers). not (eqb x.code n.code && same_operands x n))
    (told ∙ ap numbers_of same ∙ told_back k n fit e)
    ∙ ap not (alike n))))
    (λ unfit. record { number_is = rw (e, unfit); command_is = rw (e, unfit) }))

-- What is written reads back as the same numbers.
pub numbers-back : NumbersBack
numbers-back n output output' w first r k says accepted known in_place reads =
    reads
    ∙ ap reading_of (
    ap (read_command (is_first first)) left
    ∙ reads_back (is_first first) (command_for k n) _ (operands_fit (row k).operands (given n) fit) in_place)
    ∙ rw (told_back k n fit known, long)
  where
    refusals : write_number (some k) n output ≡ 0
    refusals = sym (says.number_is ∙ rw known) ∙ accepted

    fit : fitting (row k).operands (given n) ≡ true
    fit = not-false (fitting (row k).operands (given n))
        (when-zero (not (fitting (row k).operands (given n))) 15 (no_refusal_at (write_refusals k n output) 0 refusals))

    left : output' ≡ put_over (bytes_for (some k) n) output
    left = says.output_is ∙ rw (accepted, known)

    long : w.length ≡ length (bytes_for (some k) n)
    long = says.length-is ∙ rw (accepted, known)
