-- A script that was written stands at the start of the output, and is that of a good capture.
use mathlib.Core.Path.{◌≡◌, sym, ap, ◌∙◌}
use mathlib.Core.List.{List}
use Prim.Native.Nat.{ℕ}
use lib.ListN.{length, take, drop}
use lib.Seq.{take-append_seam}
use Rattle.model.specs.Sizes.{sizes}
use Rattle.model.proofs.basics.FirstRefusal.{no_refusal_at}
use Rattle.capture_frames.specs.Script.{capture_script, capture_refusals, capture_number, output_after}
use Rattle.std.specs.Prelude.{Result, Ok}
use Rattle.captures.specs.declared.Refusal.{Refusal}
use Rattle.captures.specs.Says.{numbered, conversion_of, ConvertedSays}
use Rattle.captures.proofs.Told.{number_told, length_told, told-number}
use Rattle.capture.specs.Says.{IsCaptureScript}

module _ {q b k : ℕ} {capture output : List ℕ} {r : Result ℕ Refusal} {output' : List ℕ}
    (says : ConvertedSays q b k capture output r output') {n : ℕ} (is : r ≡ Ok n) where
  abbrev number : ℕ
  number = capture_number (sizes q b k) capture (length output)

  abbrev script : List ℕ
  script = capture_script (sizes q b k) capture

  -- Only the number 0 writes.
  none_refused : number ≡ 0
  none_refused =
      sym (told-number number script) ∙ sym (ap number_told says.answer-is) ∙ ap (λ (z : Result ℕ Refusal). number_told (numbered z)) is

  length-is : n ≡ length script
  length-is =
      ap length_told (ap numbered (sym is) ∙ says.answer-is ∙ ap (λ (m : ℕ). conversion_of m script) none_refused)

  output_is : output' ≡ output_after 0 script output
  output_is = says.output_is ∙ ap (λ (m : ℕ). output_after m script output) none_refused

  pub is_script : IsCaptureScript (take n output')
  is_script = record {
    sizes = sizes q b k;
    capture = capture;
    good = no_refusal_at (capture_refusals (sizes q b k) capture (length output)) 0 none_refused;
    bytes_are =
        ap (λ (m : ℕ). take m output') length-is
        ∙ ap (take (length script)) output_is
        ∙ take-append_seam script (drop (length script) output);
  }
