-- The whole conversion, by its answers in the order of judging: each test is reached where those before it found
-- nothing.
use mathlib.Core.Path.{◌≡◌, refl, sym, ap, ◌∙◌}
use mathlib.Core.Bool.{true}
use mathlib.Core.List.{List}
use mathlib.Core.Option as maybe
use mathlib.Core.Option.{some, none}
use Prim.Native.Nat.{ℕ, suc, ◌+◌, ◌-◌, ◌*◌, ◌≤◌, ◌<◌}
use native.Mathlib.Omega.{arith}
use lib.ListN.{length, take, drop}
use Rattle.std.specs.Prelude.{Option, Some, None, Ok, Err}
use Rattle.model.specs.Sizes.{Sizes, sizes, paper_limits, accepts}
use Rattle.script_codes.specs.Says.{put_over}
use Rattle.scripts.proofs.Parts.{rest_from}
use Rattle.capture_frames.specs.Frames.{header_good, frames_from, frames_in}
use Rattle.capture_frames.specs.Script.{capture_script, faulty, capture_fault, capture_number, output_after}
use Rattle.capture_frames.specs.Sentences.{captured_bytes}
use Rattle.capture_frames.proofs.Order.{answers-18, answers-none, fault_first, answers-16, answers-0}
use Rattle.capture_frames.proofs.Commands.{script-length}
use Rattle.captures.specs.declared.Refusal.{Refusal}
use Rattle.captures.specs.declared.Refusal.TheVariants.{FaultyRecord, OutputTooShort}
use Rattle.captures.specs.Says.{measured_of, record_script, number_of, conversion_of, ConvertedSays}

-- What counting the frames' bytes tells of the frames.
none_measured : (o : maybe.Option (List (List ℕ))) → None ≡ measured_of o → faulty o ≡ true
none_measured none e = refl
none_measured (some frames) e = cc

some_measured : (o : maybe.Option (List (List ℕ))) (n : ℕ) → Some n ≡ measured_of o
    → (frames : List (List ℕ)) × (o ≡ some frames) × (n ≡ length (captured_bytes frames))
some_measured none n e = cc
some_measured (some frames) n e = (frames, refl, cc)

-- The tests up to the header found nothing, and the records behind it are measured.
pub record Passed (q b k : ℕ) (capture : List ℕ) (r : Option ℕ) : Type 0 where
  pub accepted : accepts paper_limits (sizes q b k) ≡ true
  pub many : 8 ≤ q
  pub header : header_good capture ≡ true
  pub measured : r ≡ measured_of (frames_from (take (length capture - 24) (drop 24 capture)))

refused-with : {q b k : ℕ} {capture output : List ℕ} (n : ℕ) (refusal : Refusal) → number_of refusal ≡ suc n
    → capture_number (sizes q b k) capture (length output) ≡ suc n
    → ConvertedSays q b k capture output (Err refusal) output
refused-with {q} {b} {k} {capture} {output} n refusal number e = record {
  answer-is = ap Err number ∙ sym (ap (λ (m : ℕ). conversion_of m (capture_script (sizes q b k) capture)) e);
  output_is = sym (ap (λ (m : ℕ). output_after m (capture_script (sizes q b k) capture) output) e);
}

module _ {q b k : ℕ} {capture : List ℕ} {r : Option ℕ} (p : Passed q b k capture r) where
  abbrev s : Sizes
  s = sizes q b k

  abbrev script : List ℕ
  script = capture_script s capture

  all_measured : r ≡ measured_of (frames_in capture)
  all_measured = p.measured ∙ ap (λ (rest : List ℕ). measured_of (frames_from rest)) (rest_from 24 capture)

  pub refuses_18 : {output : List ℕ} → r ≡ None → ConvertedSays q b k capture output (Err FaultyRecord) output
  refuses_18 {output} is =
      let at-fault = none_measured (frames_in capture) (sym is ∙ all_measured) in
      refused-with 17 FaultyRecord refl
      (fault_first s capture (length output)
      (answers-18 s capture p.accepted p.many p.header at-fault))

  module _ {n : ℕ} (is : r ≡ Some n) where
    found : (frames : List (List ℕ)) × (frames_in capture ≡ some frames) × (n ≡ length (captured_bytes frames))
    found = some_measured (frames_in capture) n (sym is ∙ all_measured)

    script-long : length script ≡ 5 + 3 * n
    script-long =
        script-length s capture ∙ rw found.1 (ap (λ (m : ℕ). 5 + 3 * m) (sym found.2))

    no_fault : capture_fault s capture ≡ 0
    no_fault = answers-none s capture p.accepted p.many p.header (ap faulty found.1)

    pub refuses_16 : {output : List ℕ} → length output < 5 + 3 * n
        → ConvertedSays q b k capture output (Err OutputTooShort) output
    refuses_16 {output} short =
        refused-with 15 OutputTooShort refl (answers-16 s capture (length output) no_fault (omega (arith, script-long)))

    pub script-written : {output output' : List ℕ} → 5 + 3 * n ≤ length output
        → output' ≡ put_over (record_script q b k (take (length capture - 24) (drop 24 capture))) output
        → ConvertedSays q b k capture output (Ok (5 + 3 * n)) output'
    script-written {output} {output'} enough put = record {
      answer-is =
          ap Ok (sym script-long) ∙ sym (ap (λ (m : ℕ). conversion_of m script) none_refused);
      output_is =
          put
          ∙ ap (λ (rest : List ℕ). put_over (record_script q b k rest) output) (rest_from 24 capture)
          ∙ sym (ap (λ (m : ℕ). output_after m script output) none_refused);
    }
      where
        none_refused : capture_number s capture (length output) ≡ 0
        none_refused = answers-0 s capture (length output) no_fault (omega (arith, script-long))
