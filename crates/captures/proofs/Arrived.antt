-- The loop over a frame's bytes: before turn i the arrivals of i bytes stand at the start of the output.
use mathlib.Core.Path.{◌≡◌, refl, sym, ap, ◌∙◌}
use mathlib.Core.List.{List, [], ◌∷◌, ◌++◌, map-append}
use Prim.Native.Nat.{ℕ, ◌+◌, ◌-◌, ◌*◌, ◌≤◌, ◌<◌}
use native.Mathlib.Omega.{arith}
use native.Mathlib.Numerals.{add-one}
use lib.ListN.{length, take, drop, get_or, length-drop}
use lib.Seq.{take-suc, length-take-le}
use Rattle.script_commands.specs.Commands as of
use Rattle.script_commands.specs.Commands.{command}
use Rattle.script_commands.specs.Scripts.{script_bytes}
use Rattle.script_commands.specs.declared.Command.TheVariants.{Arrive}
use Rattle.script_commands.proofs.ReadBack.{script-append}
use Rattle.script_codes.specs.Says.{put_over}
use Rattle.std.specs.Prelude.{Result}
use Rattle.scripts.specs.declared.Refusal.{Refusal}
use Rattle.scripts.specs.Says.{command_bytes_in, CommandWritten}
use Rattle.scripts.proofs.Parts.{rest_from}
use Rattle.capture_frames.specs.Script.{arrivals}
use Rattle.captures.proofs.Over.{over_length, part_put, command-put}

-- An arrival has three bytes.
pub arrivals-length : (q : ℕ) (frame : List ℕ) → length (script_bytes (arrivals q frame)) ≡ 3 * length frame
arrivals-length q [] = refl
arrivals-length q (v ∷ frame) = omega (arith, arrivals-length q frame)

-- Before turn i the arrivals of i bytes stand at the start of the output.
pub record ArrivedTo (q i : ℕ) (frame output output' : List ℕ) : Type 0 where
  pub within : i ≤ length frame
  pub same_length : length output' ≡ length output
  pub output_is : output' ≡ put_over (script_bytes (arrivals q (take i frame))) output

-- One byte more is one command more.
arrival-more : (q i : ℕ) (frame : List ℕ) → i < length frame
    → script_bytes (arrivals q (take (i + 1) frame))
    ≡ script_bytes (arrivals q (take i frame)) ++ command_bytes_in (Arrive q (get_or frame i 0))
arrival-more q i frame more =
    rw (
      add-one i,
      take-suc frame i 0 more,
      map-append (λ (v : ℕ). command of.arrive (q ∷ v ∷ [])) (take i frame)
          (get_or frame i 0 ∷ []),
    )
    (script-append (arrivals q (take i frame)) (arrivals q (get_or frame i 0 ∷ [])))

module _ {q i : ℕ} {frame output output' : List ℕ} (w : ArrivedTo q i frame output output')
    (room : 3 * length frame ≤ length output) where
  place_is : 3 * i ≡ length (script_bytes (arrivals q (take i frame)))
  place_is = sym (arrivals-length q (take i frame) ∙ ap (λ (n : ℕ). 3 * n) (length-take-le i frame w.within))

  module _ (more : i < length frame) {part' : List ℕ} {r : Result ℕ Refusal}
      (says : CommandWritten (Arrive q (get_or frame i 0)) (take (length output' - 3 * i) (drop (3 * i) output')) r part')
    where
      put_there : part' ≡ put_over (command_bytes_in (Arrive q (get_or frame i 0)))
          (take (length output' - 3 * i) (drop (3 * i) output'))
      put_there = command-put says
          (omega (arith, ap length (rest_from (3 * i) output'), length-drop (3 * i) output', w.same_length))

      abbrev whole : List ℕ
      whole = take (3 * i) output' ++ (part' ++ drop (length output' - 3 * i) (drop (3 * i) output'))

      arrived_is : whole ≡ put_over (script_bytes (arrivals q (take (i + 1) frame))) output
      arrived_is =
          part_put (script_bytes (arrivals q (take i frame))) (command_bytes_in (Arrive q (get_or frame i 0))) output
          place_is w.output_is put_there
          ∙ ap (λ (bytes : List ℕ). put_over bytes output) (sym (arrival-more q i frame more))

      pub arrivals-go_on : ArrivedTo q (i + 1) frame output whole
      arrivals-go_on = record {
        within = omega arith;
        same_length =
            ap length arrived_is
            ∙ over_length (script_bytes (arrivals q (take (i + 1) frame))) output
            (omega (
              arith,
              arrivals-length q (take (i + 1) frame),
              length-take-le (i + 1) frame (omega arith),
            ));
        output_is = arrived_is;
      }
