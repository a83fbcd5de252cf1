-- The whole script, in three parts: the sizes at the start of the output, the arrivals behind them, the end behind
-- these.
use mathlib.Core.Path.{◌≡◌, sym, ap, ◌∙◌}
use mathlib.Core.List.{List, [], ◌∷◌, ◌++◌, append_assoc}
use Prim.Native.Nat.{ℕ, ◌+◌, ◌-◌, ◌*◌, ◌≤◌}
use native.Mathlib.Omega.{arith}
use lib.ListN.{length, take, drop, length-append, length-drop}
use Rattle.script_commands.specs.Commands as of
use Rattle.script_commands.specs.Commands.{command}
use Rattle.script_commands.specs.Scripts.{script_bytes}
use Rattle.script_commands.specs.declared.Command.TheVariants.{Sizes, End}
use Rattle.script_commands.proofs.ReadBack.{script-append}
use Rattle.script_codes.specs.Says.{put_over}
use Rattle.std.specs.Prelude.{Result}
use Rattle.scripts.specs.declared.Refusal.{Refusal}
use Rattle.scripts.specs.Says.{command_bytes_in, CommandWritten}
use Rattle.scripts.proofs.Parts.{rest_from}
use Rattle.capture_frames.specs.Frames.{frames_from}
use Rattle.capture_frames.specs.Script.{all_arrivals, or_none}
use Rattle.capture_frames.specs.Sentences.{captured_bytes}
use Rattle.captures.specs.Says.{FramesFit, FramesWritten, record_script}
use Rattle.captures.proofs.Over.{over_length, part_put, command-put}
use Rattle.captures.proofs.Written.{all_arrivals_length}

module _ {records output : List ℕ} (room : FramesFit 5 records output) where
  abbrev frames : List (List ℕ)
  frames = or_none (frames_from records)

  room_is : 5 + 3 * length (captured_bytes frames) ≤ length output
  room_is = rw room.frames_are room.enough

  abbrev middle : List ℕ
  middle = script_bytes (all_arrivals frames)

  -- The sizes.
  module _ {q b k : ℕ} {r : Result ℕ Refusal} {opened : List ℕ} (w : CommandWritten (Sizes q b k) output r opened) where
    abbrev opening : List ℕ
    opening = command_bytes_in (Sizes q b k)

    opened-is : opened ≡ put_over opening output
    opened-is = command-put w (omega (arith, room_is))

    opened-long : length opened ≡ length output
    opened-long = ap length opened-is ∙ over_length opening output (omega (arith, room_is))

    abbrev behind : List ℕ
    behind = take (length opened - 4) (drop 4 opened)

    behind_long : length behind ≡ length output - 4
    behind_long = omega (arith, ap length (rest_from 4 opened), length-drop 4 opened, opened-long)

    -- The arrivals.
    module _ {n : ℕ} {behind' : List ℕ} (v : FramesWritten records behind n behind') where
      abbrev filled : List ℕ
      filled = take 4 opened ++ (behind' ++ drop (length opened - 4) (drop 4 opened))

      filled_is : filled ≡ put_over (opening ++ middle) output
      filled_is = part_put opening middle output (omega arith) opened-is v.output_is

      written-long : length (opening ++ middle) ≡ 4 + n
      written-long =
          omega (arith, length-append opening middle, all_arrivals_length frames, v.length-is)

      pub end_within : 5 + n ≤ length filled
      end_within =
          omega (
            arith,
            ap length filled_is,
            over_length (opening ++ middle) output (omega (arith, written-long, v.length-is, room_is)),
            v.length-is,
            room_is,
          )

      -- The end.
      module _ {r' : Result ℕ Refusal} {last : List ℕ}
          (u : CommandWritten End (take (length filled - (4 + n)) (drop (4 + n) filled)) r' last) where
        end_put : last ≡ put_over (command_bytes_in End) (take (length filled - (4 + n)) (drop (4 + n) filled))
        end_put = command-put u
            (omega (arith, ap length (rest_from (4 + n) filled), length-drop (4 + n) filled, end_within))

        abbrev closed : List ℕ
        closed = take (4 + n) filled ++ (last ++ drop (length filled - (4 + n)) (drop (4 + n) filled))

        script-parts : record_script q b k records ≡ (opening ++ middle) ++ command_bytes_in End
        script-parts =
            ap (λ (bytes : List ℕ). opening ++ bytes) (script-append (all_arrivals frames) (command of.end [] ∷ []))
            ∙ sym (append_assoc opening middle (command_bytes_in End))

        pub closed_is : closed ≡ put_over (record_script q b k records) output
        closed_is =
            part_put (opening ++ middle) (command_bytes_in End) output (sym written-long) filled_is end_put
            ∙ ap (λ (bytes : List ℕ). put_over bytes output) (sym script-parts)
