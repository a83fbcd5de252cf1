-- Document 02, 2.3: the script that a capture becomes, and the answers.
use Rattle.std.specs.Prelude.{Bool, true, false, not, List, [], ◌∷◌, ◌++◌, map, ℕ, zero, suc, ltb, length, drop}
use Rattle.std.proofs.Math.Option.{Option, some, none}
use Rattle.model.specs.Basics.{when, first_refusal}
use Rattle.model.specs.Sizes.{Sizes, paper}
use Rattle.model.specs.State.{making_number}
use Rattle.script_commands.specs.Commands as of
use Rattle.script_commands.specs.Commands.{Command, command}
use Rattle.script_commands.specs.Scripts.{script_bytes}
use Rattle.capture_frames.specs.Frames.{header_good, frames_in, priority_of}

-- "The queue of a frame is its IEEE 802.1Q priority".
abbrev pub queue_of : List ℕ → ℕ
queue_of frame = priority_of frame

-- "Every captured byte becomes one arrival command. An empty frame gives none."
abbrev pub arrivals : ℕ → List ℕ → List Command
arrivals queue frame = map (λ v. command of.arrive (queue ∷ v ∷ [])) frame

abbrev pub all_arrivals : List (List ℕ) → List Command
all_arrivals [] = []
all_arrivals (frame ∷ frames) = arrivals (queue_of frame) frame ++ all_arrivals frames

-- "The caller gives Q, b and K." "The sizes open the script and an end command closes it."
abbrev pub capture_commands : Sizes → List (List ℕ) → List Command
capture_commands s frames =
    command of.sizes (s.Q ∷ s.b ∷ s.K ∷ []) ∷ (all_arrivals frames ++ command of.end [] ∷ [])

-- The frames of a capture, none of them where a record is at fault.
abbrev pub or_none : Option (List (List ℕ)) → List (List ℕ)
or_none none = []
or_none (some frames) = frames

abbrev pub frames_of : List ℕ → List (List ℕ)
frames_of capture = or_none (frames_in capture)

abbrev pub capture_script : Sizes → List ℕ → List ℕ
capture_script s capture = script_bytes (capture_commands s (frames_of capture))

-- "Answers: 17, header short or other than named; 18, a record cut short or over 9,016 captured bytes; 19, Q below 8,
-- tested first of the three; 1 comes before them and 16 after". The whole capture is judged before the output's
-- length, `room`.
abbrev pub faulty : Option (List (List ℕ)) → Bool
faulty none = true
faulty (some frames) = false

abbrev pub capture_fault : Sizes → List ℕ → ℕ
capture_fault s capture =
    first_refusal (
    making_number paper s ∷
    when (ltb s.Q 8) 19 ∷
    when (not (header_good capture)) 17 ∷
    when (faulty (frames_in capture)) 18 ∷ [])

abbrev pub capture_refusals : Sizes → List ℕ → ℕ → List ℕ
capture_refusals s capture room =
    capture_fault s capture ∷
    when (ltb room (length (capture_script s capture))) 16 ∷ []

abbrev pub capture_number : Sizes → List ℕ → ℕ → ℕ
capture_number s capture room = first_refusal (capture_refusals s capture room)

-- "and each leaves the output untouched": the script over the output's first bytes, or the output as it came.
abbrev pub output_after : ℕ → List ℕ → List ℕ → List ℕ
output_after zero script output = script ++ drop (length script) output
output_after (suc n) script output = output

abbrev pub capture_output : Sizes → List ℕ → List ℕ → List ℕ
capture_output s capture output = output_after (capture_number s capture (length output)) (capture_script s capture) output
