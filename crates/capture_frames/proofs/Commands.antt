-- The commands that a capture becomes: sizes first, arrivals, the end last, and every operand fits its byte, so that
-- what is written reads well (`script-good`). An arrival has three bytes, sizes and end have five together
-- (`script-length`). So an output of three bytes for each of the capture's has room (`script-fits`), since the 24 bytes
-- of its header become none.
use mathlib.Core.Path.{◌≡◌, refl}
use mathlib.Core.Bool.{true, false}
use mathlib.Core.List.{List, [], ◌∷◌, ◌++◌, append_assoc}
use Prim.Native.Nat.{ℕ, zero, suc, ◌+◌, ◌*◌, ◌≤◌, ◌<◌}
use native.Mathlib.Omega.{arith}
use lib.ListN.{length, get_or, length-append}
use Rattle.model.specs.Basics.{All}
use Rattle.model.specs.Sizes.{Sizes, accepts, paper_limits}
use Rattle.model.proofs.basics.Tests.{by_test}
use Rattle.model.proofs.basics.AllOf.{all_append}
use Rattle.model.proofs.basics.Limits.{within_limits}
use Rattle.script_commands.specs.Commands as of
use Rattle.script_commands.specs.Commands.{Command, command, OperandsFit}
use Rattle.script_commands.specs.Scripts.{judge, script_bytes, InOrder, ends, goes_on}
use Rattle.script_commands.proofs.ReadBack.{script-judged_good}
use Rattle.capture_frames.specs.Frames.{is_tagged}
use Rattle.capture_frames.specs.Script.{queue_of, arrivals, all_arrivals, capture_commands, frames_of, capture_script}
use Rattle.capture_frames.specs.Script.{capture_fault, capture_number}
use Rattle.capture_frames.specs.Sentences.{Bytes, captured_bytes}
use Rattle.capture_frames.proofs.RecordsSay.{frames_bytes, captured_few}
use Rattle.capture_frames.proofs.Order.{answers-0}
use Rattle.capture_frames.proofs.Good.{good_capture}

-- In order: sizes, arrivals, the end.
arrivals-in_order : (queue : ℕ) (frame : List ℕ) (cs : List Command) → InOrder false cs
    → InOrder false (arrivals queue frame ++ cs)
arrivals-in_order queue [] cs h = h
arrivals-in_order queue (v ∷ frame) cs h = goes_on refl refl (arrivals-in_order queue frame cs h)

all_in_order : (frames : List (List ℕ)) → InOrder false (all_arrivals frames ++ command of.end [] ∷ [])
all_in_order [] = ends refl refl
all_in_order (frame ∷ frames) =
    rw append_assoc (arrivals-in_order (queue_of frame) frame (all_arrivals frames ++ command of.end [] ∷ [])
    (all_in_order frames))

pub commands_in_order : (s : Sizes) (frames : List (List ℕ)) → InOrder true (capture_commands s frames)
commands_in_order s frames = goes_on refl refl (all_in_order frames)

-- A queue of three bits.
byte_at : (frame : List ℕ) (i : ℕ) → Bytes frame → get_or frame i 0 < 256
byte_at [] i h = omega arith
byte_at (v ∷ frame) zero h = h.0
byte_at (v ∷ frame) (suc i) h = byte_at frame i h.1

pub queue_of_eight : (frame : List ℕ) → Bytes frame → queue_of frame < 8
queue_of_eight frame h = by_test (is_tagged frame)
    (λ t. rw t (omega (arith, byte_at frame 14 h)))
    (λ t. rw t (omega arith))

-- Operands of one byte.
arrivals-fit : (queue : ℕ) (frame : List ℕ) → queue < 256 → Bytes frame → All OperandsFit (arrivals queue frame)
arrivals-fit queue [] l h = tt
arrivals-fit queue (v ∷ frame) l h = ((l, (h.0, tt)), arrivals-fit queue frame l h.1)

all_fit : (frames : List (List ℕ)) → All Bytes frames → All OperandsFit (all_arrivals frames)
all_fit [] h = tt
all_fit (frame ∷ frames) h =
    all_append OperandsFit (arrivals (queue_of frame) frame) (all_arrivals frames)
    (arrivals-fit (queue_of frame) frame (omega (arith, queue_of_eight frame h.0)) h.0)
    (all_fit frames h.1)

pub commands_fit : (s : Sizes) (frames : List (List ℕ)) → accepts paper_limits s ≡ true → All Bytes frames
    → All OperandsFit (capture_commands s frames)
commands_fit s frames e h =
    let w = within_limits paper_limits s e in (
      (omega (arith, w.q_high), (omega (arith, w.b_high), (omega (arith, w.k_high), tt))),
      all_append OperandsFit (all_arrivals frames) (command of.end [] ∷ []) (all_fit frames h) (tt, tt),
    )

-- So the script reads well.
pub script-good : (s : Sizes) (capture : List ℕ) → Bytes capture → capture_fault s capture ≡ 0
    → judge (capture_script s capture)
    ≡ record { commands = capture_commands s (frames_of capture); number = 0; offset = 0 }
script-good s capture h e =
    let good = good_capture s capture e in
    script-judged_good (capture_commands s (frames_of capture))
    (commands_in_order s (frames_of capture))
    (commands_fit s (frames_of capture) good.accepted
    (frames_bytes capture (frames_of capture) good.frames_there h))

-- Lengths: three bytes for each arrival.
arrivals-length : (queue : ℕ) (frame : List ℕ) (cs : List Command)
    → length (script_bytes (arrivals queue frame ++ cs)) ≡ 3 * length frame + length (script_bytes cs)
arrivals-length queue [] cs = omega arith
arrivals-length queue (v ∷ frame) cs = omega (arith, arrivals-length queue frame cs)

all_length : (frames : List (List ℕ))
    → length (script_bytes (all_arrivals frames ++ command of.end [] ∷ [])) ≡ 3 * length (captured_bytes frames) + 1
all_length [] = refl
all_length (frame ∷ frames) =
    rw append_assoc (omega (
      arith,
      arrivals-length (queue_of frame) frame (all_arrivals frames ++ command of.end [] ∷ []),
      all_length frames,
      length-append frame (captured_bytes frames),
    ))

pub script-length : (s : Sizes) (capture : List ℕ)
    → length (capture_script s capture) ≡ 5 + 3 * length (captured_bytes (frames_of capture))
script-length s capture = omega (arith, all_length (frames_of capture))

pub script-fits : (s : Sizes) (capture : List ℕ) (room : ℕ) → capture_fault s capture ≡ 0 → 3 * length capture ≤ room
    → capture_number s capture room ≡ 0
script-fits s capture room e l =
    let good = good_capture s capture e in
    answers-0 s capture room e
    (omega (
      arith,
      l,
      script-length s capture,
      good.header_there,
      captured_few capture (frames_of capture) good.frames_there,
    ))
