-- What document 02, 2.3, says of a capture and its script, sentence by sentence.
use Rattle.std.specs.Prelude.{◌≡◌, List, [], ◌∷◌, ◌++◌, map, true, false, ℕ, ◌+◌, ◌*◌, ◌≤◌, ◌<◌, length, take, drop}
use Rattle.std.proofs.Math.Option.{Option, some, none}
use Rattle.model.specs.Basics.{All}
use Rattle.model.specs.Sizes.{Sizes, accepts, paper, paper_limits, store_bytes}
use Rattle.model.specs.State.{Byte}
use Rattle.model.specs.Slot.{Call}
use Rattle.model.specs.Calls.{arrival}
use Rattle.model.specs.Lists.{Step, list_of}
use Rattle.script_commands.specs.Commands.{number_in}
use Rattle.script_commands.specs.Scripts.{judge, InOrder}
use Rattle.script_text.specs.Run.{slots_of_all, sizes_of}
use Rattle.capture_frames.specs.Frames.{header_bytes, header_good, frames_in}
use Rattle.capture_frames.specs.Script.{queue_of, capture_commands, frames_of, capture_script, capture_fault}
use Rattle.capture_frames.specs.Script.{capture_number, capture_output}

-- Bytes: numbers below 256. A list of numbers stands for what is of that type in code.
abbrev pub Bytes : List ℕ → Type 0
Bytes bytes = All (λ (v : ℕ). v < 256) bytes

-- The captured bytes, frame after frame.
abbrev pub captured_bytes : List (List ℕ) → List ℕ
captured_bytes [] = []
captured_bytes (frame ∷ frames) = frame ++ captured_bytes frames

-- "first bytes D4 C3 B2 A1 hex, version 2.4, link type 1", byte by byte, in a header that is all there. Here and below
-- the numbers stand anew, so that a wrong one in Frames contradicts them.
pub record NamedHeader (capture : List ℕ) : Type 0 where
  pub all_there : 24 ≤ length capture
  pub first_are : take 8 capture ≡ 0xd4 ∷ 0xc3 ∷ 0xb2 ∷ 0xa1 ∷ 2 ∷ 0 ∷ 4 ∷ 0 ∷ []
  pub link_is : take 4 (drop 20 capture) ≡ 1 ∷ 0 ∷ 0 ∷ 0 ∷ []

-- What is behind the header is records, one after the other: heads of 16 bytes, each with the frame whose length it
-- tells, 9,016 bytes or less, and nothing else.
pub data Records : List ℕ → List (List ℕ) → Type 0 where
  no_record : Records [] []
  next_record : (head frame : List ℕ) {rest : List ℕ} {frames : List (List ℕ)}
      → length head ≡ 16 → number_in 4 (drop 8 head) ≡ length frame → length frame ≤ 9016
      → Records rest frames
      → Records (head ++ (frame ++ rest)) (frame ∷ frames)

-- What a slot is given: the value of its arrival, or none.
abbrev pub arrived_value : Option Byte → Option ℕ
arrived_value none = none
arrived_value (some y) = some y.value

abbrev pub values : List Call → List (Option ℕ)
values calls = map (λ (call : Call). arrived_value call.arrival) calls

-- The slots of frames: an arrival for each byte, at the queue of its frame.
abbrev pub slots_at : ℕ → List ℕ → List Call
slots_at queue frame = map (λ (v : ℕ). arrival queue v) frame

abbrev pub frame_slots : List (List ℕ) → List Call
frame_slots [] = []
frame_slots (frame ∷ frames) = slots_at (queue_of frame) frame ++ frame_slots frames

-- The slots that a capture becomes.
abbrev pub capture_slots : Sizes → List ℕ → List Call
capture_slots s capture = slots_of_all (capture_commands s (frames_of capture))

-- A slot that runs, and of which no half is dropped but its arrival, with 5. Request 2.5: "5 and 7 refuse their half of
-- the slot only. The slot runs without that half".
pub record DropsOnly5 (step : Step) : Type 0 where
  pub runs : step.reply.number ≡ 0
  pub arrival_5 : (step.reply.arrival_number ≡ 0 → ⊥) → step.reply.arrival_number ≡ 5
  pub no_request : step.reply.request_number ≡ 0

-- The answers in their order.
pub record AnswersInOrder (s : Sizes) (capture : List ℕ) : Type 0 where
  pub one : accepts paper_limits s ≡ false → capture_fault s capture ≡ 1
  pub nineteen : accepts paper_limits s ≡ true → s.Q < 8 → capture_fault s capture ≡ 19
  pub seventeen :
      accepts paper_limits s ≡ true → 8 ≤ s.Q → header_good capture ≡ false → capture_fault s capture ≡ 17
  pub eighteen :
      accepts paper_limits s ≡ true → 8 ≤ s.Q → header_good capture ≡ true → frames_in capture ≡ none
      → capture_fault s capture ≡ 18
  pub none_of_them :
      accepts paper_limits s ≡ true → 8 ≤ s.Q → header_good capture ≡ true
      → (frames : List (List ℕ)) → frames_in capture ≡ some frames → capture_fault s capture ≡ 0
  pub before_16 : (room : ℕ) → (capture_fault s capture ≡ 0 → ⊥) → capture_number s capture room ≡ capture_fault s capture
  pub sixteen :
      (room : ℕ) → capture_fault s capture ≡ 0 → room < length (capture_script s capture)
      → capture_number s capture room ≡ 16
  pub none_at_all :
      (room : ℕ) → capture_fault s capture ≡ 0 → length (capture_script s capture) ≤ room
      → capture_number s capture room ≡ 0

-- The sentences. A capture is good for its sizes where none of 1, 19, 17 and 18 comes.
pub record CapturesSay : Type 0 where
  -- "Read the little-endian form".
  pub header_named : (capture : List ℕ) → header_good capture ≡ true → NamedHeader capture
  pub named_header : (capture : List ℕ) → NamedHeader capture → header_good capture ≡ true
  -- ".. and write a script": what is written reads well, and its commands are those of the capture.
  pub reads_well :
      (s : Sizes) (capture : List ℕ) → Bytes capture → capture_fault s capture ≡ 0
      → judge (capture_script s capture)
      ≡ record { commands = capture_commands s (frames_of capture); number = 0; offset = 0 }
  -- "The caller gives Q, b and K." "The sizes open the script and an end command closes it."
  pub sizes-are : (s : Sizes) (frames : List (List ℕ)) → sizes_of (capture_commands s frames) ≡ s
  pub in_order : (s : Sizes) (frames : List (List ℕ)) → InOrder true (capture_commands s frames)
  -- The frames are those of the records, both ways; so where 1, 19 and 17 do not come, 18 comes exactly where the bytes
  -- behind the header are no records.
  pub frames_recorded :
      (capture : List ℕ) (frames : List (List ℕ))
      → frames_in capture ≡ some frames → Records (drop header_bytes capture) frames
  pub records_framed :
      (capture : List ℕ) (frames : List (List ℕ))
      → Records (drop header_bytes capture) frames → frames_in capture ≡ some frames
  -- "Every captured byte becomes one arrival command", at the queue of its frame. "The bytes of the arrivals, taken in
  -- order, are the captured bytes." No slot asks.
  pub slots_are : (s : Sizes) (capture : List ℕ) → capture_slots s capture ≡ frame_slots (frames_of capture)
  pub bytes_in_order :
      (s : Sizes) (capture : List ℕ) → values (capture_slots s capture) ≡ map some (captured_bytes (frames_of capture))
  pub nothing_asked :
      (s : Sizes) (capture : List ℕ) → All (λ (call : Call). call.request ≡ none) (capture_slots s capture)
  -- The priority has three bits. So every queue is one of the 8 or more that 19 asks for, and 4 never comes; on a store
  -- that is long enough no slot is refused, and where its queue is full it runs without its arrival, which gets 5.
  pub queue_of_eight : (frame : List ℕ) → Bytes frame → queue_of frame < 8
  pub never_4 :
      (s : Sizes) (capture store : List ℕ) → Bytes capture → capture_fault s capture ≡ 0
      → All (λ (step : Step). step.reply.number ≡ 4 → ⊥) (list_of paper s store (capture_slots s capture))
  pub only_5 :
      (s : Sizes) (capture store : List ℕ) → Bytes capture → capture_fault s capture ≡ 0
      → store_bytes s ≤ length store
      → All DropsOnly5 (list_of paper s store (capture_slots s capture))
  -- How long a script is, and an output that always has room for it: three bytes for each of the capture's.
  pub length-is :
      (s : Sizes) (capture : List ℕ)
      → length (capture_script s capture) ≡ 5 + 3 * length (captured_bytes (frames_of capture))
  pub room_enough :
      (s : Sizes) (capture : List ℕ) (room : ℕ)
      → capture_fault s capture ≡ 0 → 3 * length capture ≤ room → capture_number s capture room ≡ 0
  -- "19, Q below 8, tested first of the three; 1 comes before them and 16 after": each where those before it do not
  -- come.
  pub order : (s : Sizes) (capture : List ℕ) → AnswersInOrder s capture
  -- "and each leaves the output untouched".
  pub untouched :
      (s : Sizes) (capture output : List ℕ) → (capture_number s capture (length output) ≡ 0 → ⊥)
      → capture_output s capture output ≡ output
