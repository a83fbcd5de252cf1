-- What the conversion of captures promises, by the definitions of captures and their scripts.
use Rattle.std.specs.Prelude.{◌≡◌, List, ℕ, zero, suc, ◌+◌, ◌*◌, ◌≤◌, length, Option, Some, None, Result, Ok, Err}
use Rattle.std.proofs.Math.Option as maybe
use Rattle.std.proofs.Math.Option.{some, none}
use Rattle.model.specs.Sizes.{sizes}
use Rattle.script_commands.specs.Scripts.{script_bytes}
use Rattle.script_codes.specs.Says.{put_over}
use Rattle.capture_frames.specs.Frames.{frames_from}
use Rattle.capture_frames.specs.Script.{all_arrivals, capture_commands, or_none}
use Rattle.capture_frames.specs.Script.{capture_script, capture_number, capture_output}
use Rattle.capture_frames.specs.Sentences.{captured_bytes}
use Rattle.captures.specs.declared.Refusal.{Refusal}
use Rattle.captures.specs.declared.Refusal.TheVariants.{SizesNotAccepted, TooFewQueues, UnknownHeader, FaultyRecord, OutputTooShort}

-- How many bytes all frames together have, or none where a record is at fault.
abbrev pub measured_of : maybe.Option (List (List ℕ)) → Option ℕ
measured_of none = None
measured_of (some frames) = Some (length (captured_bytes frames))

-- Good records, and an output with room for the commands of their frames and so many bytes more.
pub record FramesFit (more : ℕ) (records output : List ℕ) : Type 0 where
  pub frames : List (List ℕ)
  pub frames_are : frames_from records ≡ some frames
  pub enough : more + 3 * length (captured_bytes frames) ≤ length output

-- The arrivals of all frames over the first bytes of an output, and how many bytes they have.
pub record FramesWritten (records output : List ℕ) (r : ℕ) (output' : List ℕ) : Type 0 where
  pub length-is : r ≡ 3 * length (captured_bytes (or_none (frames_from records)))
  pub output_is : output' ≡ put_over (script_bytes (all_arrivals (or_none (frames_from records)))) output

-- The bytes of the whole script.
abbrev pub record_script : ℕ → ℕ → ℕ → List ℕ → List ℕ
record_script q b k records = script_bytes (capture_commands (sizes q b k) (or_none (frames_from records)))

-- The paper's number of a refusal, and an answer with that number.
abbrev pub number_of : Refusal → ℕ
number_of SizesNotAccepted = 1
number_of TooFewQueues = 19
number_of UnknownHeader = 17
number_of FaultyRecord = 18
number_of OutputTooShort = 16

abbrev pub numbered : Result ℕ Refusal → Result ℕ ℕ
numbered (Ok n) = Ok n
numbered (Err refusal) = Err (number_of refusal)

-- The answer by its number: the script's length, or the refusal.
abbrev pub conversion_of : ℕ → List ℕ → Result ℕ ℕ
conversion_of zero script = Ok (length script)
conversion_of (suc n) script = Err (suc n)

-- A whole conversion: the number outright, the script's length beside 0, and the output as it is left.
pub record ConvertedSays (q b k : ℕ) (capture output : List ℕ) (r : Result ℕ Refusal) (output' : List ℕ) : Type 0 where
  pub answer-is :
      numbered r
      ≡ conversion_of (capture_number (sizes q b k) capture (length output)) (capture_script (sizes q b k) capture)
  pub output_is : output' ≡ capture_output (sizes q b k) capture output
