-- Captures worked by hand, as one table with one theorem for all rows (`capture_examples_hold`): what each answers, and
-- what it leaves of an output. Bytes are in hex, as in the request.
use Rattle.std.specs.Prelude.{Bool, true, false, not, ◌&&◌, List, [], ◌∷◌, ◌++◌, ℕ, ◌/◌, ◌%◌, eqb, length, drop, replicate}
use Rattle.model.specs.Sizes.{Sizes, sizes}
use Rattle.capture_frames.specs.Frames.{frames_in}
use Rattle.capture_frames.specs.Script.{faulty, capture_number, capture_output}

-- A capture with the sizes and the output that a caller gives, and what is to come of it: a number, and the output as
-- it is left; or a capture of one frame of so many bytes, and whether it is taken.
pub data Example : Type 0 where
  comes : Sizes → List ℕ → List ℕ → ℕ → List ℕ → Example
  taken : ℕ → Bool → Example

-- A header with this link type, and one with the link type 1.
abbrev pub header_of : List ℕ → List ℕ
header_of link =
    0xd4 ∷ 0xc3 ∷ 0xb2 ∷ 0xa1 ∷ 0x02 ∷ 0x00 ∷ 0x04 ∷ 0x00 ∷
    0x10 ∷ 0x0e ∷ 0x00 ∷ 0x00 ∷ 0x06 ∷ 0x00 ∷ 0x00 ∷ 0x00 ∷ 0xff ∷ 0xff ∷ 0x00 ∷ 0x00 ∷ link

abbrev pub header : List ℕ
header = header_of (0x01 ∷ 0x00 ∷ 0x00 ∷ 0x00 ∷ [])

-- A record whose number of captured bytes is these four bytes. Times and the length before the capture are any.
abbrev pub recorded : List ℕ → List ℕ → List ℕ
recorded captured frame =
    0x5f ∷ 0x5e ∷ 0x10 ∷ 0x00 ∷ 0x80 ∷ 0x01 ∷ 0x02 ∷ 0x03 ∷ (captured ++ 0x40 ∷ 0x23 ∷ 0x00 ∷ 0x00 ∷ frame)

-- A frame of two addresses and these bytes behind them, from byte 12 on; and one that has a tag.
abbrev pub addressed : List ℕ → List ℕ
addressed behind =
    0x01 ∷ 0x02 ∷ 0x03 ∷ 0x04 ∷ 0x05 ∷ 0x06 ∷ 0x11 ∷ 0x12 ∷ 0x13 ∷ 0x14 ∷ 0x15 ∷ 0x16 ∷ behind

abbrev pub tagged : List ℕ → List ℕ
tagged behind = addressed (0x81 ∷ 0x00 ∷ behind)

-- Bytes as arrivals at a queue, as they stand in a script.
abbrev pub arrive : ℕ → List ℕ → List ℕ
arrive q [] = []
arrive q (v ∷ vs) = 0x01 ∷ q ∷ v ∷ arrive q vs

-- The examples' sizes, and the command that gives them.
abbrev pub eight : Sizes
eight = sizes 8 4 2

abbrev pub script : List ℕ → List ℕ
script commands = 0x10 ∷ 0x08 ∷ 0x04 ∷ 0x02 ∷ (commands ++ 0x05 ∷ [])

-- An output of so many bytes, all of them 0xee.
abbrev pub blank : ℕ → List ℕ
blank n = replicate n 0xee

-- A refusal, with an output that has room and stays as it came; a script, in an output of its own length.
abbrev pub refused : Sizes → List ℕ → ℕ → Example
refused s capture number = comes s capture (blank 9) number (blank 9)

abbrev pub written : List ℕ → List ℕ → Example
written capture expected = comes eight capture (blank (length expected)) 0 expected

abbrev pub capture_examples : List Example
capture_examples =
    -- "Q 7, any capture, also an empty one": 19; 1 where the sizes are refused.
    refused (sizes 7 4 2) header 19 ∷
    refused (sizes 7 4 2) [] 19 ∷
    refused (sizes 7 4 2) (header ++ 0x00 ∷ []) 19 ∷
    refused (sizes 7 0 2) header 1 ∷
    refused (sizes 65 4 2) header 1 ∷
    refused (sizes 8 4 256) header 1 ∷
    -- 17, "header short or other than named": 23 bytes; no bytes; the first bytes the other way round; those of times
    -- in nanoseconds; version 2.3; link types 0x04000001 and 0.
    refused eight (header_of (0x01 ∷ 0x00 ∷ 0x00 ∷ [])) 17 ∷
    refused eight [] 17 ∷
    refused eight (0xa1 ∷ 0xb2 ∷ 0xc3 ∷ 0xd4 ∷ drop 4 header) 17 ∷
    refused eight (0x4d ∷ 0x3c ∷ 0xb2 ∷ 0xa1 ∷ drop 4 header) 17 ∷
    refused eight (0xd4 ∷ 0xc3 ∷ 0xb2 ∷ 0xa1 ∷ 0x02 ∷ 0x00 ∷ 0x03 ∷ 0x00 ∷ drop 8 header) 17 ∷
    refused eight (header_of (0x01 ∷ 0x00 ∷ 0x00 ∷ 0x04 ∷ [])) 17 ∷
    refused eight (header_of (0x00 ∷ 0x00 ∷ 0x00 ∷ 0x00 ∷ [])) 17 ∷
    -- 17 comes before 18.
    refused eight (header_of (0x00 ∷ 0x00 ∷ 0x00 ∷ 0x00 ∷ []) ++ 0x00 ∷ []) 17 ∷
    -- 18, "a record cut short": in its head, in its frame, behind a good one; a number with its high byte set.
    refused eight (header ++ 0x00 ∷ []) 18 ∷
    refused eight (header ++ recorded (0x02 ∷ 0x00 ∷ 0x00 ∷ 0x00 ∷ []) (0x41 ∷ [])) 18 ∷
    refused eight (header ++ recorded (0x01 ∷ 0x00 ∷ 0x00 ∷ 0x00 ∷ []) (0x41 ∷ 0x00 ∷ [])) 18 ∷
    refused eight (header ++ recorded (0x01 ∷ 0x00 ∷ 0x00 ∷ 0x80 ∷ []) (0x41 ∷ [])) 18 ∷
    -- ".. or over 9,016 captured bytes".
    taken 9016 true ∷
    taken 9017 false ∷
    -- A header alone, an empty frame, a byte: sizes, arrivals, the end.
    written header (script []) ∷
    written (header ++ recorded (0x00 ∷ 0x00 ∷ 0x00 ∷ 0x00 ∷ []) []) (script []) ∷
    written (header ++ recorded (0x01 ∷ 0x00 ∷ 0x00 ∷ 0x00 ∷ []) (0x41 ∷ [])) (script (0x01 ∷ 0x00 ∷ 0x41 ∷ [])) ∷
    -- "14 bytes captured, 12 and 13 are 81 00": queue 0. "15 bytes captured, 81 00 then E0": queue 7, and 5 for BF.
    written (header ++ recorded (0x0e ∷ 0x00 ∷ 0x00 ∷ 0x00 ∷ []) (tagged [])) (script (arrive 0 (tagged []))) ∷
    written (header ++ recorded (0x0f ∷ 0x00 ∷ 0x00 ∷ 0x00 ∷ []) (tagged (0xe0 ∷ [])))
    (script (arrive 7 (tagged (0xe0 ∷ [])))) ∷
    written (header ++ recorded (0x0f ∷ 0x00 ∷ 0x00 ∷ 0x00 ∷ []) (tagged (0xbf ∷ [])))
    (script (arrive 5 (tagged (0xbf ∷ [])))) ∷
    -- Of 16 bytes: queue 7 too.
    written (header ++ recorded (0x10 ∷ 0x00 ∷ 0x00 ∷ 0x00 ∷ []) (tagged (0xe0 ∷ 0x01 ∷ [])))
    (script (arrive 7 (tagged (0xe0 ∷ 0x01 ∷ [])))) ∷
    -- Without a tag, queue 0: 08 00 of a packet's type, and near misses, 81 01 and 88 A8.
    written (header ++ recorded (0x0f ∷ 0x00 ∷ 0x00 ∷ 0x00 ∷ []) (addressed (0x08 ∷ 0x00 ∷ 0x45 ∷ [])))
    (script (arrive 0 (addressed (0x08 ∷ 0x00 ∷ 0x45 ∷ [])))) ∷
    written (header ++ recorded (0x0f ∷ 0x00 ∷ 0x00 ∷ 0x00 ∷ []) (addressed (0x81 ∷ 0x01 ∷ 0xe0 ∷ [])))
    (script (arrive 0 (addressed (0x81 ∷ 0x01 ∷ 0xe0 ∷ [])))) ∷
    written (header ++ recorded (0x0f ∷ 0x00 ∷ 0x00 ∷ 0x00 ∷ []) (addressed (0x88 ∷ 0xa8 ∷ 0xe0 ∷ [])))
    (script (arrive 0 (addressed (0x88 ∷ 0xa8 ∷ 0xe0 ∷ [])))) ∷
    -- Two frames: each byte goes to its own frame's queue.
    written (header
    ++ (recorded (0x0f ∷ 0x00 ∷ 0x00 ∷ 0x00 ∷ []) (tagged (0x20 ∷ []))
    ++ recorded (0x02 ∷ 0x00 ∷ 0x00 ∷ 0x00 ∷ []) (0x41 ∷ 0x42 ∷ [])))
    (script (arrive 1 (tagged (0x20 ∷ [])) ++ arrive 0 (0x41 ∷ 0x42 ∷ []))) ∷
    -- "n bytes captured in all: a script of 5 + 3n bytes; an output of 4 + 3n answers 16", and is as it came; bytes
    -- beyond the script stay.
    comes eight (header ++ recorded (0x01 ∷ 0x00 ∷ 0x00 ∷ 0x00 ∷ []) (0x41 ∷ [])) (blank 7) 16 (blank 7) ∷
    comes eight header (blank 6) 0 (script [] ++ blank 1) ∷
    -- 18 comes before 16.
    comes eight (header ++ 0x00 ∷ []) [] 18 [] ∷ []

-- Rows that say one thing otherwise: another number, a byte of the script, a queue, the output changed beside a refusal,
-- a byte beyond the script changed, 16 with just enough room, 9,016 bytes refused, 9,017 taken.
abbrev pub false_capture_examples : List Example
false_capture_examples =
    refused (sizes 7 4 2) [] 17 ∷
    refused (sizes 7 0 2) header 19 ∷
    refused eight (header_of (0x01 ∷ 0x00 ∷ 0x00 ∷ [])) 18 ∷
    refused eight (header ++ 0x00 ∷ []) 17 ∷
    refused eight header 16 ∷
    written (header ++ recorded (0x01 ∷ 0x00 ∷ 0x00 ∷ 0x00 ∷ []) (0x41 ∷ [])) (script (0x01 ∷ 0x00 ∷ 0x42 ∷ [])) ∷
    written (header ++ recorded (0x01 ∷ 0x00 ∷ 0x00 ∷ 0x00 ∷ []) (0x41 ∷ [])) (script []) ∷
    written (header ++ recorded (0x0e ∷ 0x00 ∷ 0x00 ∷ 0x00 ∷ []) (tagged [])) (script (arrive 4 (tagged []))) ∷
    written (header ++ recorded (0x0f ∷ 0x00 ∷ 0x00 ∷ 0x00 ∷ []) (tagged (0xe0 ∷ [])))
    (script (arrive 0 (tagged (0xe0 ∷ [])))) ∷
    comes eight (header ++ 0x00 ∷ []) (blank 6) 18 (script [] ++ blank 1) ∷
    comes eight header (blank 6) 0 (script [] ++ 0x00 ∷ []) ∷
    comes eight header (blank 5) 16 (blank 5) ∷
    taken 9016 false ∷
    taken 9017 true ∷ []

abbrev pub same_bytes : List ℕ → List ℕ → Bool
same_bytes [] [] = true
same_bytes [] (y ∷ ys) = false
same_bytes (x ∷ xs) [] = false
same_bytes (x ∷ xs) (y ∷ ys) = eqb x y && same_bytes xs ys

abbrev pub same_test : Bool → Bool → Bool
same_test true t = t
same_test false t = not t

-- A capture of one frame of n zeros, where n fits two bytes.
abbrev pub one_frame : ℕ → List ℕ
one_frame n = header ++ recorded ((n % 256) ∷ (n / 256) ∷ 0x00 ∷ 0x00 ∷ []) (replicate n 0)

abbrev pub holds : Example → Bool
holds (comes s capture output number left) =
    eqb (capture_number s capture (length output)) number && same_bytes (capture_output s capture output) left
holds (taken n t) = same_test t (not (faulty (frames_in (one_frame n))))
