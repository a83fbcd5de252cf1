-- Document 02, 2.3: a classic pcap file in its little-endian form, its frames, and the priority of a frame.
use Rattle.std.specs.Prelude.{Bool, true, false, ◌&&◌, List, [], ◌∷◌, ℕ, zero, suc, ◌+◌, ◌/◌, eqb, leb, length, take, drop, get_or}
use Rattle.std.proofs.Math.Option.{Option, some, none}
use Rattle.model.specs.Basics.{choose, all_true}
use Rattle.script_commands.specs.Commands.{number_in}

-- A list of bytes begins with these.
abbrev pub starts_with : List ℕ → List ℕ → Bool
starts_with [] bytes = true
starts_with (x ∷ xs) [] = false
starts_with (x ∷ xs) (y ∷ bytes) = eqb x y && starts_with xs bytes

-- "the little-endian form (first bytes D4 C3 B2 A1 hex, version 2.4, link type 1)": a header of 24 bytes. The version
-- is two numbers of two bytes, in bytes 4 to 7, and the link type one of four bytes, in bytes 20 to 23. The bytes
-- between, which are time zone, accuracy and snap length, are not looked at.
abbrev pub header_bytes : ℕ
header_bytes = 24

abbrev pub first_bytes : List ℕ
first_bytes = 0xd4 ∷ 0xc3 ∷ 0xb2 ∷ 0xa1 ∷ 0x02 ∷ 0x00 ∷ 0x04 ∷ 0x00 ∷ []

abbrev pub link_type : List ℕ
link_type = 0x01 ∷ 0x00 ∷ 0x00 ∷ 0x00 ∷ []

abbrev pub header_tests : List ℕ → List Bool
header_tests capture =
    leb header_bytes (length capture) ∷
    starts_with first_bytes capture ∷
    starts_with link_type (drop 20 capture) ∷ []

abbrev pub header_good : List ℕ → Bool
header_good capture = all_true (header_tests capture)

-- A record: a head of 16 bytes, of which bytes 8 to 11 are the number of captured bytes, low byte first, and then those
-- bytes, the frame. The others, which are times and the length before the capture, are not looked at.
abbrev pub record_head : ℕ
record_head = 16

abbrev pub captured_in : List ℕ → ℕ
captured_in rest = number_in 4 (drop 8 rest)

-- "18, a record cut short or over 9,016 captured bytes": what is left of a capture begins with neither.
abbrev pub most_captured : ℕ
most_captured = 9016

abbrev pub record_tests : List ℕ → List Bool
record_tests rest =
    leb record_head (length rest) ∷
    leb (captured_in rest) most_captured ∷
    leb (record_head + captured_in rest) (length rest) ∷ []

abbrev pub record_good : List ℕ → Bool
record_good rest = all_true (record_tests rest)

abbrev pub frame_in : List ℕ → List ℕ
frame_in rest = take (captured_in rest) (drop record_head rest)

abbrev pub after_record : List ℕ → List ℕ
after_record rest = drop (record_head + captured_in rest) rest

-- The frames of what is left of a capture, or none where a record is at fault. A record has a byte or more, so that as
-- many steps as there are bytes are enough; `frames_end`, `frames_next` and `frames_fault` (proofs/Records.antt) have
-- no such count.
abbrev pub with_frame : List ℕ → Option (List (List ℕ)) → Option (List (List ℕ))
with_frame frame none = none
with_frame frame (some frames) = some (frame ∷ frames)

abbrev pub frames_within : ℕ → List ℕ → Option (List (List ℕ))
frames_within zero rest = choose (eqb (length rest) 0) (some []) none
frames_within (suc steps) rest =
    choose (eqb (length rest) 0)
    (some [])
    (choose (record_good rest)
    (with_frame (frame_in rest) (frames_within steps (after_record rest)))
    none)

unfoldable pub frames_from : List ℕ → Option (List (List ℕ))
frames_from rest = frames_within (length rest) rest

abbrev pub frames_in : List ℕ → Option (List (List ℕ))
frames_in capture = frames_from (drop header_bytes capture)

-- "its IEEE 802.1Q priority, the top three bits of byte 14 (from 0), if bytes 12 and 13 are 81 00 hex and it has 15
-- bytes or more; otherwise .. 0".
abbrev pub tag_tests : List ℕ → List Bool
tag_tests frame =
    leb 15 (length frame) ∷
    eqb (get_or frame 12 0) 0x81 ∷
    eqb (get_or frame 13 0) 0x00 ∷ []

abbrev pub is_tagged : List ℕ → Bool
is_tagged frame = all_true (tag_tests frame)

abbrev pub priority_of : List ℕ → ℕ
priority_of frame = choose (is_tagged frame) (get_or frame 14 0 / 32) 0
