-- The frames of a capture are those of its records, both ways (`records_from`, `frames_from_lem`): a good record is a head
-- and its frame, and what begins with the two of them begins with a good record. So the captured bytes are bytes of the
-- capture (`frames_bytes`), and no more than it has behind its header (`captured_few`).
use mathlib.Core.Path.{◌≡◌, refl, ap, sym, ◌∙◌, subst}
use mathlib.Core.Bool.{true}
use mathlib.Core.List.{List, [], ◌∷◌, ◌++◌}
use mathlib.Core.Option.{Option, some, none}
use Prim.Native.Nat.{ℕ, zero, suc, ◌+◌, ◌-◌, ◌≤◌, ◌<◌}
use native.Mathlib.Omega.{arith}
use lib.Dec.{eqb}
use lib.ListN.{length, take, drop, length-append, length-drop, take-append-drop}
use lib.Seq.{length-take-le, take-append_seam, drop-append_seam, drop-append-le, drop-drop, drop_at}
use borrow.Author.Tests.{eqb-true, eqb-false}
use Rattle.model.specs.Basics.{All}
use Rattle.model.proofs.basics.Tests.{by_test, none_not_some, some_inj}
use Rattle.script_commands.specs.Commands.{number_in}
use Rattle.model.proofs.basics.AllOf.{all_first, all_behind}
use Rattle.capture_frames.specs.Frames.{header_bytes, record_head, captured_in, most_captured, record_good}
use Rattle.capture_frames.specs.Frames.{frame_in, after_record, with_frame, frames_from, frames_in}
use Rattle.capture_frames.specs.Sentences.{Bytes, captured_bytes, Records, no_record, next_record}
use Rattle.capture_frames.proofs.Records.{GoodRecord, good_record, record-good, frame_length, shorter}
use Rattle.capture_frames.proofs.Records.{frames_end, frames_next}
use Rattle.capture_frames.proofs.Records.{frames_fault}

-- A number is read from the first bytes, whatever follows them.
number_in_front : (n : ℕ) (xs ys : List ℕ) → n ≤ length xs → number_in n (xs ++ ys) ≡ number_in n xs
number_in_front zero xs ys l = refl
number_in_front (suc n) [] ys l = absurd (omega (arith, l))
number_in_front (suc n) (x ∷ xs) ys l = rw (number_in_front n xs ys (omega (arith, l)))

-- The number of captured bytes stands in the head.
captured_in_head : (head rest : List ℕ) → length head ≡ record_head
    → captured_in (head ++ rest) ≡ number_in 4 (drop 8 head)
captured_in_head head rest e =
    ap (number_in 4) (drop-append-le 8 head rest (omega (arith, e)))
    ∙ number_in_front 4 (drop 8 head) rest (omega (arith, e, length-drop 8 head))

-- What is left of a capture, as head, frame and what is behind them, where a record is good.
module _ (rest : List ℕ) (w : GoodRecord rest) where
  head_length : length (take record_head rest) ≡ record_head
  head_length = length-take-le record_head rest w.head_there

  parts : take record_head rest ++ (frame_in rest ++ after_record rest) ≡ rest
  parts =
      ap (λ (xs : List ℕ). take record_head rest ++ (frame_in rest ++ xs))
      (sym (drop-drop (captured_in rest) record_head rest))
      ∙ ap (λ (xs : List ℕ). take record_head rest ++ xs) (take-append-drop (captured_in rest) (drop record_head rest))
      ∙ take-append-drop record_head rest

  number_there : number_in 4 (drop 8 (take record_head rest)) ≡ captured_in rest
  number_there =
      sym (captured_in_head (take record_head rest) (frame_in rest ++ after_record rest) head_length)
      ∙ ap captured_in parts

  record_next : {frames : List (List ℕ)} → Records (after_record rest) frames → Records rest (frame_in rest ∷ frames)
  record_next {frames} r =
      subst (λ (xs : List ℕ). Records xs (frame_in rest ∷ frames)) parts
      (next_record (take record_head rest) (frame_in rest) head_length (number_there ∙ sym (frame_length rest w))
      (omega (arith, frame_length rest w, w.not_too_long)) r)

-- Where there are frames, there are records with them.
records_end : (rest : List ℕ) (frames : List (List ℕ)) → length rest ≡ 0 → frames_from rest ≡ some frames
    → Records rest frames
records_end [] frames z e = subst (Records []) (some_inj [] frames (sym (frames_end [] refl) ∙ e)) no_record
records_end (x ∷ rest) frames z e = absurd (omega (arith, z))

frames_behind : (frame : List ℕ) (o : Option (List (List ℕ))) (all : List (List ℕ)) → with_frame frame o ≡ some all
    → (frames : List (List ℕ)) × (o ≡ some frames) × (frame ∷ frames ≡ all)
frames_behind frame none all e = absurd (none_not_some all e)
frames_behind frame (some frames) all e = (frames, refl, some_inj (frame ∷ frames) all e)

records_within : (steps : ℕ) (rest : List ℕ) (frames : List (List ℕ)) → length rest ≤ steps
    → frames_from rest ≡ some frames → Records rest frames
records_within zero rest frames l e = records_end rest frames (omega (arith, l)) e
records_within (suc steps) rest frames l e = by_test (eqb (length rest) 0)
    (λ t. records_end rest frames (eqb-true (length rest) 0 t) e)
    (λ t. by_test (record_good rest)
    (λ u. let behind = frames_behind (frame_in rest) (frames_from (after_record rest)) frames
    (sym (frames_next rest (eqb-false (length rest) 0 t) u) ∙ e) in
    subst (Records rest) behind.2 (record_next rest (good_record rest u)
    (records_within steps (after_record rest) behind.0 (omega (arith, l, shorter rest u)) behind.1)))
    (λ u. absurd (none_not_some frames (sym (frames_fault rest (eqb-false (length rest) 0 t) u) ∙ e))))

pub records_from : (rest : List ℕ) (frames : List (List ℕ)) → frames_from rest ≡ some frames → Records rest frames
records_from rest frames e = records_within (length rest) rest frames (omega arith) e

-- Where there are records, there are frames: those of the records.
module _ (head frame rest : List ℕ) (sixteen : length head ≡ record_head)
    (number : number_in 4 (drop 8 head) ≡ length frame) where
  abbrev whole : List ℕ
  whole = head ++ (frame ++ rest)

  whole_length : length whole ≡ record_head + (length frame + length rest)
  whole_length = omega (arith, sixteen, length-append head (frame ++ rest), length-append frame rest)

  captured_is : captured_in whole ≡ length frame
  captured_is = captured_in_head head (frame ++ rest) sixteen ∙ number

  frame_is : frame_in whole ≡ frame
  frame_is =
      ap (λ (n : ℕ). take n (drop record_head whole)) captured_is
      ∙ ap (take (length frame)) (drop_at head (frame ++ rest) record_head sixteen)
      ∙ take-append_seam frame rest

  behind_is : after_record whole ≡ rest
  behind_is =
      ap (λ (n : ℕ). drop (record_head + n) whole) captured_is
      ∙ sym (drop-drop (length frame) record_head whole)
      ∙ ap (drop (length frame)) (drop_at head (frame ++ rest) record_head sixteen)
      ∙ drop-append_seam frame rest

  whole_good : length frame ≤ most_captured → record_good whole ≡ true
  whole_good short =
      record-good whole (record {
        head_there = omega (arith, whole_length);
        not_too_long = omega (arith, captured_is, short);
        all_there = omega (arith, captured_is, whole_length);
      })

  frames_whole : length frame ≤ most_captured → frames_from whole ≡ with_frame frame (frames_from rest)
  frames_whole short =
      frames_next whole (λ e. omega (arith, e, whole_length)) (whole_good short)
      ∙ rw (frame_is, behind_is)

pub frames_from_lem : {rest : List ℕ} {frames : List (List ℕ)} → Records rest frames → frames_from rest ≡ some frames
frames_from_lem no_record = frames_end [] refl
frames_from_lem (next_record head frame {rest} {frames} sixteen number short r) =
    frames_whole head frame rest sixteen number short ∙ ap (with_frame frame) (frames_from_lem r)

-- A fact of all elements of a list, of those behind the first n.
all_dropped : {A : Type 0} (P : A → Type 0) (n : ℕ) (xs : List A) → All P xs → All P (drop n xs)
all_dropped P n xs h =
    all_behind P (take n xs) (drop n xs) (subst (All P) (sym (take-append-drop n xs)) h)

-- Captured bytes are bytes of the capture, and there are no more of them.
records_bytes : {rest : List ℕ} {frames : List (List ℕ)} → Records rest frames → Bytes rest → All Bytes frames
records_bytes no_record h = tt
records_bytes (next_record head frame {rest} {frames} sixteen number short r) h =
    let behind = all_behind (λ (v : ℕ). v < 256) head (frame ++ rest) h in (
      all_first (λ (v : ℕ). v < 256) frame rest behind,
      records_bytes r (all_behind (λ (v : ℕ). v < 256) frame rest behind),
    )

records_long : {rest : List ℕ} {frames : List (List ℕ)} → Records rest frames
    → length (captured_bytes frames) ≤ length rest
records_long no_record = omega arith
records_long (next_record head frame {rest} {frames} sixteen number short r) =
    omega (
      arith,
      whole_length head frame rest sixteen number,
      length-append frame (captured_bytes frames),
      records_long r,
    )

pub frames_bytes : (capture : List ℕ) (frames : List (List ℕ)) → frames_in capture ≡ some frames
    → Bytes capture → All Bytes frames
frames_bytes capture frames e h =
    records_bytes (records_from (drop header_bytes capture) frames e)
    (all_dropped (λ (v : ℕ). v < 256) header_bytes capture h)

pub captured_few : (capture : List ℕ) (frames : List (List ℕ)) → frames_in capture ≡ some frames
    → length (captured_bytes frames) ≤ length capture - header_bytes
captured_few capture frames e =
    omega (
      arith,
      records_long (records_from (drop header_bytes capture) frames e),
      length-drop header_bytes capture,
    )
