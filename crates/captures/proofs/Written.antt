-- The loop over the records: before each turn the arrivals of the frames so far stand at the start of the output.
use mathlib.Core.Path.{◌≡◌, refl, sym, ap, ◌∙◌}
use mathlib.Core.Bool.{true}
use mathlib.Core.List.{List, [], ◌∷◌, ◌++◌, append_assoc, append-nil}
use mathlib.Core.Option.{Option, some, none}
use Prim.Native.Nat.{ℕ, ◌+◌, ◌-◌, ◌*◌, ◌≤◌}
use native.Mathlib.Omega.{arith}
use lib.ListN.{length, take, drop, length-append, length-drop}
use lib.Seq.{drop-drop}
use Rattle.model.proofs.basics.Tests.{by_test, none_not_some, some_inj}
use Rattle.script_commands.specs.Scripts.{script_bytes}
use Rattle.script_commands.proofs.ReadBack.{script-append}
use Rattle.script_codes.specs.Says.{put_over}
use Rattle.scripts.proofs.Parts.{rest_from}
use Rattle.capture_frames.specs.Frames.{captured_in, record_good, frame_in, after_record, with_frame, frames_from, priority_of}
use Rattle.capture_frames.specs.Script.{queue_of, arrivals, all_arrivals}
use Rattle.capture_frames.specs.Sentences.{captured_bytes}
use Rattle.capture_frames.proofs.Records.{good_record, frame_length, frames_end, frames_next, frames_fault}
use Rattle.captures.specs.Says.{FramesFit, FramesWritten}
use Rattle.captures.proofs.Over.{over_length, part_put}
use Rattle.captures.proofs.Arrived.{arrivals-length}

-- The arrivals of all frames have three bytes for each of theirs.
pub all_arrivals_length : (frames : List (List ℕ))
    → length (script_bytes (all_arrivals frames)) ≡ 3 * length (captured_bytes frames)
all_arrivals_length [] = refl
all_arrivals_length (frame ∷ frames) =
    ap length (script-append (arrivals (queue_of frame) frame) (all_arrivals frames))
    ∙ omega (
      arith,
      length-append (script_bytes (arrivals (queue_of frame) frame)) (script_bytes (all_arrivals frames)),
      arrivals-length (queue_of frame) frame,
      all_arrivals_length frames,
      length-append frame (captured_bytes frames),
    )

all_arrivals_append : (frames more : List (List ℕ))
    → script_bytes (all_arrivals (frames ++ more)) ≡ script_bytes (all_arrivals frames) ++ script_bytes (all_arrivals more)
all_arrivals_append [] more = refl
all_arrivals_append (frame ∷ frames) more =
    script-append (arrivals (queue_of frame) frame) (all_arrivals (frames ++ more))
    ∙ ap (λ (bytes : List ℕ). script_bytes (arrivals (queue_of frame) frame) ++ bytes) (all_arrivals_append frames more)
    ∙ sym (append_assoc (script_bytes (arrivals (queue_of frame) frame)) (script_bytes (all_arrivals frames))
    (script_bytes (all_arrivals more)))
    ∙ ap (λ (bytes : List ℕ). bytes ++ script_bytes (all_arrivals more))
    (sym (script-append (arrivals (queue_of frame) frame) (all_arrivals frames)))

captured_append : (frames more : List (List ℕ))
    → length (captured_bytes (frames ++ more)) ≡ length (captured_bytes frames) + length (captured_bytes more)
captured_append [] more = omega arith
captured_append (frame ∷ frames) more =
    omega (
      arith,
      length-append frame (captured_bytes (frames ++ more)),
      length-append frame (captured_bytes frames),
      captured_append frames more,
    )

-- Before each turn the frames before what is left of the records stand written up to the place in the output.
pub record WrittenTo (records output rest : List ℕ) (to : ℕ) (output' : List ℕ) : Type 0 where
  pub before : List (List ℕ)
  pub after : List (List ℕ)
  pub all_are : frames_from records ≡ some (before ++ after)
  pub after_are : frames_from rest ≡ some after
  pub to_is : to ≡ 3 * length (captured_bytes before)
  pub same_length : length output' ≡ length output
  pub output_is : output' ≡ put_over (script_bytes (all_arrivals before)) output

pub frames_start : {records output : List ℕ} → FramesFit 0 records output → WrittenTo records output records 0 output
frames_start {records} {output} room = record {
  before = [];
  after = room.frames;
  all_are = room.frames_are;
  after_are = room.frames_are;
  to_is = refl;
  same_length = refl;
  output_is = refl;
}

-- Where there are frames and bytes are left, the record there is good.
pub next_good : (rest : List ℕ) (frames : List (List ℕ)) → frames_from rest ≡ some frames → (length rest ≡ 0 → ⊥)
    → record_good rest ≡ true
next_good rest frames are some_left =
    by_test (record_good rest)
    (λ t. t)
    (λ t. absurd (none_not_some frames (sym (frames_fault rest some_left t) ∙ are)))

-- .. and its frame is the next one.
pub record NextFrame (rest : List ℕ) (frames : List (List ℕ)) : Type 0 where
  pub others : List (List ℕ)
  pub frames_are : frames ≡ frame_in rest ∷ others
  pub others_are : frames_from (after_record rest) ≡ some others

pub next_frame : (rest : List ℕ) (frames : List (List ℕ)) → frames_from rest ≡ some frames → (length rest ≡ 0 → ⊥)
    → NextFrame rest frames
next_frame rest frames are some_left =
    go (frames_from (after_record rest)) refl
    (sym (frames_next rest some_left (next_good rest frames are some_left)) ∙ are)
  where
    go : (o : Option (List (List ℕ))) → frames_from (after_record rest) ≡ o → with_frame (frame_in rest) o ≡ some frames
        → NextFrame rest frames
    go none e f = absurd (none_not_some frames f)
    go (some others) e f = record {
      others = others;
      frames_are = sym (some_inj (frame_in rest ∷ others) frames f);
      others_are = e;
    }

module _ {records output rest : List ℕ} {to : ℕ} {output' : List ℕ} (w : WrittenTo records output rest to output')
    (room : FramesFit 0 records output) where
  all_frames : room.frames ≡ w.before ++ w.after
  all_frames = some_inj room.frames (w.before ++ w.after) (sym room.frames_are ∙ w.all_are)

  place_written : to ≡ length (script_bytes (all_arrivals w.before))
  place_written = w.to_is ∙ sym (all_arrivals_length w.before)

  room_left : to + 3 * length (captured_bytes w.after) ≤ length output
  room_left =
      omega (
        arith,
        w.to_is,
        captured_append w.before w.after,
        ap (λ (frames : List (List ℕ)). length (captured_bytes frames)) all_frames,
        room.enough,
      )

  pub to_within : to ≤ length output'
  to_within = omega (arith, room_left, w.same_length)

  pub part_length : length (take (length output' - to) (drop to output')) ≡ length output - to
  part_length = omega (arith, ap length (rest_from to output'), length-drop to output', w.same_length)

  module _ (some_left : length rest ≡ 0 → ⊥) {n : ℕ} (is_n : n ≡ captured_in rest) where
    pub there_good : record_good rest ≡ true
    there_good = next_good rest w.after w.after_are some_left

    next : NextFrame rest w.after
    next = next_frame rest w.after w.after_are some_left

    pub next_within : 16 + n ≤ length rest
    next_within = omega (arith, is_n, (good_record rest there_good).all_there)

    -- The frame as the code lends it.
    module _ {frame : List ℕ} (lent : frame ≡ take n (drop 16 rest)) where
      pub frame_is : frame ≡ frame_in rest
      frame_is = lent ∙ rw is_n

      frame_long : length frame ≡ n
      frame_long =
          ap length frame_is
          ∙ frame_length rest (good_record rest there_good)
          ∙ sym is_n

      after_long : length (captured_bytes w.after) ≡ n + length (captured_bytes next.others)
      after_long =
          ap (λ (frames : List (List ℕ)). length (captured_bytes frames)) next.frames_are
          ∙ length-append (frame_in rest) (captured_bytes next.others)
          ∙ omega (arith, ap length frame_is, frame_long)

      pub frame_room : 3 * length frame ≤ length (take (length output' - to) (drop to output'))
      frame_room = omega (arith, part_length, frame_long, after_long, room_left)

      pub place_room : to + 3 * n ≤ length output
      place_room = omega (arith, after_long, room_left)

      module _ {queue : ℕ} (is-queue : queue ≡ priority_of frame) {part' : List ℕ}
          (put : part' ≡ put_over (script_bytes (arrivals queue frame)) (take (length output' - to) (drop to output')))
        where
          abbrev all : List ℕ
          all = take to output' ++ (part' ++ drop (length output' - to) (drop to output'))

          abbrev done : List (List ℕ)
          done = w.before ++ frame ∷ []

          done_written : script_bytes (all_arrivals done)
              ≡ script_bytes (all_arrivals w.before) ++ script_bytes (arrivals queue frame)
          done_written =
              all_arrivals_append w.before (frame ∷ [])
              ∙ rw (is-queue, append-nil (arrivals (priority_of frame) frame))

          all_is : all ≡ put_over (script_bytes (all_arrivals done)) output
          all_is =
              part_put (script_bytes (all_arrivals w.before)) (script_bytes (arrivals queue frame)) output
              place_written w.output_is put
              ∙ ap (λ (bytes : List ℕ). put_over bytes output) (sym done_written)

          done_long : length (captured_bytes done) ≡ length (captured_bytes w.before) + n
          done_long =
              captured_append w.before (frame ∷ [])
              ∙ omega (arith, length-append frame [], frame_long)

          pub frames_go_on : {behind : List ℕ} → behind ≡ drop n (drop 16 rest)
              → WrittenTo records output behind (to + 3 * n) all
          frames_go_on behind-is = record {
            before = done;
            after = next.others;
            all_are =
                w.all_are
                ∙ ap (λ (frames : List (List ℕ)). some (w.before ++ frames)) next.frames_are
                ∙ rw (← frame_is) (ap some (sym (append_assoc w.before (frame ∷ []) next.others)));
            after_are =
                ap frames_from (behind-is ∙ drop-drop n 16 rest ∙ rw is_n)
                ∙ next.others_are;
            to_is = omega (arith, w.to_is, done_long);
            same_length =
                ap length all_is
                ∙ over_length (script_bytes (all_arrivals done)) output
                (omega (arith, all_arrivals_length done, done_long, w.to_is, place_room));
            output_is = all_is;
          }

  pub frames_end_here : length rest ≡ 0 → FramesWritten records output to output'
  frames_end_here done = record {
    length-is = w.to_is ∙ rw (w.all_are, none_left);
    output_is = w.output_is ∙ rw (w.all_are, none_left);
  }
    where
      after_none : w.after ≡ []
      after_none = some_inj w.after [] (sym w.after_are ∙ frames_end rest done)

      none_left : w.before ++ w.after ≡ w.before
      none_left = ap (λ (frames : List (List ℕ)). w.before ++ frames) after_none ∙ append-nil w.before
