-- `write_frames` meets its contract: the record that what is left begins with is good, and its frame is the next one.
use Rattle.std.proofs.Common.{arith, refl, sym, ap, ◌∙◌, length}
use lib.ListN.{length-drop}
use borrow.Author.Tests.{eqb-true, eqb-false}
use Rattle.scripts.proofs.Parts.{rest_from}
use Rattle.capture_frames.proofs.Records.{good_record}
use Rattle.captures.proofs.Written.{frames_start, there_good, next_within, to_within, frame_room}
use Rattle.captures.proofs.Written.{place_room, frames_go_on, frames_end_here}
use Rattle.captures.proofs.writing.write_frames.Goals as goal

pub loop-rest-init : goal.loop-rest-init
loop-rest-init c = frames_start c.requires

pub captured_in-captured-requires : goal.captured_in-captured-requires
captured_in-captured-requires c =
    let some_left = eqb-false (length c.loop-rest.rest.now) 0 (sym c.is_empty.ensures ∙ c.loop-rest-test.true) in
    omega (arith, (good_record c.loop-rest.rest.now (there_good c.loop-rest.invariant c.requires some_left refl)).head_there)

pub slice_bounds-split_at-count : goal.slice_bounds-split_at-count
slice_bounds-split_at-count c =
    let some_left = eqb-false (length c.loop-rest.rest.now) 0 (sym c.is_empty.ensures ∙ c.loop-rest-test.true) in
    omega (arith, next_within c.loop-rest.invariant c.requires some_left c.captured_in-captured.ensures)

pub slice_bounds-split_at-start : goal.slice_bounds-split_at-start
slice_bounds-split_at-start c =
    let some_left = eqb-false (length c.loop-rest.rest.now) 0 (sym c.is_empty.ensures ∙ c.loop-rest-test.true) in
    omega (arith, next_within c.loop-rest.invariant c.requires some_left c.captured_in-captured.ensures)

pub split_at-requires : goal.split_at-requires
split_at-requires c =
    let some_left = eqb-false (length c.loop-rest.rest.now) 0 (sym c.is_empty.ensures ∙ c.loop-rest-test.true) in
    let rest = c.loop-rest.rest.now in
    omega (
      arith,
      next_within c.loop-rest.invariant c.requires some_left c.captured_in-captured.ensures,
      ap length (rest_from 16 rest),
      length-drop 16 rest,
    )

pub slice_bounds-write_frame-count : goal.slice_bounds-write_frame-count
slice_bounds-write_frame-count c = omega (arith, to_within c.loop-rest.invariant c.requires)

pub slice_bounds-write_frame-start : goal.slice_bounds-write_frame-start
slice_bounds-write_frame-start c = omega (arith, to_within c.loop-rest.invariant c.requires)

pub write_frame-requires : goal.write_frame-requires
write_frame-requires c =
    let some_left = eqb-false (length c.loop-rest.rest.now) 0 (sym c.is_empty.ensures ∙ c.loop-rest-test.true) in
    frame_room c.loop-rest.invariant c.requires some_left c.captured_in-captured.ensures
    (rw rest_from at c.split_at.ensures.front)

pub overflow_mul-to : goal.overflow_mul-to
overflow_mul-to c =
    let some_left = eqb-false (length c.loop-rest.rest.now) 0 (sym c.is_empty.ensures ∙ c.loop-rest-test.true) in
    omega (arith, place_room c.loop-rest.invariant c.requires some_left c.captured_in-captured.ensures refl)

pub overflow_add-to : goal.overflow_add-to
overflow_add-to c =
    let some_left = eqb-false (length c.loop-rest.rest.now) 0 (sym c.is_empty.ensures ∙ c.loop-rest-test.true) in
    omega (arith, place_room c.loop-rest.invariant c.requires some_left c.captured_in-captured.ensures refl)

pub loop-rest-preserved : goal.loop-rest-preserved
loop-rest-preserved c =
    let some_left = eqb-false (length c.loop-rest.rest.now) 0 (sym c.is_empty.ensures ∙ c.loop-rest-test.true) in
    frames_go_on c.loop-rest.invariant c.requires some_left c.captured_in-captured.ensures
    (rw rest_from at c.split_at.ensures.front) c.queue_of.ensures c.write_frame.ensures
    (rw rest_from at c.split_at.ensures.back)

pub returns : goal.returns
returns c =
    frames_end_here c.loop-rest.invariant c.requires (eqb-true _ 0 (sym c.is_empty.ensures ∙ c.loop-rest-test.false))
