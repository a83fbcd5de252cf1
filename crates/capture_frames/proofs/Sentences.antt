-- What the request says of captures and their scripts holds: `captures_say`. Each sentence rests on a law of its own;
-- what is put together here is that a good capture's slots are arrivals at eight queues, of the eight or more that its
-- sizes have.
use mathlib.Core.Path.{◌≡◌, refl, ap, sym, ◌∙◌, subst}
use mathlib.Core.List.{List}
use Prim.Native.Nat.{ℕ, zero, suc, ◌≤◌}
use lib.ListN.{length, drop}
use Rattle.model.specs.Basics.{All}
use Rattle.model.specs.Sizes.{Sizes, paper, paper_limits, store_bytes}
use Rattle.model.specs.State.{fresh}
use Rattle.model.specs.Lists.{Step, list_of}
use Rattle.model.specs.Demand.{ListMeets}
use Rattle.model.proofs.Demand.{every_list}
use Rattle.capture_frames.specs.Frames.{header_bytes}
use Rattle.capture_frames.specs.Script.{frames_of, capture_script, faulty, capture_fault, capture_number}
use Rattle.capture_frames.specs.Script.{output_after}
use Rattle.capture_frames.specs.Sentences.{Bytes, values, capture_slots, DropsOnly5, AnswersInOrder, CapturesSay}
use Rattle.capture_frames.proofs.Order.{answers-1, answers-19, answers-17, answers-18, answers-none}
use Rattle.capture_frames.proofs.Order.{fault_first, answers-16, answers-0}
use Rattle.capture_frames.proofs.Headers.{good_is_named, named_is_good}
use Rattle.capture_frames.proofs.RecordsSay.{records_from, frames_from_lem, frames_bytes}
use Rattle.capture_frames.proofs.Good.{GoodCapture, good_capture}
use Rattle.capture_frames.proofs.Commands.{commands_in_order, queue_of_eight, script-good, script-length}
use Rattle.capture_frames.proofs.Commands.{script-fits}
use Rattle.capture_frames.proofs.Slots.{capture_slots_lem, slots_values, AsksNothing, slots_ask_nothing}
use Rattle.capture_frames.proofs.Slots.{ArrivesBelow, slots_of_eight}
use Rattle.capture_frames.proofs.Answers.{ArrivalSays, run-answers, none_4, none_but_5}

-- The slots of a good capture.
module _ (s : Sizes) (capture store : List ℕ) (bytes : Bytes capture) (e : capture_fault s capture ≡ 0) where
  good : GoodCapture s capture
  good = good_capture s capture e

  abbrev steps : List Step
  steps = list_of paper s store (capture_slots s capture)

  eight : All (ArrivesBelow 8) (capture_slots s capture)
  eight =
      subst (All (ArrivesBelow 8)) (sym (capture_slots_lem s (frames_of capture)))
      (slots_of_eight (frames_of capture) (frames_bytes capture (frames_of capture) good.frames_there bytes))

  answers : All (λ (step : Step). ArrivalSays step.reply) steps
  answers = run-answers paper 8 (fresh paper s) store (capture_slots s capture) good.eight_queues eight

  meets : ListMeets s store steps
  meets = every_list paper_limits s store (capture_slots s capture) good.accepted

  only-full : store_bytes s ≤ length store → All DropsOnly5 steps
  only-full long = none_but_5 steps answers (meets.no_2 long) meets.no_3 meets.no_miss

-- The answers, by their laws.
in_their_order : (s : Sizes) (capture : List ℕ) → AnswersInOrder s capture
in_their_order s capture = record {
  one = answers-1 s capture;
  nineteen = answers-19 s capture;
  seventeen = answers-17 s capture;
  eighteen = λ a many h none_there. answers-18 s capture a many h (ap faulty none_there);
  none_of_them = λ a many h frames there. answers-none s capture a many h (ap faulty there);
  before_16 = λ room some-fault. positive_first room (capture_fault s capture) refl some-fault;
  sixteen = answers-16 s capture;
  none_at_all = answers-0 s capture;
}
  where
    positive_first : (room n : ℕ) → capture_fault s capture ≡ n → (capture_fault s capture ≡ 0 → ⊥)
        → capture_number s capture room ≡ capture_fault s capture
    positive_first room zero e some-fault = absurd (some-fault e)
    positive_first room (suc n) e some-fault = fault_first s capture room e ∙ sym e

-- A refusal's output.
as_it_came : (n : ℕ) (script output : List ℕ) → (n ≡ 0 → ⊥) → output_after n script output ≡ output
as_it_came zero script output refused = absurd (refused refl)
as_it_came (suc n) script output refused = refl

pub captures_say : CapturesSay
captures_say = record {
  header_named = good_is_named;
  named_header = named_is_good;
  reads_well = script-good;
  sizes-are = λ s frames. refl;
  in_order = commands_in_order;
  frames_recorded = λ capture. records_from (drop header_bytes capture);
  records_framed = λ capture frames r. frames_from_lem r;
  slots_are = λ s capture. capture_slots_lem s (frames_of capture);
  bytes_in_order = λ s capture.
      ap values (capture_slots_lem s (frames_of capture)) ∙ slots_values (frames_of capture);
  nothing_asked = λ s capture.
      subst (All AsksNothing) (sym (capture_slots_lem s (frames_of capture))) (slots_ask_nothing (frames_of capture));
  queue_of_eight = queue_of_eight;
  never_4 = λ s capture store bytes e. none_4 (steps s capture store bytes e) (answers s capture store bytes e);
  only_5 = only-full;
  length-is = script-length;
  room_enough = script-fits;
  order = in_their_order;
  untouched = λ s capture output.
      as_it_came (capture_number s capture (length output)) (capture_script s capture) output;
}
