-- `advance` meets its contract: it decides as the model does (Deciding), and carries out what the model accepts.
use mathlib.Core.Path.{◌≡◌, refl, sym, ◌∙◌, subst}
use mathlib.Core.Option.{Option}
use Prim.Native.Nat.{ℕ}
use native.Mathlib.Omega.{arith}
use Rattle.std.proofs.Common.{slice_index_or}
use borrow.Author.Rules.{rules}
use borrow.Author.Tests.{tests}
use Rattle.model.proofs.one_slot.Calls.{reply_is}
use Rattle.layout.specs.Calls.{chosen_in, refill_in, call_in, number_of}
use Rattle.layout.specs.Counts.{by_queue}
use Rattle.layout.specs.Entries.{cell_of}
use Rattle.layout.specs.Views.{sizes_in}
use Rattle.layout.proofs.Refusals.{refusal_is_some}
use Rattle.slot_counts.specs.Says.{TurnSays}
use Rattle.slot_plan.specs.Says.{arrival_number_of, request_number_of}
use Rattle.slot_in_place.proofs.Standing as standing
use Rattle.slot_in_place.proofs.Deciding as deciding
use Rattle.slot_in_place.proofs.advance.Goals as goal

pub decide-requires : goal.decide-requires
decide-requires c =
    let r = c.requires in
    let v = standing.kept r in (
      v.sizes-ok,
      v.phase_ok,
      omega (arith, standing.head_in r),
      standing.cells_known r,
      standing.tails_small r,
    )

pub returns-in-Err : goal.returns-in-Err
returns-in-Err c = (
  record {
    answer-is = standing.refused-slot c.requires (call_in c.args.call) (number_of c.in-Err.refusal)
        (refusal_is_some c.in-Err.refusal) (deciding.number_is c.requires (call_in c.args.call) c.in-Err.ensures) refl;
    ready = c.requires;
  },
  λ f. (refl, refl),
)

pub turn-requires : goal.turn-requires
turn-requires c =
    let call = call_in c.args.call in
    let r = c.requires in
    let says = c.in-Ok.ensures in
    let halves = deciding.halves_there r call says in
    let read : chosen_in c.map-read.result ≡ (refill_in c.in-Ok.plan.refill).queue = search (rules, tests) in (
      (standing.kept r).sizes-ok,
      standing.tails_small r,
      standing.heads_small r,
      standing.owing_small r,
      deciding.leaving_there r call says,
      halves.0,
      halves.1,
      halves.2,
      halves.3,
      λ q e. deciding.read_there r call says q (sym read ∙ e),
    )

pub carry-carried-requires : goal.carry-carried-requires
carry-carried-requires c = (c.requires.long, deciding.decided c.requires (call_in c.args.call) c.in-Ok.ensures)

pub returns : goal.returns
returns c =
    let call = call_in c.args.call in
    let r = c.requires in
    let says = c.in-Ok.ensures in
    let plan = c.in-Ok.plan in
    let carried = c.carry-carried.ensures in
    let taken = call_in plan.call in
    let all = deciding.decided r call says in
    let read : chosen_in c.map-read.result ≡ (refill_in plan.refill).queue = search (rules, tests) in
    let turned = subst (λ (q : Option ℕ). TurnSays (sizes_in c.args.regs) (cell_of (slice_index_or c.args.cells.now 0 0)) taken
    plan.owes (chosen_in plan.written) q (by_queue c.args.tails.now c.args.heads.now c.args.owing.now)
    (by_queue c.turn.new.tails c.turn.new.heads c.turn.new.owing)) read c.turn.ensures in (
      record {
        answer-is =
            standing.carried_answer r taken all (arrival_number_of plan) (request_number_of plan) carried
            (reply_is _ _ refl refl refl carried.delivery_is all.written_is all.read_is
            (deciding.slots_left_is r call says)) refl refl
            ∙ deciding.carries r call says;
        ready = standing.carried_ready r taken all carried (deciding.counted r call says turned);
      },
      λ f. absurd (f refl),
    )
