-- `in_turn` meets its contract: a judgement other than 0 is the slot's refusal; else each step finds what it asks in
-- the state that the one before it left, and all of them are the slot.
use mathlib.Core.Path.{◌≡◌, refl, ◌∙◌}
use Rattle.model.specs.Sizes.{paper}
use Rattle.model.specs.Slot.{early_arrival, late_arrival}
use Rattle.model.proofs.one_slot.Accepted.{Accepted}
use borrow.Author.Rules.{rules}
use borrow.Author.Tests.{tests}
use Rattle.layout.specs.Calls.{chosen_in, arrival_in, refill_in, call_in}
use Rattle.buffer.specs.Says.{state_of, arrival_number_judged, request_number_judged}
use Rattle.buffer.proofs.InTurn.{can_deliver, can_arrive, can_ask, can_arrive_late, can_write, can_read, can_turn}
use Rattle.buffer.proofs.InTurn.{all_in_turn}
use Rattle.buffer.proofs.Promises.{judged_carries, refused_says}
use Rattle.buffer_choices.proofs.InTurn.{judged_accepted, early_told, late_told, owing_told, write_told}
use Rattle.buffer_choices.proofs.InTurn.{read_told, reads_as, read_as}
use Rattle.buffer_choices.proofs.in_turn.Goals as goal
use Rattle.buffer_choices.proofs.in_turn.Goals.{After-early_arrival-early, After-late_arrival-late, After-swaps-swapping}

accepted : (c : After-swaps-swapping) → Accepted paper (state_of c.args.state) (c.args.store.now) (call_in c.in-Ok.judged.call)
accepted c =
    judged_accepted c.args.store.now (call_in c.args.call) c.in-Ok.ensures

-- What the four choices tell is what the slot decides.
early-is : (c : After-early_arrival-early)
    → arrival_in c.early_arrival-early.result ≡ early_arrival (state_of c.args.state) (call_in c.in-Ok.judged.call)
early-is c =
    early_told (state_of c.args.state) (call_in c.in-Ok.judged.call)
    c.swaps-swapping.ensures c.early_arrival-early.ensures

late_is : (c : After-late_arrival-late)
    → arrival_in c.late_arrival-late.result ≡ late_arrival (state_of c.args.state) (call_in c.in-Ok.judged.call)
late_is c =
    late_told (state_of c.args.state) (call_in c.in-Ok.judged.call)
    c.swaps-swapping.ensures c.late_arrival-late.ensures

pub returns-in-Err : goal.returns-in-Err
returns-in-Err c =
    refused_says c.args.state c.args.store.now (call_in c.args.call) (c.in-Err.ensures.number_is c.args.store.now refl)

pub deliver-first-requires : goal.deliver-first-requires
deliver-first-requires c =
    let ok = accepted (goal.at.deliver-first-requires c).After-swaps-swapping in
    can_deliver _ _ _ ok

pub arrive-arrived-requires : goal.arrive-arrived-requires
arrive-arrived-requires c =
    let ok = accepted (goal.at.arrive-arrived-requires c).After-swaps-swapping in
    can_arrive _ _ _ ok c.deliver-first.ensures.0

pub ask-asked-requires : goal.ask-asked-requires
ask-asked-requires c =
    let ok = accepted (goal.at.ask-asked-requires c).After-swaps-swapping in
    let early = early-is (goal.at.ask-asked-requires c).After-early_arrival-early in
    can_ask _ _ _ ok c.deliver-first.ensures.0 early c.arrive-arrived.ensures
    c.owes_request-owing.result (owing_told ok c.deliver-first.ensures.0 early c.arrive-arrived.ensures
    c.owes_request-owing.ensures)

pub arrive-filled-requires : goal.arrive-filled-requires
arrive-filled-requires c =
    let ok = accepted (goal.at.arrive-filled-requires c).After-swaps-swapping in
    let early = early-is (goal.at.arrive-filled-requires c).After-early_arrival-early in
    can_arrive_late _ _ _ ok c.deliver-first.ensures.0 early c.arrive-arrived.ensures
    c.ask-asked.ensures

pub write-wrote-requires : goal.write-wrote-requires
write-wrote-requires c =
    let ok = accepted (goal.at.write-wrote-requires c).After-swaps-swapping in
    let early = early-is (goal.at.write-wrote-requires c).After-early_arrival-early in
    let late = late_is (goal.at.write-wrote-requires c).After-late_arrival-late in
    let wrote = write_told ok c.deliver-first.ensures.0 early c.arrive-arrived.ensures c.ask-asked.ensures late
    c.arrive-filled.ensures c.to_write-written.ensures in
    can_write _ _ _ ok c.deliver-first.ensures.0 early c.arrive-arrived.ensures c.ask-asked.ensures
    late c.arrive-filled.ensures wrote

pub read-refilled-requires : goal.read-refilled-requires
read-refilled-requires c =
    let ok = accepted (goal.at.read-refilled-requires c).After-swaps-swapping in
    let early = early-is (goal.at.read-refilled-requires c).After-early_arrival-early in
    let late = late_is (goal.at.read-refilled-requires c).After-late_arrival-late in
    let wrote = write_told ok c.deliver-first.ensures.0 early c.arrive-arrived.ensures c.ask-asked.ensures late
    c.arrive-filled.ensures c.to_write-written.ensures in
    let read = read_told ok c.deliver-first.ensures.0 early c.arrive-arrived.ensures c.ask-asked.ensures late
    c.arrive-filled.ensures c.to_write-written.ensures c.write-wrote.ensures.0 c.write-wrote.ensures.1
    c.to_read-refill.ensures in
    let same : chosen_in c.map-chosen.result ≡ (refill_in c.to_read-refill.result).queue = search (rules, tests) in
    reads_as same (can_read _ _ _ ok c.deliver-first.ensures.0 early c.arrive-arrived.ensures c.ask-asked.ensures
    late c.arrive-filled.ensures wrote c.write-wrote.ensures.0 c.write-wrote.ensures.1 read)

pub turn-turned-requires : goal.turn-turned-requires
turn-turned-requires c =
    let ok = accepted (goal.at.turn-turned-requires c).After-swaps-swapping in
    let early = early-is (goal.at.turn-turned-requires c).After-early_arrival-early in
    let late = late_is (goal.at.turn-turned-requires c).After-late_arrival-late in
    let wrote = write_told ok c.deliver-first.ensures.0 early c.arrive-arrived.ensures c.ask-asked.ensures late
    c.arrive-filled.ensures c.to_write-written.ensures in
    let read = read_told ok c.deliver-first.ensures.0 early c.arrive-arrived.ensures c.ask-asked.ensures late
    c.arrive-filled.ensures c.to_write-written.ensures c.write-wrote.ensures.0 c.write-wrote.ensures.1
    c.to_read-refill.ensures in
    let same : chosen_in c.map-chosen.result ≡ (refill_in c.to_read-refill.result).queue = search (rules, tests) in
    can_turn _ _ _ ok c.deliver-first.ensures.0 early c.arrive-arrived.ensures c.ask-asked.ensures
    late c.arrive-filled.ensures wrote c.write-wrote.ensures.0 c.write-wrote.ensures.1 read
    (read_as same (state_of c.write-wrote.result) c.write-wrote.new.store c.read-refilled.ensures)

pub returns : goal.returns
returns c =
    let ok = accepted (goal.at.returns c).After-swaps-swapping in
    let early = early-is (goal.at.returns c).After-early_arrival-early in
    let late = late_is (goal.at.returns c).After-late_arrival-late in
    let wrote = write_told ok c.deliver-first.ensures.0 early c.arrive-arrived.ensures c.ask-asked.ensures late
    c.arrive-filled.ensures c.to_write-written.ensures in
    let read = read_told ok c.deliver-first.ensures.0 early c.arrive-arrived.ensures c.ask-asked.ensures late
    c.arrive-filled.ensures c.to_write-written.ensures c.write-wrote.ensures.0 c.write-wrote.ensures.1
    c.to_read-refill.ensures in
    let same : chosen_in c.map-chosen.result ≡ (refill_in c.to_read-refill.result).queue = search (rules, tests) in
    record {
      promised = all_in_turn _ _ _ ok c.deliver-first.ensures.0 early c.arrive-arrived.ensures
          c.ask-asked.ensures late c.arrive-filled.ensures wrote c.write-wrote.ensures.0
          c.write-wrote.ensures.1 read
          (read_as same (state_of c.write-wrote.result) c.write-wrote.new.store c.read-refilled.ensures)
          (arrival_number_judged c.in-Ok.judged) (request_number_judged c.in-Ok.judged) c.turn-turned.ensures c.deliver-first.ensures.1
          ∙ judged_carries c.args.store.now (call_in c.args.call) c.in-Ok.ensures;
      as_given = λ refused. absurd (refused refl);
    }
