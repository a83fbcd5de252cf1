-- In `in_steps` each step finds what it asks: after a judgement of 0 in the state that the one before it left.
use mathlib.Core.Path.{◌≡◌}
use Rattle.model.specs.Sizes.{paper}
use Rattle.model.specs.Slot.{early_arrival, late_arrival}
use Rattle.model.proofs.one_slot.Accepted.{Accepted}
use borrow.Author.Rules.{rules}
use borrow.Author.Tests.{tests}
use Rattle.layout.specs.Calls.{chosen_in, arrival_in, refill_in, call_in}
use Rattle.buffer.specs.Says.{state_of}
use Rattle.buffer.proofs.InTurn.{can_deliver, can_arrive, can_ask, can_arrive_late, can_write, can_read, can_turn}
use Rattle.buffer_choices.proofs.InTurn.{judged_accepted, early_told, late_told, owing_told, write_told}
use Rattle.buffer_choices.proofs.InTurn.{read_told, reads_as, read_as}
use Rattle.example_steps.proofs.in_steps.Given.{Over}
use Rattle.example_steps.proofs.in_steps.Goals as goal
use Rattle.example_steps.proofs.in_steps.Goals.{After-early_arrival-early, After-late_arrival-late, After-swaps-swapping}

accepted : (o : Over) (c : After-swaps-swapping o) → Accepted paper (state_of c.args.state) (c.args.store.now) (call_in c.in-Ok.judged.call)
accepted o c =
    judged_accepted c.args.store.now (call_in c.args.call) c.in-Ok.ensures

-- What the four choices tell is what the slot decides.
early-is : (o : Over) (c : After-early_arrival-early o)
    → arrival_in c.early_arrival-early.result ≡ early_arrival (state_of c.args.state) (call_in c.in-Ok.judged.call)
early-is o c =
    early_told (state_of c.args.state) (call_in c.in-Ok.judged.call)
    c.swaps-swapping.ensures c.early_arrival-early.ensures

late_is : (o : Over) (c : After-late_arrival-late o)
    → arrival_in c.late_arrival-late.result ≡ late_arrival (state_of c.args.state) (call_in c.in-Ok.judged.call)
late_is o c =
    late_told (state_of c.args.state) (call_in c.in-Ok.judged.call)
    c.swaps-swapping.ensures c.late_arrival-late.ensures

pub deliver-first-requires : goal.deliver-first-requires
deliver-first-requires o c =
    let ok = accepted o (goal.at.deliver-first-requires o c).After-swaps-swapping in
    can_deliver _ _ _ ok

pub arrive-arrived-requires : goal.arrive-arrived-requires
arrive-arrived-requires o c =
    let ok = accepted o (goal.at.arrive-arrived-requires o c).After-swaps-swapping in
    can_arrive _ _ _ ok c.deliver-first.ensures.0

pub ask-asked-requires : goal.ask-asked-requires
ask-asked-requires o c =
    let ok = accepted o (goal.at.ask-asked-requires o c).After-swaps-swapping in
    let early = early-is o (goal.at.ask-asked-requires o c).After-early_arrival-early in
    can_ask _ _ _ ok c.deliver-first.ensures.0 early c.arrive-arrived.ensures
    c.owes_request-owing.result (owing_told ok c.deliver-first.ensures.0 early c.arrive-arrived.ensures
    c.owes_request-owing.ensures)

pub arrive-filled-requires : goal.arrive-filled-requires
arrive-filled-requires o c =
    let ok = accepted o (goal.at.arrive-filled-requires o c).After-swaps-swapping in
    let early = early-is o (goal.at.arrive-filled-requires o c).After-early_arrival-early in
    can_arrive_late _ _ _ ok c.deliver-first.ensures.0 early c.arrive-arrived.ensures
    c.ask-asked.ensures

pub write-wrote-requires : goal.write-wrote-requires
write-wrote-requires o c =
    let ok = accepted o (goal.at.write-wrote-requires o c).After-swaps-swapping in
    let early = early-is o (goal.at.write-wrote-requires o c).After-early_arrival-early in
    let late = late_is o (goal.at.write-wrote-requires o c).After-late_arrival-late in
    let wrote = write_told ok c.deliver-first.ensures.0 early c.arrive-arrived.ensures c.ask-asked.ensures late
    c.arrive-filled.ensures c.to_write-written.ensures in
    can_write _ _ _ ok c.deliver-first.ensures.0 early c.arrive-arrived.ensures c.ask-asked.ensures
    late c.arrive-filled.ensures wrote

pub read-refilled-requires : goal.read-refilled-requires
read-refilled-requires o c =
    let ok = accepted o (goal.at.read-refilled-requires o c).After-swaps-swapping in
    let early = early-is o (goal.at.read-refilled-requires o c).After-early_arrival-early in
    let late = late_is o (goal.at.read-refilled-requires o c).After-late_arrival-late in
    let wrote = write_told ok c.deliver-first.ensures.0 early c.arrive-arrived.ensures c.ask-asked.ensures late
    c.arrive-filled.ensures c.to_write-written.ensures in
    let read = read_told ok c.deliver-first.ensures.0 early c.arrive-arrived.ensures c.ask-asked.ensures late
    c.arrive-filled.ensures c.to_write-written.ensures c.write-wrote.ensures.0 c.write-wrote.ensures.1
    c.to_read.ensures in
    let same : chosen_in c.map-read.result ≡ (refill_in c.to_read.result).queue = search (rules, tests) in
    reads_as same (can_read _ _ _ ok c.deliver-first.ensures.0 early c.arrive-arrived.ensures c.ask-asked.ensures
    late c.arrive-filled.ensures wrote c.write-wrote.ensures.0 c.write-wrote.ensures.1 read)

pub turn-requires : goal.turn-requires
turn-requires o c =
    let ok = accepted o (goal.at.turn-requires o c).After-swaps-swapping in
    let early = early-is o (goal.at.turn-requires o c).After-early_arrival-early in
    let late = late_is o (goal.at.turn-requires o c).After-late_arrival-late in
    let wrote = write_told ok c.deliver-first.ensures.0 early c.arrive-arrived.ensures c.ask-asked.ensures late
    c.arrive-filled.ensures c.to_write-written.ensures in
    let read = read_told ok c.deliver-first.ensures.0 early c.arrive-arrived.ensures c.ask-asked.ensures late
    c.arrive-filled.ensures c.to_write-written.ensures c.write-wrote.ensures.0 c.write-wrote.ensures.1
    c.to_read.ensures in
    let same : chosen_in c.map-read.result ≡ (refill_in c.to_read.result).queue = search (rules, tests) in
    can_turn _ _ _ ok c.deliver-first.ensures.0 early c.arrive-arrived.ensures c.ask-asked.ensures
    late c.arrive-filled.ensures wrote c.write-wrote.ensures.0 c.write-wrote.ensures.1 read
    (read_as same (state_of c.write-wrote.result) c.write-wrote.new.store c.read-refilled.ensures)
