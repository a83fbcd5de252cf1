-- `packet_record::turn` meets its contract: what is asked for, the packet coming in, and its place in its list, in that
-- order, are the record after the slot.
use mathlib.Core.Path.{◌≡◌, refl, sym, ◌∙◌}
use Rattle.packets.specs.Packets.{incoming_after}
use Rattle.layout.specs.Calls.{arrival_number_in, request_number_in}
use Rattle.packet_layout.specs.Views.{arrival_of, incoming_of, call_of, record_in}
use Rattle.packet_record.specs.Says.{arriving}
use Rattle.packet_record.proofs.Turning.{not-whole, request-fits, place_if_whole, comes-now, turned}
use Rattle.packet_record.proofs.turn.Goals as goal
use Rattle.packet_record.proofs.turn.Goals.{After-grow-grown}

pub ask-asked-requires : goal.ask-asked-requires
ask-asked-requires c =
    let a = c.args in
    (c.requires.0, request-fits a.regs a.lengths.now a.listed.now (call_of a.call) c.requires.1)

pub grow-grown-requires : goal.grow-grown-requires
grow-grown-requires c =
    let a = c.args in
    λ d e. not-whole (record_in a.regs a.lengths.now a.listed.now) (call_of a.call) c.requires.1 d
    (sym c.ask-asked.ensures.incoming_same ∙ e)

-- The packet coming in, grown.
joined : (c : After-grow-grown)
    → let a = c.args in
    incoming_after (record_in a.regs a.lengths.now a.listed.now) (call_of a.call) (arrival_number_in a.outcome)
    ≡ incoming_of c.grow-grown.result
joined c =
    let a = c.args in
    comes-now a.regs a.lengths.now a.listed.now (call_of a.call) (arrival_number_in a.outcome) (request_number_in a.outcome)
    c.ask-asked.result c.ask-asked.new.lengths c.ask-asked.new.listed c.ask-asked.ensures
    c.grow-grown.result (arriving (arrival_of a.call.arrival)) refl c.grow-grown.ensures

pub enter_whole-requires : goal.enter_whole-requires
enter_whole-requires c =
    let a = c.args in (
      c.ask-asked.ensures.lists_long,
      place_if_whole (record_in a.regs a.lengths.now a.listed.now) (call_of a.call) c.requires.1
          (arrival_number_in a.outcome) (request_number_in a.outcome)
          c.ask-asked.new.lengths c.ask-asked.new.listed c.ask-asked.ensures.lists_are _
          (joined (goal.at.enter_whole-requires c).After-grow-grown),
    )

pub returns : goal.returns
returns c =
    let a = c.args in
    turned a.regs a.lengths.now a.listed.now (call_of a.call) (arrival_number_in a.outcome) (request_number_in a.outcome)
    c.ask-asked.result c.ask-asked.new.lengths c.ask-asked.new.listed c.ask-asked.ensures
    c.grow-grown.result (arriving (arrival_of a.call.arrival)) refl c.grow-grown.ensures
    c.enter_whole.result c.enter_whole.new.lengths c.enter_whole.new.listed c.enter_whole.ensures
