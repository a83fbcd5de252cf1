-- `slot` meets its contract: what is judged of every slot holds of this one, and where 3 and 2 are ruled out it goes in
-- place with the counts that judging took.
use mathlib.Core.Path.{refl}
use Rattle.layout.specs.Views.{arrays}
use Rattle.layout.proofs.Refusals.{refusal_is_some}
use Rattle.packet_layout.specs.Views.{call_of}
use Rattle.packet_in_place.specs.Says.{record_arrays}
use Rattle.packet_checked.proofs.Judged.{slot-stopped, slot-ready, slot-advanced}
use Rattle.packet_checked.proofs.slot.Goals as goal

pub returns-in-Err : goal.returns-in-Err
returns-in-Err c =
    let a = c.args in
    slot-stopped (arrays a.tail.now a.head.now a.cells.now a.firsts.now a.stored.now) a.store.now
    (record_arrays a.packet_regs.now a.lengths.now a.listed.now) c.regs_in-before.ensures c.judge_state-state.ensures
    c.regs_in-packet.ensures c.in-Err.ensures (call_of a.call) (refusal_is_some c.in-Err.refusal) refl c.requires.0

pub advance-requires : goal.advance-requires
advance-requires c =
    let a = c.args in
    slot-ready (arrays a.tail.now a.head.now a.cells.now a.firsts.now a.stored.now) a.store.now
    (record_arrays a.packet_regs.now a.lengths.now a.listed.now) c.regs_in-before.ensures c.judge_state-state.ensures
    c.regs_in-packet.ensures c.in_default.ensures refl c.requires.0 c.requires.1

pub returns : goal.returns
returns c =
    let a = c.args in
    slot-advanced (arrays a.tail.now a.head.now a.cells.now a.firsts.now a.stored.now) a.store.now
    (record_arrays a.packet_regs.now a.lengths.now a.listed.now) c.regs_in-before.ensures c.judge_state-state.ensures
    c.regs_in-packet.ensures c.in_default.ensures refl c.advance.ensures
