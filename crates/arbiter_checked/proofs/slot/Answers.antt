-- `slot` meets its contract: what is judged of every slot holds of this one, and where 3 and 2 are ruled out it goes in
-- place with the counts that judging took.
use Rattle.std.proofs.Common.{refl}
use Rattle.layout.specs.Calls.{arrival_in}
use Rattle.layout.specs.Views.{arrays}
use Rattle.arbiter_checked.proofs.Judged.{slot-refused, slot-ready, slot-advanced}
use Rattle.arbiter_checked.proofs.slot.Goals as goal

pub returns-in-Err : goal.returns-in-Err
returns-in-Err c =
    let a = c.args in
    slot-refused (arrays a.tail.now a.head.now a.cells.now a.firsts.now a.stored.now) a.store.now
    c.regs_in-before.ensures c.in-Err.ensures (arrival_in a.arrival) refl

pub advance-requires : goal.advance-requires
advance-requires c =
    let a = c.args in
    slot-ready (arrays a.tail.now a.head.now a.cells.now a.firsts.now a.stored.now) a.store.now
    c.regs_in-before.ensures c.in_default.ensures refl c.requires

pub returns : goal.returns
returns c =
    let a = c.args in
    slot-advanced (arrays a.tail.now a.head.now a.cells.now a.firsts.now a.stored.now) a.store.now
    c.regs_in-before.ensures c.in_default.ensures refl c.advance.ensures
