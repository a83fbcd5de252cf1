-- `State::slot` meets its contract: where the plan refuses, the record is as it came; else what is carried out is the
-- model's accepted slot.
use Rattle.std.proofs.Common.{refl, rules}
use Rattle.model.proofs.one_slot.Calls.{reply_is}
use Rattle.layout.specs.Calls.{call_in}
use Rattle.buffer.proofs.Promises.{refused_says, carried_says}
use Rattle.buffer.proofs.State.slot.Goals as goal

pub returns-in-Err : goal.returns-in-Err
returns-in-Err c =
    let a = c.args in
    refused_says a.self a.store.now (call_in a.call) (c.in-Err.ensures.number_is a.store.now refl)

pub carry-carried-requires : goal.carry-carried-requires
carry-carried-requires c = (search rules, c.in-Ok.ensures.plan_is.decided c.args.store.now refl)

pub returns : goal.returns
returns c =
    let a = c.args in
    let plan = c.in-Ok.plan in
    let says = c.in-Ok.ensures.plan_is in
    let carried = c.carry-carried.ensures in
    let d = says.decided a.store.now refl in
    carried_says a.self a.store.now (call_in a.call) (call_in plan.call) _ _ (says.carries a.store.now refl)
    (reply_is _ _ refl refl refl carried.delivery_is d.written_is d.read_is says.slots_left_is)
    carried.state_is
    carried.store_is
