-- `put_outcome` meets its contract: D comes first, then the R of the arrival and of the request, then M.
use mathlib.Core.Path.{refl}
use Rattle.std.specs.Prelude.{Ok}
use Rattle.layout.specs.Calls.{reply_in}
use Rattle.script_slots.proofs.Answers.{running-put}
use Rattle.script_slots.proofs.put_outcome.Goals as goal

pub returns : goal.returns
returns c =
    let a = c.args in
    running-put a.slots (reply_in (Ok a.outcome)) a.place _ refl c.requires
    c.put_delivered-behind_delivery.ensures c.put_half-behind_arrival.ensures c.put_half-behind_request.ensures
    c.put_refilled.ensures
