-- `State::judge` meets its contract: it is what the plan says of the halves.
use Rattle.std.proofs.Common.{◌≡◌, rules}
use borrow.Author.Tests.{tests}
use Rattle.std.specs.Prelude.{Err}
use Rattle.buffer.proofs.Promises.{judged_stopped, judged_going_on}
use Rattle.buffer.proofs.State.judge.Goals as goal

pub returns-in_err-plan : goal.returns-in_err-plan
returns-in_err-plan c =
    let told : c.from_residual.result ≡ Err c.in_err-plan.field-0.0 = search (rules, tests) in
    rw told (judged_stopped c.in_err-plan.ensures)

pub returns : goal.returns
returns c = judged_going_on c.in_ok-plan.ensures
