-- `slot_steps::arrive` meets its contract: the array has room for a byte that comes.
use mathlib.Core.Path.{ap}
use Rattle.model.specs.State.{byte}
use Rattle.layout.specs.Calls.{arrival_in}
use Rattle.slot_steps.proofs.arrive.Goals as goal

pub join-requires : goal.join-requires
join-requires c =
    let came = c.in-Some.field-0 in
    c.requires.1 (byte came.queue came.value) (ap arrival_in c.in-Some.is)
