-- `run_good` meets its contract: 1 and 2 are judged in this order, and else the slots run from the state that was made.
use Rattle.script_commands.specs.Scripts.{judge}
use Rattle.script_runner.proofs.Prints.{made_kept, store_enough, list_fits, started_runs}
use Rattle.script_runner.proofs.run_good.Goals as goal

pub run_all-requires : goal.run_all-requires
run_all-requires c =
    let a = c.args in
    let first = c.first_sizes-queues.ensures in
    let made = c.in-Ok.ensures in
    let enough = c.if-store-queues.false in (
      made_kept _ _ _ _ made,
      store_enough _ _ _ _ made a.store.now enough,
      first.rest_good,
      list_fits _ _ _ _ made a.store.now enough (judge a.script.now) c.requires.good first.sizes-are _
          first.calls_are a.output.now c.requires.lines_fit c.requires.slots_fit,
    )

pub returns-else-store-queues : goal.returns-else-store-queues
returns-else-store-queues c =
    let first = c.first_sizes-queues.ensures in
    started_runs _ _ _ _ c.in-Ok.ensures c.args.store.now c.if-store-queues.false
    (judge c.args.script.now) c.requires.good first.sizes-are _ first.calls_are c.args.output.now c.run_all.ensures
