-- The output is long enough, so that all was printed, and the store is the one that the program lends.
use Rattle.std.proofs.Common.{refl}
use Rattle.slots.proofs.Within.{printed_is, on_its_store}
use Rattle.slots.proofs.print_script.Goals as goal

pub returns-clause-output_after : goal.returns-clause-output_after
returns-clause-output_after c =
    on_its_store c.args.script.now refl (printed_is c.requires c.run_script.ensures c.unwrap.ensures)
