-- `run_all` meets its contract: the counts are taken once, the slots run in place, and the last line goes by their
-- count.
use Rattle.std.proofs.Common.{rules}
use Rattle.layout.specs.Views.{Long}
use Rattle.slot_counts.proofs.Taking.{countable, tallied}
use Rattle.buffer.specs.Says.{arrays_of}
use Rattle.script_runner.proofs.Prints.{list_room, ending_fits, list_prints}
use Rattle.script_runner.proofs.run_all.Goals as goal

pub take-counts-requires : goal.take-counts-requires
take-counts-requires c =
    let long : Long (arrays_of c.args.state) = search rules in
    countable c.args.state.regs (arrays_of c.args.state) long c.requires.0

pub run_commands-last-requires : goal.run_commands-last-requires
run_commands-last-requires c =
    let long : Long (arrays_of c.args.state) = search rules in (
      record {
        long = long;
        kept = c.requires.0;
        tallies = tallied c.args.state.regs (arrays_of c.args.state) c.take-counts.ensures;
        store_long = c.requires.1;
      },
      list_room _ _ _ _ c.requires.3,
      c.requires.2,
    )

pub put_ending-requires : goal.put_ending-requires
put_ending-requires c = ending_fits _ _ _ _ c.requires.3 c.run_commands-last.ensures

pub returns : goal.returns
returns c = list_prints _ _ _ _ c.requires.3 c.run_commands-last.ensures c.put_ending.ensures
