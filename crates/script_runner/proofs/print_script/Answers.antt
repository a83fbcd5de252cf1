-- `print_script` meets its contract: too long, faulty, or good. A script is bytes, since its type says so.
use Rattle.std.proofs.Common.{arith}
use Rattle.script_text.proofs.ScriptCharges.{bytes-at}
use Rattle.script_runner.proofs.Whole.{long_fits, long_prints, fault_fits, fault_prints, good_fits, good_prints}
use Rattle.script_runner.proofs.print_script.Goals as goal

pub put_fault-requires : goal.put_fault-requires
put_fault-requires c = long_fits _ c.args.output.now c.requires

pub returns-then-script-gt-MOST_BYTES : goal.returns-then-script-gt-MOST_BYTES
returns-then-script-gt-MOST_BYTES c = long_prints c.args.script.now c.args.store.now c.args.output.now c.if-script-gt-MOST_BYTES.true c.put_fault.ensures

pub put_fault-requires-in-Err : goal.put_fault-requires-in-Err
put_fault-requires-in-Err c =
    rw c.into.ensures
    (fault_fits c.args.script.now c.args.store.now c.args.output.now c.if-script-gt-MOST_BYTES.false _
    c.in-Err.ensures (bytes-at c.args.script.now (λ i. omega (arith, c.type_inv.script i))) c.requires)

pub returns-in-Err : goal.returns-in-Err
returns-in-Err c =
    fault_prints c.args.script.now c.args.store.now c.args.output.now c.if-script-gt-MOST_BYTES.false _
    c.in-Err.ensures (rw c.into.ensures at c.put_fault-in-Err.ensures)

pub run_good-requires : goal.run_good-requires
run_good-requires c =
    good_fits c.args.script.now c.args.store.now c.args.output.now c.if-script-gt-MOST_BYTES.false
    c.in-Ok.ensures (bytes-at c.args.script.now (λ i. omega (arith, c.type_inv.script i))) c.requires

pub returns-in-Ok : goal.returns-in-Ok
returns-in-Ok c =
    good_prints c.args.script.now c.args.store.now c.args.output.now c.if-script-gt-MOST_BYTES.false c.run_good.ensures
