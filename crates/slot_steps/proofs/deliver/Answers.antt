-- `slot_steps::deliver` meets its contract: what the cell's number says, it delivers.
use Prim.Native.Nat.{◌/◌, ◌%◌}
use native.Mathlib.Omega.{arith}
use Rattle.layout.proofs.Cells.{cell_owed}
use Rattle.slot_steps.proofs.Fills.{count_in_fill}
use Rattle.slot_steps.proofs.Delivering.{delivers_owed, delivers_own}
use Rattle.slot_steps.proofs.deliver.Goals as goal

-- The queue of an Owed cell has a head byte.
pub take_oldest-value-requires : goal.take_oldest-value-requires
take_oldest-value-requires c =
    let a = c.args in
    (c.requires.0, c.requires.1 (a.cell / 256 % 256) (cell_owed a.cell c.if-cell-ge-OWED.true))

pub overflow_sub-result : goal.overflow_sub-result
overflow_sub-result c =
    let a = c.args in
    omega (
      arith,
      c.requires.1 (a.cell / 256 % 256) (cell_owed a.cell c.if-cell-ge-OWED.true),
      count_in_fill (a.cell / 256 % 256) a.fill a.head.now c.requires.0,
    )

pub returns-then-cell-ge-OWED : goal.returns-then-cell-ge-OWED
returns-then-cell-ge-OWED c =
    let a = c.args in
    delivers_owed a.fill a.cell a.head.now c.take_oldest-value.new.entries c.take_oldest-value.result
    c.if-cell-ge-OWED.true
    c.take_oldest-value.ensures

pub returns : goal.returns
returns c =
    rw c.then_some.ensures (delivers_own c.args.fill c.args.cell c.args.head.now c.if-cell-ge-OWED.false)
