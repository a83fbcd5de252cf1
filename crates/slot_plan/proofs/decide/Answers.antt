-- `decide` meets its contract: 4 to 9 first, and the read, 10 and the write only where none of them holds, so that a
-- leaving Owed cell has its byte, and a request that takes a tail byte finds one.
use Rattle.std.proofs.Common.{rules, ◌≡◌, ◌≤◌, arith, length, get_or}
use Rattle.model.specs.Sizes.{lookahead}
use Rattle.model.specs.Slot.{oldest_cell}
use Rattle.layout.specs.Lengths.{queue_places}
use Rattle.layout.specs.Entries.{cells_in, cell_of}
use Rattle.layout.specs.Calls.{call_in, chosen_in, refill_in}
use Rattle.layout.specs.Views.{sizes_in}
use Rattle.layout.proofs.Ranges.{in_limits}
use Rattle.slot_plan.proofs.Reading.{oldest_is, oldest_below}
use Rattle.slot_plan.proofs.Planning.{refused-early, refused_full, plan_accepted}
use Rattle.slot_plan.proofs.decide.Goals as goal
use Rattle.slot_plan.proofs.decide.Goals.{Start}

cells_fit : (c : Start) → lookahead (sizes_in c.args.regs) ≤ length c.args.cells.now
cells_fit c = omega (arith, (in_limits c.args.regs c.requires.0).span_high, c.told-cells)

cell-is : (c : Start) → oldest_cell (cells_in (lookahead (sizes_in c.args.regs)) c.args.cells.now) ≡ cell_of (get_or c.args.cells.now 0 0)
cell-is c = oldest_is (lookahead (sizes_in c.args.regs)) c.args.cells.now (omega arith) (cells_fit c)

pub judge_early-requires : goal.judge_early-requires
judge_early-requires c =
    let l = lookahead (sizes_in c.args.regs) in
    (c.requires.0, oldest_below l c.args.cells.now (omega arith) (cells_fit (goal.at.judge_early-requires c).Start) queue_places c.requires.3)

pub returns-in_err-verdict : goal.returns-in_err-verdict
returns-in_err-verdict c =
    let a = c.args in
    refused-early a.regs a.tails.now a.heads.now a.owing.now a.stored.now
    (cells_in (lookahead (sizes_in a.regs)) a.cells.now) (call_in a.call)
    (cell-is (goal.at.returns-in_err-verdict c).Start) c.is_owed-owes.ensures c.in_err-verdict.ensures
    c.from_residual.result c.from_residual.ensures.1

pub returns-then-head_full : goal.returns-then-head_full
returns-then-head_full c =
    let a = c.args in
    let queue_is : chosen_in c.map-read.result ≡ (refill_in c.to_read-refill.result).queue = search rules in
    refused_full a.regs a.tails.now a.heads.now a.owing.now a.stored.now
    (cells_in (lookahead (sizes_in a.regs)) a.cells.now) (call_in a.call)
    (cell-is (goal.at.returns-then-head_full c).Start) c.is_owed-owes.ensures c.in_ok-verdict.verdict
    c.in_ok-verdict.ensures c.to_read-refill.result c.to_read-refill.ensures c.map-read.result queue_is
    c.head_full.ensures c.if-head_full.true

pub returns : goal.returns
returns c =
    let a = c.args in
    let queue_is : chosen_in c.map-read.result ≡ (refill_in c.to_read-refill.result).queue = search rules in
    plan_accepted a.regs a.tails.now a.heads.now a.owing.now a.stored.now
    (cells_in (lookahead (sizes_in a.regs)) a.cells.now) (call_in a.call)
    (cell-is (goal.at.returns c).Start) c.is_owed-owes.ensures c.in_ok-verdict.verdict
    c.in_ok-verdict.ensures c.to_read-refill.result c.to_read-refill.ensures c.map-read.result queue_is
    c.head_full.ensures c.if-head_full.false c.to_write-written.result c.to_write-written.ensures
