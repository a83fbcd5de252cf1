-- `to_read` meets its contract: the scan goes on from the credits that the leaving cell has left, over the cells
-- without the oldest, to the new one.
use mathlib.Core.Path.{ap, ◌∙◌}
use mathlib.Core.Option.{Option}
use Prim.Native.Nat.{ℕ, ◌≤◌}
use native.Mathlib.Omega.{arith}
use lib.ListN.{length, get_or}
use Rattle.model.specs.Sizes.{lookahead}
use Rattle.layout.specs.Lengths.{queue_places}
use Rattle.layout.specs.Entries.{counts_in, cells_in}
use Rattle.layout.specs.Calls.{chosen_in, request_in, refill_at}
use Rattle.layout.specs.Views.{sizes_in}
use Rattle.layout.specs.Figures.{new_cell}
use Rattle.layout.proofs.Ranges.{in_limits}
use Rattle.slot_plan.proofs.Reading.{oldest_is, oldest_below, owed_queue_below, move_reads}
use Rattle.slot_plan.proofs.Reading.{stopped_at}
use Rattle.slot_plan.proofs.to_read.Goals as goal
use Rattle.slot_plan.proofs.to_read.Goals.{Start}

-- The cells of accepted sizes lie within the array.
cells_fit : (c : Start) → lookahead (sizes_in c.args.regs) ≤ length c.args.cells.now
cells_fit c = omega (arith, (in_limits c.args.regs c.requires.0).span_high, c.told-cells)

pub spend-requires : goal.spend-requires
spend-requires c =
    let cells = c.args.cells.now in
    let l = lookahead (sizes_in c.args.regs) in
    let below = oldest_below l cells (omega arith) (cells_fit (goal.at.spend-requires c).Start) queue_places c.requires.2 in
    (c.told-heads, λ q e. (owed_queue_below queue_places (get_or cells 0 0) q below e, c.requires.3 q e))

pub returns : goal.returns
returns c =
    let a = c.args in
    let sizes = sizes_in a.regs in
    let cells = cells_in (lookahead sizes) a.cells.now in
    let stopped = c.scan-stopped.result in
    c.refill_at.ensures
    ∙ ap (λ (o : Option ℕ). refill_at o stopped.place) c.or_new.ensures
    ∙ stopped_at (chosen_in stopped.found) stopped.place (counts_in stopped.left)
    (new_cell a.owes (request_in a.request)) c.scan-stopped.ensures.1
    ∙ move_reads a.regs.phase sizes (counts_in a.heads.now) cells a.owes (request_in a.request)
    c.if-regs.false
    (rw (oldest_is (lookahead sizes) a.cells.now (omega arith) (cells_fit (goal.at.returns c).Start)) c.spend.ensures)
    c.scan-stopped.ensures.0
