-- `swaps_at` meets its contract: its tests are those of the state, each made only where those before it hold.
use mathlib.Core.Path.{◌≡◌, sym, ◌∙◌}
use native.Mathlib.Omega.{arith}
use Rattle.model.specs.Slot.{is_full}
use Rattle.buffer.specs.Says.{arrays_of, state_of}
use Rattle.buffer_choices.proofs.Swapping.{full-counted, room_swaps_not, full-swaps}
use Rattle.buffer_choices.proofs.swaps_at.Goals as goal
use Rattle.buffer_choices.proofs.swaps_at.Goals.{After-is_full}

-- The code's test of the space is the paper's.
full_is : (c : After-is_full)
    → let a = c.args in c.is_full.result ≡ is_full (state_of a.state) a.queue
full_is c =
    let a = c.args in
    full-counted a.state.regs (arrays_of a.state) a.queue c.tail_bytes-bytes.ensures.0
    c.stored_blocks-blocks.ensures.0 c.is_full.ensures

pub returns-then-is_full : goal.returns-then-is_full
returns-then-is_full c =
    let a = c.args in
    full-swaps (state_of a.state) a.queue (omega (arith, c.tail_bytes-bytes.ensures.0))
    (sym (full_is (goal.at.returns-then-is_full c).After-is_full) ∙ c.if-is_full.true) c.owes.ensures

pub returns-else-is_full : goal.returns-else-is_full
returns-else-is_full c =
    let a = c.args in
    c.if-is_full.false
    ∙ room_swaps_not (state_of a.state) a.queue (sym (full_is (goal.at.returns-else-is_full c).After-is_full) ∙ c.if-is_full.false)
