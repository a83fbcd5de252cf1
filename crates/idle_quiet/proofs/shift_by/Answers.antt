-- `idle_quiet::shift_by` meets its contract: the cells have moved down, and those that this left free are cleared.
use mathlib.Core.Path.{ap, ◌∙◌}
use Prim.Native.Nat.{◌-◌, ◌≤◌}
use native.Mathlib.Omega.{arith}
use lib.ListN.{length}
use Rattle.layout.specs.Entries.{cells_in}
use Rattle.lookahead.proofs.Turns.{moved_down}
use Rattle.idle_quiet.proofs.Shifting.{shifted_by}
use Rattle.idle_quiet.proofs.shift_by.Goals as goal

pub returns : goal.returns
returns c =
    let a = c.args in
    let down = c.copy_within.new.self in
    let moved = c.copy_within.ensures.after in
    let fits : a.l ≤ length a.cells.now = omega (arith, c.requires.1, c.requires.2) in
    shifted_by a.l a.m a.cells.now down c.fill.new.self c.requires.0 fits c.copy_within.ensures.len
    (ap (cells_in (a.l - a.m)) moved ∙ moved_down a.l a.m a.cells.now c.requires.0 fits)
    (c.fill.ensures.after (λ y e. e))
