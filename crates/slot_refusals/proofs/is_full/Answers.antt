-- `is_full` meets its contract: of a queue below the last its test is that of the figures.
use Rattle.std.proofs.Common.{ℕ, ◌*◌, eqb, sym, ap}
use Rattle.slot_refusals.proofs.Judging.{with_blocks_is}
use Rattle.slot_refusals.proofs.is_full.Goals as goal

pub returns : goal.returns
returns c =
    let a = c.args in
    ap (λ (used : ℕ). eqb used (a.regs.depth * a.regs.block))
    (sym (with_blocks_is a.regs a.tails.now a.stored.now a.q c.requires.3))
