-- `idle_quiet::phase_after` meets its contract: the phase turns by the rest of m by the block as by m.
use native.Mathlib.Nat.{add-mod-mod}
use Rattle.idle_quiet.proofs.phase_after.Goals as goal

pub returns : goal.returns
returns c = add-mod-mod c.args.regs.phase c.args.m c.args.regs.block
