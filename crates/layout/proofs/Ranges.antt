-- The registers of accepted sizes lie within the paper's limits.
use mathlib.Core.Path.{◌≡◌}
use mathlib.Core.Bool.{true}
use Rattle.model.specs.Sizes.{paper_limits, accepts}
use Rattle.model.proofs.basics.Limits.{Within, within_limits}
use Rattle.layout.specs.declared.Regs.{Regs}
use Rattle.layout.specs.Views.{sizes_in}

abbrev pub InLimits : Regs → Type 0
InLimits regs = Within paper_limits (sizes_in regs)

pub in_limits : (regs : Regs) → accepts paper_limits (sizes_in regs) ≡ true → InLimits regs
in_limits regs e = within_limits paper_limits (sizes_in regs) e
