-- What is refused has a number, and what is not has none.
use mathlib.Core.Path.{◌≡◌, refl}
use native.Mathlib.Omega.{arith}
use Rattle.std.specs.Prelude.{Result, Ok, Err}
use Rattle.layout.specs.declared.Outcome.{Outcome}
use Rattle.layout.specs.declared.Refusal.{Refusal}
use Rattle.layout.specs.declared.Refusal.TheVariants as because
use Rattle.layout.specs.Calls.{number_of, number_in, reply_in}

-- No refusal is 0.
pub refusal_is_some : (r : Refusal) → number_of r ≡ 0 → ⊥
refusal_is_some because.Sizes h = omega (arith, h)
refusal_is_some because.ShortStore h = omega (arith, h)
refusal_is_some because.BrokenRules h = omega (arith, h)
refusal_is_some because.UnknownArrival h = omega (arith, h)
refusal_is_some because.UnknownRequest h = omega (arith, h)
refusal_is_some because.ByteMissing h = omega (arith, h)
refusal_is_some because.TailFull h = omega (arith, h)
refusal_is_some because.HeadFull h = omega (arith, h)
refusal_is_some because.PacketLength h = omega (arith, h)
refusal_is_some because.PacketPlace h = omega (arith, h)
refusal_is_some because.PacketRoom h = omega (arith, h)

-- The number of a reply is that of its refusal, or 0.
pub reply_number : (r : Result Outcome Refusal) → (reply_in r).number ≡ number_in r
reply_number (Ok o) = refl
reply_number (Err refusal) = refl
