-- `arrival_bits` meets its contract: the byte's queue and value fit their bits, so that they are read back.
use mathlib.Core.Path.{◌≡◌, refl}
use Prim.Native.Nat.{ℕ, ◌+◌, ◌*◌, ◌<◌}
use native.Mathlib.Omega.{arith}
use Rattle.std.proofs.Common.{rules}
use Rattle.std.specs.Prelude.{Option, Some, None, MatchOption}
use Rattle.layout.specs.declared.Byte.{Byte}
use Rattle.layout.specs.Calls.{arrival_in}
use Rattle.run_words.specs.Words.{call_queues, byte_in}
use Rattle.run_words.proofs.Bits.{byte-none, byte-is}
use Rattle.run_words.proofs.arrival_bits.Goals as goal

read_back : (arrival : Option Byte) (w : ℕ) → MatchOption arrival (w ≡ 0)
    (λ y. (w ≡ 16777216 + y.queue * 256 + y.value) × (y.queue < 256) × (y.value < 256))
    → byte_in call_queues w ≡ arrival_in arrival
read_back None w e = rw e (byte-none call_queues 0 refl)
read_back (Some y) w e =
    byte-is call_queues w y.queue y.value (omega (arith, e)) (omega (arith, e)) (omega (arith, e))

pub returns : goal.returns
returns c = (search rules, read_back c.args.arrival c.map_or.result (search rules))
