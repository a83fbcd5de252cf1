-- `request_bits` meets its contract: the queue fits its bits, so that it is read back.
use mathlib.Core.Path.{◌≡◌, refl}
use Prim.Native.Nat.{ℕ, ◌+◌, ◌<◌}
use native.Mathlib.Omega.{arith}
use Rattle.std.proofs.Common.{rules}
use Rattle.std.specs.Prelude.{Option, Some, None, MatchOption}
use Rattle.layout.specs.Calls.{request_in}
use Rattle.run_words.specs.Words.{call_queues, queue_in}
use Rattle.run_words.proofs.Bits.{queue_none, queue_is}
use Rattle.run_words.proofs.request_bits.Goals as goal

read_back : (request : Option ℕ) (w : ℕ) → MatchOption request (w ≡ 0) (λ q. (w ≡ 65536 + q) × (q < 256))
    → queue_in call_queues w ≡ request_in request
read_back None w e = rw e (queue_none call_queues 0 refl)
read_back (Some q) w e = queue_is call_queues w q (omega (arith, e.0)) (omega (arith, e.0))

pub returns : goal.returns
returns c = (search rules, read_back c.args.request c.map_or.result (search rules))
