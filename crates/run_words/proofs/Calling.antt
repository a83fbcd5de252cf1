-- A request's bits above an arrival's are the call of both: the arrival's are 25, so neither reaches into the other's.
use mathlib.Core.Path.{◌≡◌, refl}
use mathlib.Core.Option.{Option}
use Prim.Native.Nat.{ℕ, ◌+◌, ◌*◌, ◌/◌, ◌<◌}
use native.Mathlib.Omega.{arith}
use Rattle.model.specs.State.{Byte}
use Rattle.model.specs.Calls.{idle}
use Rattle.run_words.specs.Words.{call_queues, byte_in, queue_in, call_of}
use Rattle.run_words.proofs.Bits.{byte-same}

pub call_is : (a r : ℕ) (arrived : Option Byte) (asked : Option ℕ) → a < 33554432 → byte_in call_queues a ≡ arrived
    → queue_in call_queues r ≡ asked → call_of (r * 33554432 + a) ≡ record { arrival = arrived; request = asked }
unfolding call_of
call_is a r arrived asked h e f =
    let above : (r * 33554432 + a) / 33554432 ≡ r = omega arith in
    let below : byte_in call_queues (r * 33554432 + a) ≡ byte_in call_queues a =
    byte-same call_queues a (r * 33554432 + a) (omega arith) (omega arith) (omega arith) in
    rw (below, above, e, f)

-- The number 0 is an idle call.
pub zero_is_idle : call_of 0 ≡ idle
unfolding call_of byte_in queue_in
zero_is_idle = refl
