-- `packet_request_in` meets its contract: the bit that it tests is the one that tells.
use mathlib.Core.Path.{sym}
use native.Mathlib.Omega.{arith}
use Prim.Native.Nat.{◌/◌}
use Rattle.run_words.specs.Words.{call_queues}
use Rattle.run_words.proofs.Bits.{queue_none, queue_some}
use Rattle.c_packets.specs.Words.{packet_call_of}
use Rattle.c_packets.proofs.packet_request_in.Goals as goal

pub returns-then-word-eq0 : goal.returns-then-word-eq0
unfolding packet_call_of
returns-then-word-eq0 c =
    sym (queue_none call_queues (c.args.word / 33554432) (omega (arith, c.if-word-eq0.true)))

pub returns : goal.returns
unfolding packet_call_of
returns c =
    sym (queue_some call_queues (c.args.word / 33554432) (λ e. c.if-word-eq0.false (omega (arith, e))))
