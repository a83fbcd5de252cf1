-- `request_in` meets its contract: the bit that it tests is the one that tells, the queue the nearest of 8 bits.
use mathlib.Core.Path.{ap, sym, ◌∙◌}
use mathlib.Core.Option.{some}
use Prim.Native.Nat.{◌/◌}
use native.Mathlib.Omega.{arith}
use Rattle.run_words.specs.Words.{call_queues, call_of, near_queue}
use Rattle.run_words.proofs.Bits.{queue_none, queue_some}
use Rattle.run_words.proofs.request_in.Goals as goal

pub returns-then-word-eq0 : goal.returns-then-word-eq0
unfolding call_of
returns-then-word-eq0 c = sym (ap near_queue (queue_none call_queues (c.args.word / 33554432) (omega (arith, c.if-word-eq0.true))))

pub returns : goal.returns
unfolding call_of
returns c =
    let word = c.args.word in
    ap some c.near_queue.ensures
    ∙ sym (ap near_queue (queue_some call_queues (word / 33554432) (λ e. c.if-word-eq0.false (omega (arith, e)))))
