-- `chosen_of` meets its contract: the bit that it tests is the one that tells, the queue the nearest of 8 bits.
use mathlib.Core.Path.{ap, sym, ◌∙◌}
use mathlib.Core.Option.{some}
use native.Mathlib.Omega.{arith}
use Rattle.run_words.specs.Words.{answer_queues, near_queue}
use Rattle.run_words.proofs.Bits.{queue_none, queue_some}
use Rattle.run_words.proofs.chosen_of.Goals as goal

pub returns-then-bits-eq0 : goal.returns-then-bits-eq0
returns-then-bits-eq0 c = sym (ap near_queue (queue_none answer_queues c.args.bits (omega (arith, c.if-bits-eq0.true))))

pub returns : goal.returns
returns c =
    let bits = c.args.bits in
    ap some c.near_queue.ensures
    ∙ sym (ap near_queue (queue_some answer_queues bits (λ e. c.if-bits-eq0.false (omega (arith, e)))))
