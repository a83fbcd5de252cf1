-- `delivery_in` meets its contract: the bit that it tests is the one that tells, the queue the nearest of 8 bits.
use mathlib.Core.Path.{ap, sym, ◌∙◌}
use mathlib.Core.Option.{some}
use Prim.Native.Nat.{ℕ, ◌%◌}
use native.Mathlib.Omega.{arith}
use Rattle.model.specs.State.{byte}
use Rattle.run_words.specs.Words.{answer_queues, delivered_of, near_byte}
use Rattle.run_words.proofs.Bits.{byte-none, byte-some}
use Rattle.run_words.proofs.delivery_in.Goals as goal

pub returns-then-answer-eq0 : goal.returns-then-answer-eq0
unfolding delivered_of
returns-then-answer-eq0 c = sym (ap near_byte (byte-none answer_queues c.args.answer (omega (arith, c.if-answer-eq0.true))))

pub returns : goal.returns
unfolding delivered_of
returns c =
    let answer = c.args.answer in
    ap (λ (q : ℕ). some (byte q (answer % 256))) c.near_queue.ensures
    ∙ sym (ap near_byte (byte-some answer_queues answer (λ e. c.if-answer-eq0.false (omega (arith, e)))))
