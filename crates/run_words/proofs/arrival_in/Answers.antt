-- `arrival_in` meets its contract: the bit that it tests is the one that tells, the queue the nearest of 8 bits.
use mathlib.Core.Path.{ap, sym, ◌∙◌}
use mathlib.Core.Option.{some}
use Prim.Native.Nat.{ℕ, ◌%◌}
use native.Mathlib.Omega.{arith}
use Rattle.model.specs.State.{byte}
use Rattle.run_words.specs.Words.{call_queues, call_of, near_byte}
use Rattle.run_words.proofs.Bits.{byte-none, byte-some}
use Rattle.run_words.proofs.arrival_in.Goals as goal

pub returns-then-word-eq0 : goal.returns-then-word-eq0
unfolding call_of
returns-then-word-eq0 c = sym (ap near_byte (byte-none call_queues c.args.word (omega (arith, c.if-word-eq0.true))))

pub returns : goal.returns
unfolding call_of
returns c =
    let word = c.args.word in
    ap (λ (q : ℕ). some (byte q (word % 256))) c.near_queue.ensures
    ∙ sym (ap near_byte (byte-some call_queues word (λ e. c.if-word-eq0.false (omega (arith, e)))))
