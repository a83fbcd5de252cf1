-- `fullest_of` meets its contract: what was found is the fullest of the first i queues, and `least` is what the next
-- must have.
use Rattle.std.proofs.Common.{◌≡◌, ◌+◌, ◌∙◌, ap, min, arith}
use mathlib.Core.Option.{some}
use lib.Seq.{get_or-take}
use Rattle.model.specs.Slot.{fullest}
use Rattle.layout.specs.Entries.{counts_in}
use Rattle.buffer_choices.proofs.Fullest.{fullest-next, fullest-stays, fullest-within, counts_past}
use Rattle.buffer_choices.proofs.fullest_of.Goals as goal
use Rattle.buffer_choices.proofs.fullest_of.Goals.{then-least-bytes, else-least-bytes}

pub loop-i-preserved : goal.loop-i-preserved
unfolding counts_in
loop-i-preserved c =
    let b = c.args.b in
    let bytes = counts_in c.args.counts.now in
    let l = c.loop-i in
    let here = get_or-take c.min.result c.args.counts.now l.i 0 (omega arith) in
    elim c.if-least-bytes.branch [
      | then-least-bytes w ↦
          let e : fullest b bytes (l.i + 1) ≡ some l.i =
          fullest-next b bytes l.i (omega (arith, here, w.if-least-bytes.true, l.invariant.1)) in
          (rw (w.found-is, e), rw (w.least-is, here, e))
      | else-least-bytes w ↦
          let e : fullest b bytes (l.i + 1) ≡ fullest b bytes l.i =
          fullest-stays b bytes l.i (omega (arith, here, w.if-least-bytes.false, l.invariant.1)) in
          (rw (w.found-is, e) l.invariant.0, rw (w.least-is, e) l.invariant.1)
    ]

pub returns : goal.returns
returns c =
    let a = c.args in
    let bytes = counts_in a.counts.now in
    let all : c.loop-i.i ≡ min a.queues 256 = omega (arith, c.min.ensures) in
    c.loop-i.invariant.0
    ∙ ap (fullest a.b bytes) all
    ∙ fullest-within a.b bytes 256 (omega arith) (λ q h. counts_past a.counts.now q (omega (arith, c.told-counts, h))) a.queues
