-- `measure` meets its contract: the record that what is left begins with is the next one.
use Rattle.std.proofs.Common.{sym, ◌∙◌}
use borrow.Author.Tests.{eqb-true, eqb-false}
use Rattle.scripts.proofs.Parts.{rest_from}
use Rattle.captures.proofs.Counted.{measure_refuses, measure_goes_on, measure_ends}
use Rattle.captures.proofs.reading.measure.Goals as goal

pub returns-then-not-record_good : goal.returns-then-not-record_good
returns-then-not-record_good c =
    measure_refuses c.loop-rest.invariant (eqb-false _ 0 (sym c.is_empty.ensures ∙ c.loop-rest-test.true))
    (sym c.record_good.ensures ∙ c.if-not-record_good.true)

pub loop-rest-preserved : goal.loop-rest-preserved
loop-rest-preserved c =
    rw rest_from (measure_goes_on c.loop-rest.invariant (eqb-false _ 0 (sym c.is_empty.ensures ∙ c.loop-rest-test.true))
    (sym c.record_good.ensures ∙ c.if-not-record_good.false) c.captured_in-captured.ensures)

pub returns : goal.returns
returns c = measure_ends c.loop-rest.invariant (eqb-true _ 0 (sym c.is_empty.ensures ∙ c.loop-rest-test.false))
