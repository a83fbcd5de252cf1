-- `to_script` meets its contract: its answers in the order of judging, and the script where there is none.
use Rattle.std.proofs.Common.{ℕ, ◌+◌, ◌*◌, Option, Err, length, sym, ap, ◌∙◌}
use Rattle.std.specs.Option.{ok_or}
use Rattle.std.proofs.lemmas.Result.{err_from_is_err_and}
use borrow.Author.Tests.{leb-true, leb-false}
use Rattle.captures.specs.declared.Refusal.TheVariants.{FaultyRecord}
use Rattle.captures.proofs.Judged.{Passed, refuses_18, refuses_16, script-written}
use Rattle.captures.proofs.to_script.Goals as goal
use Rattle.captures.proofs.to_script.Goals.{After-measure}

-- The tests that found nothing.
passed : (c : After-measure)
    → Passed c.args.queues c.args.block c.args.depth c.args.capture.now c.measure.result
passed c = record {
  accepted = sym c.accepted.ensures ∙ c.if-not-accepted.false;
  many = c.if-queues-lt8.false;
  header = sym c.header_good.ensures ∙ c.if-not-header_good.false;
  measured = c.measure.ensures;
}

pub returns-in_err-bytes : goal.returns-in_err-bytes
returns-in_err-bytes c =
    let faulty = c.in_err-bytes.ensures in
    let out = err_from_is_err_and c.from_residual.result c.from_residual.ensures.1 in
    let is = out.1 ∙ ap Err out.2 ∙ faulty.value ∙ ap (λ (o : Option ℕ). ok_or o FaultyRecord) faulty.ok_part in
    rw is (refuses_18 (passed (goal.at.returns-in_err-bytes c).After-measure) faulty.ok_part)

pub returns-then-not-fits : goal.returns-then-not-fits
returns-then-not-fits c =
    refuses_16 (passed (goal.at.returns-then-not-fits c).After-measure) c.in_ok-bytes.ensures.ok_part
    (leb-false (5 + 3 * c.in_ok-bytes.bytes) (length c.args.output.now) (sym c.fits.ensures ∙ c.if-not-fits.true))

pub returns : goal.returns
returns c =
    script-written (passed (goal.at.returns c).After-measure) c.in_ok-bytes.ensures.ok_part
    (leb-true (5 + 3 * c.in_ok-bytes.bytes) (length c.args.output.now) (sym c.fits.ensures ∙ c.if-not-fits.false))
    c.write_script.ensures
