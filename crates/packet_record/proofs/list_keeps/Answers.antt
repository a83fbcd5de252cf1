-- `packet_record::list_keeps` meets its contract: a list that is too long decides, and else its lengths do.
use mathlib.Core.Path.{◌∙◌}
use native.Mathlib.Omega.{arith}
use borrow.Author.Tests.{lt-leb}
use Rattle.packets.specs.Packets.{most_listed}
use Rattle.packet_record.proofs.Judging.{list_too_long, list_judged}
use Rattle.packet_record.proofs.list_keeps.Goals as goal

pub returns-then-count-coming_to-le-MOST_LISTED : goal.returns-then-count-coming_to-le-MOST_LISTED
returns-then-count-coming_to-le-MOST_LISTED c =
    let a = c.args in
    list_judged a.regs a.lengths.now a.listed.now a.q
    (omega (arith, c.if-count-coming_to-le-MOST_LISTED.true, c.coming_to.ensures)) c.lengths_keep.result c.lengths_keep.ensures

pub returns-else-count-coming_to-le-MOST_LISTED : goal.returns-else-count-coming_to-le-MOST_LISTED
returns-else-count-coming_to-le-MOST_LISTED c =
    let a = c.args in
    lt-leb _ most_listed (omega (arith, c.if-count-coming_to-le-MOST_LISTED.false))
    ∙ list_too_long a.regs a.lengths.now a.listed.now a.q
    (omega (arith, c.if-count-coming_to-le-MOST_LISTED.false, c.coming_to.ensures))
