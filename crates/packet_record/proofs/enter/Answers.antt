-- `packet_record::enter` meets its contract: the length is stored behind the list's last, and the count is one more.
use Rattle.packet_record.proofs.Lists.{entered}
use Rattle.packet_record.proofs.enter.Goals as goal

pub returns : goal.returns
returns c =
    let a = c.args in
    let p = c.requires in
    entered a.q a.lengths.now a.listed.now p.0 p.1 p.2 a.size p.3
