-- `packet_record::take_oldest` meets its contract: the list's places move down by one, and the count is one less.
use Prim.Native.Nat.{◌*◌}
use lib.ListN.{get_or}
use Rattle.packets.specs.Packets.{most_listed}
use Rattle.packet_record.proofs.Lists.{taken}
use Rattle.packet_record.proofs.Moving.{moved_down}
use Rattle.packet_record.proofs.take_oldest.Goals as goal

pub returns : goal.returns
returns c =
    let a = c.args in
    let p = c.requires in
    let moved = c.copy_within in
    taken a.q a.lengths.now a.listed.now p.0 p.1 p.2 p.3 p.4 moved.new.self
    (moved_down (a.q * most_listed) (get_or a.listed.now a.q 0) a.lengths.now moved.new.self p.3 moved.ensures.len
    moved.ensures.by_index)
