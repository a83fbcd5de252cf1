-- `to_write` meets its contract: at the last phase of a block it finds the fullest queue by the tail bytes that the
-- arrival and the request leave, before it none.
use Rattle.slot_plan.proofs.to_write.Goals as goal

pub taken-requires : goal.taken-requires
taken-requires c =
    let p = c.requires in
    let counts = c.arrived.ensures in
    λ q e f. ((p.4 q e f).0, rw (counts.count_is q) (p.4 q e f).1)
