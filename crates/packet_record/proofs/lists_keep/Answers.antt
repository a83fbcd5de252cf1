-- `packet_record::lists_keep` meets its contract: the chain tests the list of each queue.
use Rattle.std.proofs.Common.{refl, ◌∙◌, arith, rules, tests}
use Rattle.std.proofs.lemmas.Iterator.{YieldsList-from_range}
use Rattle.std.proofs.lemmas.Iterator.Search.{all_from_yields_List}
use Rattle.packets.specs.Packets.{list_ok}
use Rattle.packet_layout.specs.Views.{record_in}
use Rattle.packet_record.proofs.Judging.{queues_below}
use Rattle.packet_record.proofs.lists_keep.Goals as goal

pub returns : goal.returns
returns c =
    let a = c.args in
    let test = list_ok (record_in a.regs a.lengths.now a.listed.now) in
    all_from_yields_List test _ _ c.all.result c.all.ensures.ran
    (YieldsList-from_range 0 a.queues a.queues refl (omega arith)) (λ x b q k. search (rules, tests))
    ∙ queues_below test a.queues
