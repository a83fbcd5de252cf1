-- `packet_record::lengths_keep` meets its contract: the chain tests each of the lengths.
use Rattle.std.proofs.Common.{◌∙◌, ap, ℕ, ◌+◌, ◌-◌, arith, rules, tests}
use lib.ListN.{take, drop}
use Rattle.std.specs.List.{list_all}
use Rattle.std.proofs.lemmas.Iterator.{YieldsList-from_slice}
use Rattle.std.proofs.lemmas.Iterator.Search.{all_from_yields_List}
use Rattle.packets.specs.Packets.{length_ok}
use Rattle.packet_record.proofs.Judging.{lengths_below}
use Rattle.packet_record.proofs.lengths_keep.Goals as goal

pub returns : goal.returns
returns c =
    let a = c.args in
    all_from_yields_List length_ok _ _ c.all.result c.all.ensures.ran
    (YieldsList-from_slice (take (a.first + a.count - a.first) (drop a.first a.lengths.now)) cc) (λ x b q k. search (rules, tests))
    ∙ ap (λ (n : ℕ). list_all length_ok (take n (drop a.first a.lengths.now))) (omega arith)
    ∙ lengths_below length_ok a.count a.first a.lengths.now (omega (arith, c.requires, c.told-lengths))
