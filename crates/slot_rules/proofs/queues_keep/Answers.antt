-- `slot_rules::queues_keep` meets its contract: the chain tests each queue below Q.
use Rattle.std.proofs.Common.{refl, ◌∙◌, arith, rules, tests}
use Rattle.std.proofs.lemmas.Iterator.{YieldsList-from_range}
use Rattle.std.proofs.lemmas.Iterator.Search.{all_from_yields_List}
use Rattle.layout.specs.Entries.{counts_in}
use Rattle.slot_rules.specs.Says.{queue_keeps}
use Rattle.slot_rules.proofs.Queues.{queues_below}
use Rattle.slot_rules.proofs.queues_keep.Goals as goal

pub returns : goal.returns
unfolding counts_in
returns c =
    let a = c.args in
    let test = queue_keeps a.regs (counts_in a.firsts.now) (counts_in a.stored.now) (counts_in a.counts.now.tails)
    (counts_in a.counts.now.heads) (counts_in a.counts.now.owing) in
    all_from_yields_List test _ _ c.all.result c.all.ensures.ran
    (YieldsList-from_range 0 a.regs.queues a.regs.queues refl (omega arith)) (λ x b q k. search (rules, tests))
    ∙ queues_below test a.regs.queues
