-- Neither cache can be smaller, under any limits.
use Rattle.model.specs.Sizes.{Limits}
use Rattle.model_least.specs.Least.{Least}
use Rattle.model_least.proofs.Head.{head_fills_lem}
use Rattle.model_least.proofs.Tail.{tail_fills_lem, tail_fills_by_queues}
use Rattle.model_least.proofs.NeverFull.{tail_never_fills}

pub least : (limits : Limits) → Least limits
least limits = record {
  head_is_filled = head_fills_lem limits;
  tail_is_filled = tail_fills_lem limits;
  tail_fills_by_queues = tail_fills_by_queues limits;
  tail_never_fills = tail_never_fills limits;
}
