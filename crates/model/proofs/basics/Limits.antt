-- Accepted sizes lie within their limits, each limit as a fact. It is the one place that takes the test apart:
-- `within_limits`.
use mathlib.Core.Path.{◌≡◌}
use mathlib.Core.Bool.{true}
use Prim.Native.Nat.{ℕ, ◌*◌, ◌≤◌}
use native.Mathlib.Nat.{mul-le-mul}
use lib.ListN.{get_or}
use borrow.Author.Tests.{leb-true}
use Rattle.model.specs.Sizes.{Sizes, Limits, span, store_bytes, size_rules, accepts}
use Rattle.model.proofs.basics.Tests.{between-facts}
use Rattle.model.proofs.basics.AllOf.{all_true_at}

pub record Within (limits : Limits) (s : Sizes) : Type 0 where
  pub q_low : 1 ≤ s.Q
  pub q_high : s.Q ≤ limits.most_queues
  pub b_low : 1 ≤ s.b
  pub b_high : s.b ≤ limits.most_block_bytes
  pub k_low : 1 ≤ s.K
  pub k_high : s.K ≤ limits.most_ring_blocks
  pub span_high : span s ≤ limits.most_span

pub within_limits : (limits : Limits) (s : Sizes) → accepts limits s ≡ true → Within limits s
within_limits limits s e = record {
  q_low = (between-facts 1 s.Q limits.most_queues (rule 0)).0;
  q_high = (between-facts 1 s.Q limits.most_queues (rule 0)).1;
  b_low = (between-facts 1 s.b limits.most_block_bytes (rule 1)).0;
  b_high = (between-facts 1 s.b limits.most_block_bytes (rule 1)).1;
  k_low = (between-facts 1 s.K limits.most_ring_blocks (rule 2)).0;
  k_high = (between-facts 1 s.K limits.most_ring_blocks (rule 2)).1;
  span_high = leb-true (span s) limits.most_span (rule 3);
}
  where
    rule : (i : ℕ) → get_or (size_rules limits s) i true ≡ true
    rule i = all_true_at (size_rules limits s) i e

-- So the blocks of all queues are few, and so are the bytes of store that they need.
module _ (limits : Limits) (s : Sizes) (w : Within limits s) where
  pub row_within : s.Q * s.K ≤ limits.most_queues * limits.most_ring_blocks
  row_within = mul-le-mul w.q_high w.k_high

  pub store_within : store_bytes s ≤ limits.most_queues * limits.most_ring_blocks * limits.most_block_bytes
  store_within = mul-le-mul row_within w.b_high
