-- The blocks of a queue as the array of counts has them: one past the last queue has none, nor has one past the array.
use mathlib.Core.Path.{◌≡◌}
use mathlib.Core.List.{List}
use Prim.Native.Nat.{ℕ, ◌≤◌, ◌<◌, min}
use native.Mathlib.Omega.{arith}
use lib.Dec.{ltb}
use lib.ListN.{length, get_or}
use borrow.Author.Tests.{ltb-true, ltb-false, lt-ltb}
use Rattle.model.specs.State.{ring_of}
use Rattle.model.proofs.basics.Tests.{by_test}
use Rattle.layout.specs.Entries.{counts_in}
use Rattle.layout.specs.Views.{rings_in}
use Rattle.layout.specs.Figures.{blocks_in}
use Rattle.layout.proofs.Rings.{ring-at, ring-past}
use Rattle.buffer_choices.proofs.Fullest.{counts_past}

module _ (queues : ℕ) (stored : List ℕ) (q : ℕ) where
  pub blocks_outside : min queues (length stored) ≤ q → blocks_in queues stored q ≡ 0
  blocks_outside h =
      by_test (ltb q queues)
      (λ t. rw (t, counts_past stored q (omega (arith, h, ltb-true q queues t))))
      (λ t. rw t)

  pub blocks-known : q < queues → blocks_in queues stored q ≡ get_or stored q 0
  unfolding counts_in
  blocks-known h = rw (lt-ltb q queues h)

  -- They are those of the state's ring.
  pub blocks-are : (firsts : List ℕ) → blocks_in queues stored q ≡ (ring_of (rings_in queues firsts stored) q).count
  blocks-are firsts =
      by_test (ltb q queues)
      (λ t. rw (t, ring-at queues firsts stored q (ltb-true q queues t)))
      (λ t. rw (t, ring-past queues firsts stored q (ltb-false q queues t)))
