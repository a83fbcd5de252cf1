-- The rings of a state, and the places of blocks: a ring changed at one queue, and a block that lies within the
-- store.
use mathlib.Core.Path.{◌≡◌, sym}
use mathlib.Core.Bool.{false}
use mathlib.Core.List.{List}
use Prim.Native.Nat.{ℕ, zero, suc, ◌+◌, ◌-◌, ◌*◌, ◌<◌, ◌≤◌}
use native.Mathlib.Omega.{arith}
use native.Mathlib.Nat.{mul-le-mul_left, mul-le-mul_right, mul_comm}
use lib.Dec.{eqb, ltb}
use lib.ListN.{length, drop, set, replicate, length-take, length-drop, length-replicate, get_or-replicate}
use lib.ListN.{get_or-eq_default}
use lib.Seq.{get_or-set_same, get_or-set_other}
use borrow.Author.Tests.{eqb-false, ltb-true, ltb-false}
use Rattle.model.specs.Sizes.{Sizes, store_bytes, block_place}
use Rattle.model.specs.State.{Ring, ring, ring_of}
use Rattle.model.specs.Slot.{block_at}
use Rattle.model.proofs.basics.Tests.{by_test}

pub ring-set_same : (rings : List Ring) (q : ℕ) (r : Ring) → q < length rings → ring_of (set rings q r) q ≡ r
ring-set_same rings q r l = get_or-set_same rings q r (ring 0 0) l

pub ring-set_other : (rings : List Ring) (q p : ℕ) (r : Ring) → eqb q p ≡ false → ring_of (set rings q r) p
    ≡ ring_of rings p
ring-set_other rings q p r e = get_or-set_other rings q p r (ring 0 0) (λ s. eqb-false q p e (sym s))

-- Fresh rings, and rings of queues that there are not: no block, from block 0.
pub ring-fresh : (n q : ℕ) → ring_of (replicate n (ring 0 0)) q ≡ ring 0 0
ring-fresh n q =
    by_test (ltb q n)
    (λ t. get_or-replicate n q (ring 0 0) (ring 0 0) (ltb-true q n t))
    (λ t. get_or-eq_default (replicate n (ring 0 0)) (ring 0 0) {n = q}
    (omega (arith, length-replicate n (ring 0 0), ltb-false q n t)))

-- Blocks are numbered q × K + k, and all lie within Q × K × b bytes.
pub place_fits : (Q K b q k : ℕ) → q < Q → k < K → (q * K + k) * b + b ≤ Q * K * b
place_fits Q K b q k l m = omega (arith, mul-le-mul_right {m = suc (q * K + k)} b number)
  where
    number : suc (q * K + k) ≤ Q * K
    number = omega (arith, mul-le-mul_right {m = suc q} K l)

pub block_length : (s : Sizes) (store : List ℕ) (q k : ℕ) → q < s.Q → k < s.K → store_bytes s ≤ length store
    → length (block_at s store q k) ≡ s.b
block_length s store q k l m h =
    omega (
      arith,
      length-take s.b (drop (block_place s q k) store),
      length-drop (block_place s q k) store,
      place_fits s.Q s.K s.b q k l m,
    )

-- A queue with a block of tail bytes has fewer than K blocks.
pub fewer_blocks : (tails b n K : ℕ) → 1 ≤ b → b ≤ tails → tails + b * n ≤ K * b → n < K
fewer_blocks tails b n K pos h r =
    by_test (ltb n K)
    (λ t. ltb-true n K t)
    (λ t. absurd (omega (arith, mul-le-mul_left b (ltb-false n K t), mul_comm K b)))

-- b times one block fewer.
pub times_pred : (b n : ℕ) → 1 ≤ n → b * (n - 1) + b ≡ b * n
times_pred b zero h = absurd (omega arith)
times_pred b (suc n) h = let e : suc n - 1 ≡ n = omega arith in rw e (omega arith)
