-- Steps 4 and 5 keep the rules: a write turns b tail bytes of a queue into a block of it, a read turns a block into b
-- head bytes, and the phase is no part of the rules. `rules-wrote`, `rules-read` and `rules-phase` say it.
use mathlib.Core.Path.{◌≡◌, refl, ap}
use mathlib.Core.List.{List, ◌++◌}
use mathlib.Core.Option.{Option, some, none}
use Prim.Native.Nat.{ℕ, zero, suc, ◌+◌, ◌-◌, ◌*◌, ◌%◌, ◌<◌, ◌≤◌}
use native.Mathlib.Omega.{arith}
use native.Mathlib.Nat.{mod-lt}
use lib.ListN.{length, set, length-set}
use Rattle.model.specs.Sizes.{store_bytes}
use Rattle.model.specs.State.{Byte, Ring, ring, State, count_of, tail_bytes, head_bytes, owed_cells, ring_of, blocks}
use Rattle.model.specs.Slot.{without, after_write, refill_queue, bytes_for, block_at, after_read, after_phase}
use Rattle.model.proofs.basics.Tests.{at_queue_lem, eqb_same}
use Rattle.model.proofs.basics.AllOf.{all_append}
use Rattle.model.proofs.basics.Bytes.{below_for, below_without, count_without, count_refilled}
use Rattle.model.proofs.basics.Cells.{owed_below}
use Rattle.model.proofs.meaning.Scan.{scan_some}
use Rattle.model.proofs.basics.Rings.{ring-set_same, ring-set_other, block_length, times_pred}
use Rattle.model.proofs.one_slot.Rules.{Rules}

-- 4. The write: its queue is one of the Q, and has b tail bytes.
abbrev pub WriteTaken : State → Option ℕ → Type 0
WriteTaken x written = (q : ℕ) → written ≡ some q → (q < x.sizes.Q) × (x.sizes.b ≤ tail_bytes x q)

pub rules-wrote : (n : ℕ) (x : State) (written : Option ℕ) → WriteTaken x written → Rules n x
    → Rules n (after_write written x)
rules-wrote n x none f v = v
rules-wrote n x (some q) f v = record {
  tail_below = below_without x.sizes.Q x.sizes.b q x.tail v.tail_below;
  head_below = v.head_below;
  cells_below = v.cells_below;
  cells_long = v.cells_long;
  rings_long = omega (arith, v.rings_long, length-set x.rings q new);
  firsts = at_queue_lem (λ p. p < Q → (ring_of (set x.rings q new) p).first < x.sizes.K) q
      (λ l. rw here (v.firsts q l))
      (λ p t l. rw (ring-set_other x.rings q p new t) (v.firsts p l));
  room = at_queue_lem (λ p. p < Q
      → count_of p (without b q x.tail) + b * (ring_of (set x.rings q new) p).count ≤ x.sizes.K * b) q
      (λ l. rw here (omega (arith, v.room q l, (f q refl).1, rw (eqb_same q) at (count_without b q q x.tail))))
      (λ p t l. rw (ring-set_other x.rings q p new t)
      (omega (arith, v.room p l, rw t at (count_without b q p x.tail))));
  backed = at_queue_lem (λ p. p < Q → owed_cells x p ≤ head_bytes x p + b * (ring_of (set x.rings q new) p).count) q
      (λ l. rw here (omega (arith, v.backed q l)))
      (λ p t l. rw (ring-set_other x.rings q p new t) (v.backed p l));
}
  where
    Q : ℕ
    Q = x.sizes.Q

    b : ℕ
    b = x.sizes.b

    new : Ring
    new = ring (ring_of x.rings q).first ((ring_of x.rings q).count + 1)

    here : ring_of (set x.rings q new) q ≡ new
    here = ring-set_same x.rings q new (omega (arith, v.rings_long, (f q refl).0))

-- 4. The read: its queue is one of the Q, and has a block.
abbrev pub ReadTaken : State → Option ℕ → Type 0
ReadTaken x o = (q : ℕ) → o ≡ some q → (q < x.sizes.Q) × (1 ≤ blocks x q)

-- The queue at which the scan stops is such a queue.
pub scan_taken : (n : ℕ) (x : State) → Rules n x → ReadTaken x (refill_queue (head_bytes x) x.cells)
scan_taken n x v q e = (below, go (blocks x q) refl)
  where
    more : head_bytes x q < owed_cells x q
    more = scan_some (head_bytes x) x.cells q e

    below : q < x.sizes.Q
    below = owed_below x.sizes.Q x.cells q v.cells_below (omega (arith, more))

    go : (k : ℕ) → blocks x q ≡ k → 1 ≤ k
    go zero z = absurd (omega (arith, more, v.backed q below, ap (λ (k : ℕ). x.sizes.b * k) z))
    go (suc k) z = omega arith

module _ (n : ℕ) (x : State) (store : List ℕ) (long : store_bytes x.sizes ≤ length store) (v : Rules n x) where
  pub rules-read : (o : Option ℕ) → ReadTaken x o → Rules n (after_read o x store)
  rules-read none f = search v
  rules-read (some q) f = record {
    tail_below = v.tail_below;
    head_below = all_append (λ (y : Byte). y.queue < Q) x.head (bytes_for q block) v.head_below
        (below_for Q q below block);
    cells_below = v.cells_below;
    cells_long = v.cells_long;
    rings_long = omega (arith, v.rings_long, length-set x.rings q new);
    firsts = at_queue_lem (λ p. p < Q → (ring_of (set x.rings q new) p).first < x.sizes.K) q
        (λ l. rw here (mod-lt (old.first + 1) (omega (arith, v.firsts q l))))
        (λ p t l. rw (ring-set_other x.rings q p new t) (v.firsts p l));
    room = at_queue_lem (λ p. p < Q → tail_bytes x p + b * (ring_of (set x.rings q new) p).count ≤ x.sizes.K * b) q
        (λ l. rw here (omega (arith, v.room q l, less)))
        (λ p t l. rw (ring-set_other x.rings q p new t) (v.room p l));
    backed = at_queue_lem (λ p. p < Q
        → owed_cells x p ≤ count_of p (x.head ++ bytes_for q block) + b * (ring_of (set x.rings q new) p).count) q
        (λ l. rw here (omega (
          arith,
          v.backed q l,
          less,
          whole,
          rw (eqb_same q) at
              (count_refilled q q x.head block),
        )))
        (λ p t l. rw (ring-set_other x.rings q p new t)
        (omega (arith, v.backed p l, rw t at (count_refilled q p x.head block))));
  }
    where
      Q : ℕ
      Q = x.sizes.Q

      b : ℕ
      b = x.sizes.b

      old : Ring
      old = ring_of x.rings q

      new : Ring
      new = ring ((old.first + 1) % x.sizes.K) (old.count - 1)

      below : q < Q
      below = (f q refl).0

      here : ring_of (set x.rings q new) q ≡ new
      here = ring-set_same x.rings q new (omega (arith, v.rings_long, below))

      block : List ℕ
      block = block_at x.sizes store q old.first

      whole : length block ≡ b
      whole = block_length x.sizes store q old.first below (v.firsts q below) long

      less : b * (old.count - 1) + b ≡ b * old.count
      less = times_pred b old.count (f q refl).1

-- 5. The phase is no part of them.
pub rules-phase : (n : ℕ) (x : State) → Rules n x → Rules n (after_phase x)
rules-phase n x v = search v
