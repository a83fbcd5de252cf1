-- Steps 4 and 5 of a slot: what is written and read, by the figures. A queue is written where it alone has a block in
-- the tail, and read where it alone is critical; and what a list knows of the queues after a slot follows.
use mathlib.Core.Path.{◌≡◌, ap, sym, ◌∙◌}
use mathlib.Core.Bool.{true}
use mathlib.Core.List.{List}
use mathlib.Core.Option.{some, none}
use Prim.Native.Nat.{ℕ, suc, ◌+◌, ◌-◌, ◌<◌, ◌≤◌}
use native.Mathlib.Omega.{arith}
use lib.Dec.{eqb}
use lib.ListN.{length}
use borrow.Author.Tests.{eqb-true}
use Rattle.model.specs.Sizes.{store_bytes}
use Rattle.model.specs.State.{Ring, ring, State, tail_bytes, head_bytes, owed_cells, ring_of, blocks}
use Rattle.model.specs.Slot.{moves, fullest, queue_to_write, after_write, refill_queue, queue_to_read, block_at, after_read}
use Rattle.model.specs.Slot.{after_phase}
use Rattle.model.proofs.basics.Tests.{by_test, by_option, eqb_same}
use Rattle.model.proofs.basics.Bytes.{count_without, count_refilled}
use Rattle.model.proofs.meaning.Fullest.{fullest-some, fullest-none}
use Rattle.model.proofs.meaning.Scan.{scan_some, scan_none}
use Rattle.model.proofs.meaning.Steps.{move_writes_fullest, move_reads_scan}
use Rattle.model.proofs.basics.Rings.{ring-set_same, ring-set_other, block_length}
use Rattle.model.proofs.one_slot.Rules.{Rules}
use Rattle.model.proofs.one_slot.MovesKeepRules.{scan_taken}
use Rattle.model.proofs.one_slot.Kept.{write_taken, read_scan}
use Rattle.model_least.proofs.Figures.{Figures, figures, Shows, Stands}

-- The other queues of a round: none has a block in the tail, and none is asked for.
pub record Calm (b : ℕ) (there : ℕ → Figures) : Type 0 where
  pub light : (p : ℕ) → (there p).tail < b
  pub not_asked : (p : ℕ) → (there p).asked ≡ 0

module _ (q : ℕ) (here : Figures) (there : ℕ → Figures) (y : State) (v : Stands q here there y)
    (c : Calm y.sizes.b there) where
  -- The write.
  pub none_written : here.tail < y.sizes.b → queue_to_write y ≡ none
  none_written l =
      by_option (queue_to_write y) (λ e. e)
      (λ p e. absurd (by_test (eqb q p)
      (λ t. omega (arith, l, (write_taken y p e).1, v.at_here.tail_is, ap (tail_bytes y) (eqb-true q p t)))
      (λ t. omega (arith, c.light p, (write_taken y p e).1, (v.at_there p (write_taken y p e).0 t).tail_is))))

  pub one_written : moves y ≡ true → q < y.sizes.Q → y.sizes.b ≤ here.tail → queue_to_write y ≡ some q
  one_written move below l =
      move_writes_fullest y move
      ∙ by_option (fullest y.sizes.b (tail_bytes y) y.sizes.Q)
      (λ e. absurd (omega (
        arith,
        l,
        v.at_here.tail_is,
        fullest-none y.sizes.b (tail_bytes y) y.sizes.Q e q below,
      )))
      (λ p e. by_test (eqb q p)
      (λ t. e ∙ ap (λ (i : ℕ). some i) (sym (eqb-true q p t)))
      (λ t. absurd (omega (
        arith,
        c.light p,
        (fullest-some y.sizes.b (tail_bytes y) y.sizes.Q p e).has_block,
        (v.at_there p (fullest-some y.sizes.b (tail_bytes y) y.sizes.Q p e).below t).tail_is,
      ))))

  -- The read.
  module _ (n : ℕ) (rules : Rules n y) where
    only_here : (p : ℕ) → refill_queue (head_bytes y) y.cells ≡ some p → p ≡ q
    only_here p e =
        by_test (eqb q p)
        (λ t. sym (eqb-true q p t))
        (λ t. absurd (omega (
          arith,
          scan_some (head_bytes y) y.cells p e,
          (v.at_there p (scan_taken n y rules p e).0 t).margin_is,
          c.not_asked p,
        )))

    pub none_read : here.asked ≤ here.margin → queue_to_read y ≡ none
    none_read l =
        by_option (queue_to_read y) (λ e. e)
        (λ p e. absurd (omega (
          arith,
          l,
          scan_some (head_bytes y) y.cells p (read_scan y p e),
          v.at_here.margin_is,
          ap (head_bytes y) (only_here p (read_scan y p e)),
          ap (owed_cells y) (only_here p (read_scan y p e)),
        )))

    pub one_read : moves y ≡ true → here.margin < here.asked → queue_to_read y ≡ some q
    one_read move l =
        move_reads_scan y move
        ∙ by_option (refill_queue (head_bytes y) y.cells)
        (λ e. absurd (omega (arith, l, scan_none (head_bytes y) y.cells e q, v.at_here.margin_is)))
        (λ p e. e ∙ ap (λ (i : ℕ). some i) (only_here p e))

-- The block goes from the tail to the ring, and from the ring to the head.
pub stands_wrote : (n q t k m a : ℕ) (there : ℕ → Figures) (y : State) → Rules n y → q < y.sizes.Q
    → Stands q (figures (t + y.sizes.b) k m a) there y
    → Stands q (figures t (suc k) m a) there (after_write (some q) y)
stands_wrote n q t k m a there y rules below v = record {
  at_here = record {
    tail_is = omega (arith, v.at_here.tail_is, rw (eqb_same q) at (count_without y.sizes.b q q y.tail));
    blocks-are = rw (ring-set_same y.rings q new (omega (arith, rules.rings_long, below)), blocks)
        (omega (arith, v.at_here.blocks-are));
    margin_is = v.at_here.margin_is;
  };
  at_there = λ p l u. record {
    tail_is = omega (arith, (v.at_there p l u).tail_is, rw u at (count_without y.sizes.b q p y.tail));
    blocks-are = rw (ring-set_other y.rings q p new u, blocks) (v.at_there p l u).blocks-are;
    margin_is = (v.at_there p l u).margin_is;
  };
}
  where
    new : Ring
    new = ring (ring_of y.rings q).first ((ring_of y.rings q).count + 1)

pub stands_read : (n q t k m : ℕ) (there : ℕ → Figures) (z : State) (store : List ℕ) → Rules n z → q < z.sizes.Q
    → 1 ≤ z.sizes.b → store_bytes z.sizes ≤ length store
    → Stands q (figures t (suc k) m (suc m)) there z
    → Stands q (figures t k (z.sizes.b - 1) 0) there (after_read (some q) z store)
stands_read n q t k m there z store rules below pos long v = record {
  at_here = record {
    tail_is = v.at_here.tail_is;
    blocks-are = rw (ring-set_same z.rings q _ (omega (arith, rules.rings_long, below)), blocks)
        (omega (arith, v.at_here.blocks-are));
    margin_is = omega (
      arith,
      pos,
      v.at_here.margin_is,
      whole,
      rw (eqb_same q) at (count_refilled q q z.head block),
    );
  };
  at_there = λ p l u. record {
    tail_is = (v.at_there p l u).tail_is;
    blocks-are = rw (ring-set_other z.rings q p _ u, blocks) (v.at_there p l u).blocks-are;
    margin_is = omega (arith, (v.at_there p l u).margin_is, rw u at (count_refilled q p z.head block));
  };
}
  where
    block : List ℕ
    block = block_at z.sizes store q (ring_of z.rings q).first

    whole : length block ≡ z.sizes.b
    whole = block_length z.sizes store q (ring_of z.rings q).first below (rules.firsts q below) long

-- A read of nothing, and the phase, change no figure.
pub stands_unread : (q : ℕ) (here : Figures) (there : ℕ → Figures) (z : State) (store : List ℕ) → Stands q here there z
    → Stands q here there (after_read none z store)
stands_unread q here there z store v = record {
  at_here = same here q v.at_here;
  at_there = λ p l u. same (there p) p (v.at_there p l u);
}
  where
    same : (f : Figures) (p : ℕ) → Shows f z p → Shows f (after_read none z store) p
    same f p w = record { tail_is = w.tail_is; blocks-are = w.blocks-are; margin_is = w.margin_is }

pub stands_phase : (q : ℕ) (here : Figures) (there : ℕ → Figures) (z : State) → Stands q here there z
    → Stands q here there (after_phase z)
stands_phase q here there z v = record {
  at_here = same here q v.at_here;
  at_there = λ p l u. same (there p) p (v.at_there p l u);
}
  where
    same : (f : Figures) (p : ℕ) → Shows f z p → Shows f (after_phase z) p
    same f p w = record { tail_is = w.tail_is; blocks-are = w.blocks-are; margin_is = w.margin_is }
