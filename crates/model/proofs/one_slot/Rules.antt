-- The rules of a state as facts: a state keeps them by the test exactly where each of them holds, and a fresh state
-- does. `keeps-facts`, `keeps-holds` and `keeps-fresh` say it.
use mathlib.Core.Path.{◌≡◌, refl, ap, sym, ◌∙◌}
use mathlib.Core.Bool.{true, not, not-not}
use Prim.Native.Nat.{ℕ, ◌+◌, ◌*◌, ◌<◌, ◌≤◌}
use native.Mathlib.Omega.{arith}
use lib.ListN.{length, get_or, length-replicate}
use borrow.Author.Tests.{eqb-true, eq-eqb, leb-true, le-leb, ltb-true, lt-ltb}
use Rattle.model.specs.Sizes.{Sizes, Design, accepts, tail_size, head_size}
use Rattle.model.specs.State.{ring, State, fresh, tail_bytes, head_bytes, owed_cells, ring_of, blocks, first_in_range}
use Rattle.model.specs.State.{with_last_asked, has_room, is_backed, rules, keeps, making_number}
use Rattle.model.proofs.basics.Tests.{and_both, between-facts, between-holds}
use Rattle.model.proofs.basics.AllOf.{all_below_facts, all_below_holds, all_true_at}
use Rattle.model.proofs.basics.FirstRefusal.{when-zero}
use Rattle.model.proofs.basics.Limits.{within_limits}
use Rattle.model.proofs.basics.Bytes.{Below, below_facts, below_holds}
use Rattle.model.proofs.basics.Cells.{CellsBelow, cells_below_facts, cells_below_holds, owed_empties}
use Rattle.model.proofs.basics.Cells.{cells_below_empties}
use Rattle.model.proofs.meaning.Steps.{fresh_cells}
use Rattle.model.proofs.basics.Rings.{ring-fresh}

-- The rules that hold between the steps of a slot too, with n cells in the lookahead.
pub record Rules (n : ℕ) (x : State) : Type 0 where
  pub tail_below : Below x.sizes.Q x.tail
  pub head_below : Below x.sizes.Q x.head
  pub cells_below : CellsBelow x.sizes.Q x.cells
  pub cells_long : length x.cells ≡ n
  pub rings_long : length x.rings ≡ x.sizes.Q
  pub firsts : (q : ℕ) → q < x.sizes.Q → (ring_of x.rings q).first < x.sizes.K
  pub room : (q : ℕ) → q < x.sizes.Q → tail_bytes x q + x.sizes.b * blocks x q ≤ x.sizes.K * x.sizes.b
  pub backed : (q : ℕ) → q < x.sizes.Q → owed_cells x q ≤ head_bytes x q + x.sizes.b * blocks x q

-- All rules of the state, as facts.
pub record Keeps (design : Design) (x : State) : Type 0 where
  pub sizes-ok : accepts design.limits x.sizes ≡ true
  pub phase_ok : x.phase < x.sizes.b
  pub within : Rules (design.cell_count x.sizes) x
  pub tail_fits : length x.tail ≤ tail_size x.sizes
  pub head_fits : length x.head ≤ head_size x.sizes
  pub tail_mark : (length x.tail ≤ x.tail_mark) × (x.tail_mark ≤ tail_size x.sizes)
  pub head_mark : (length x.head ≤ x.head_mark) × (x.head_mark ≤ head_size x.sizes)
  pub last_below : x.last_asked < x.sizes.Q

pub keeps-facts : (design : Design) (x : State) → keeps design x ≡ true → Keeps design x
keeps-facts design x e = record {
  sizes-ok = rule 0;
  phase_ok = ltb-true x.phase x.sizes.b (rule 1);
  within = record {
    tail_below = below_facts Q x.tail (rule 7);
    head_below = below_facts Q x.head (rule 8);
    cells_below = cells_below_facts Q x.cells (rule 9);
    cells_long = eqb-true (length x.cells) (design.cell_count x.sizes) (rule 2);
    rings_long = eqb-true (length x.rings) Q (rule 3);
    firsts = λ q l. ltb-true (ring_of x.rings q).first x.sizes.K
        (all_below_facts Q (first_in_range x) (rule 4) q l);
    room = λ q l. leb-true (tail_bytes x q + x.sizes.b * blocks x q) (x.sizes.K * x.sizes.b)
        (all_below_facts Q (has_room x) (rule 12) q l);
    backed = λ q l. leb-true (owed_cells x q) (head_bytes x q + x.sizes.b * blocks x q)
        (all_below_facts Q (is_backed x) (rule 13) q l);
  };
  tail_fits = leb-true (length x.tail) (tail_size x.sizes) (rule 10);
  head_fits = leb-true (length x.head) (head_size x.sizes) (rule 11);
  tail_mark = between-facts (length x.tail) x.tail_mark (tail_size x.sizes) (rule 5);
  head_mark = between-facts (length x.head) x.head_mark (head_size x.sizes) (rule 6);
  last_below = ltb-true x.last_asked Q (rule 14);
}
  where
    Q : ℕ
    Q = x.sizes.Q

    rule : (i : ℕ) → get_or (rules design x) i true ≡ true
    rule i = all_true_at (rules design x) i e

pub keeps-holds : (design : Design) (x : State) → Keeps design x → keeps design x ≡ true
keeps-holds design x v =
    and_both _ _ v.sizes-ok
    (and_both _ _ (lt-ltb x.phase x.sizes.b v.phase_ok)
    (and_both _ _ (eq-eqb (length x.cells) (design.cell_count x.sizes) v.within.cells_long)
    (and_both _ _ (eq-eqb (length x.rings) Q v.within.rings_long)
    (and_both _ _ (all_below_holds Q (first_in_range x) (λ q l. lt-ltb _ x.sizes.K (v.within.firsts q l)))
    (and_both _ _ (between-holds (length x.tail) x.tail_mark (tail_size x.sizes) v.tail_mark.0
    v.tail_mark.1)
    (and_both _ _ (between-holds (length x.head) x.head_mark (head_size x.sizes) v.head_mark.0
    v.head_mark.1)
    (and_both _ _ (below_holds Q Q (omega arith) x.tail v.within.tail_below)
    (and_both _ _ (below_holds Q Q (omega arith) x.head v.within.head_below)
    (and_both _ _ (cells_below_holds Q Q (omega arith) x.cells v.within.cells_below)
    (and_both _ _ (le-leb (length x.tail) (tail_size x.sizes) v.tail_fits)
    (and_both _ _ (le-leb (length x.head) (head_size x.sizes) v.head_fits)
    (and_both _ _ (all_below_holds Q (has_room x) (λ q l. le-leb _ (x.sizes.K * x.sizes.b) (v.within.room q l)))
    (and_both _ _ (all_below_holds Q (is_backed x) (λ q l. le-leb (owed_cells x q) _ (v.within.backed q l)))
    (and_both _ _ (lt-ltb x.last_asked Q v.last_below)
    refl))))))))))))))
  where
    Q : ℕ
    Q = x.sizes.Q

-- Sizes of which a state is made are accepted.
pub made_accepted : (design : Design) (s : Sizes) → making_number design s ≡ 0 → accepts design.limits s ≡ true
made_accepted design s e =
    sym (not-not (accepts design.limits s)) ∙ ap not (when-zero (not (accepts design.limits s)) 0 e)

-- A fresh state keeps them.
pub rules-fresh : (design : Design) (s : Sizes) → 1 ≤ s.K → Rules (design.cell_count s) (fresh design s)
rules-fresh design s hk = record {
  tail_below = tt;
  head_below = tt;
  cells_below = cells_below_empties s.Q (design.cell_count s);
  cells_long = fresh_cells design s;
  rings_long = length-replicate s.Q (ring 0 0);
  firsts = λ q l. rw (ring-fresh s.Q q) hk;
  room = λ q l. rw (ring-fresh s.Q q, blocks) (omega arith);
  backed = λ q l. omega (arith, owed_empties (design.cell_count s) q);
}

pub keeps-fresh : (design : Design) (s : Sizes) → accepts design.limits s ≡ true → Keeps design (fresh design s)
keeps-fresh design s e = record {
  sizes-ok = e;
  phase_ok = (within_limits design.limits s e).b_low;
  within = rules-fresh design s (within_limits design.limits s e).k_low;
  tail_fits = omega arith;
  head_fits = omega arith;
  tail_mark = (omega arith, omega arith);
  head_mark = (omega arith, omega arith);
  last_below = omega (arith, (within_limits design.limits s e).q_low);
}

-- The last one asked has a rule of its own, and no other looks at it.
pub keeps-noted : (design : Design) (x : State) (noted : ℕ) → noted < x.sizes.Q → Keeps design x
    → Keeps design (with_last_asked noted x)
keeps-noted design x noted l v = record {
  sizes-ok = v.sizes-ok;
  phase_ok = v.phase_ok;
  within = search v.within;
  tail_fits = v.tail_fits;
  head_fits = v.head_fits;
  tail_mark = v.tail_mark;
  head_mark = v.head_mark;
  last_below = l;
}
