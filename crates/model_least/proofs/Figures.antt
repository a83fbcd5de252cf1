-- What a list knows of each queue: four figures, and how steps 1 to 3 of a slot change them. A delivery changes none,
-- since an Owed cell that leaves takes a head byte with it; an arrival and an Owed request each raise one by one.
use mathlib.Core.Path.{◌≡◌}
use mathlib.Core.Bool.{true, false}
use mathlib.Core.List.{[], ◌∷◌}
use mathlib.Core.Option.{some, none}
use Prim.Native.Nat.{ℕ, suc, ◌+◌, ◌*◌, ◌<◌}
use native.Mathlib.Omega.{arith}
use lib.Dec.{eqb}
use borrow.Author.Tests.{ltb-true, lt-ltb}
use Rattle.model.specs.State.{byte, empty, State, tail_bytes, head_bytes, owed_cells, blocks}
use Rattle.model.specs.Slot.{oldest_cell, after_delivery, after_arrival, is_owed, youngest_cell, after_request}
use Rattle.model.specs.Slot.{joined, asked, leaves_uncovered}
use Rattle.model.specs.Calls.{arrival, request, idle}
use Rattle.model.proofs.basics.Tests.{eqb_same}
use Rattle.model.proofs.basics.Bytes.{count_append, count_one_same, count_one_other}
use Rattle.model.proofs.basics.Cells.{owed_append}
use Rattle.model.proofs.meaning.Steps.{owed_leaves_tail}
use Rattle.model.proofs.missing.Draining.{covered_byte}
use Rattle.model.proofs.one_slot.StepsKeepRules.{owed_oldest, count_head_without, youngest_owed}

-- Of a queue: its tail bytes, its blocks, its margin when the round began, and the bytes asked for since.
pub record Figures : Type 0 where
  pub tail : ℕ
  pub blocks : ℕ
  pub margin : ℕ
  pub asked : ℕ

abbrev pub figures : ℕ → ℕ → ℕ → ℕ → Figures
figures t n m a = record { tail = t; blocks = n; margin = m; asked = a }

-- A queue of a state has these figures. Its margin now, head bytes less Owed cells, is `margin` less `asked`.
pub record Shows (f : Figures) (x : State) (q : ℕ) : Type 0 where
  pub tail_is : tail_bytes x q ≡ f.tail
  pub blocks-are : blocks x q ≡ f.blocks
  pub margin_is : head_bytes x q + f.asked ≡ owed_cells x q + f.margin

-- Queue q is the one that the round is about.
pub record Stands (q : ℕ) (here : Figures) (there : ℕ → Figures) (x : State) : Type 0 where
  pub at_here : Shows here x q
  pub at_there : (p : ℕ) → p < x.sizes.Q → eqb q p ≡ false → Shows (there p) x p

-- 1. The oldest cell leaves.
module _ (x : State) (covered : leaves_uncovered (oldest_cell x.cells) x ≡ false) where
  shows_delivered : (f : Figures) (q : ℕ) → Shows f x q → Shows f (after_delivery x) q
  shows_delivered f q v = record {
    tail_is = v.tail_is;
    blocks-are = v.blocks-are;
    margin_is = omega (
      arith,
      v.margin_is,
      owed_oldest x.cells q,
      count_head_without (oldest_cell x.cells) x.head q,
      covered_byte x (oldest_cell x.cells) q covered,
    );
  }

  -- The request is Owed before and after step 1 alike.
  pub owed_delivered : (q : ℕ) → is_owed x q ≡ true → is_owed (after_delivery x) q ≡ true
  owed_delivered q e =
      lt-ltb (owed_cells (after_delivery x) q) (head_bytes (after_delivery x) q + x.sizes.b * blocks x q)
      (omega (
        arith,
        ltb-true (owed_cells x q) (head_bytes x q + x.sizes.b * blocks x q) e,
        owed_oldest x.cells q,
        count_head_without (oldest_cell x.cells) x.head q,
        covered_byte x (oldest_cell x.cells) q covered,
      ))

-- 2. The arriving byte joins the tail, or none does.
shows_no_arrival : (x : State) (f : Figures) (q : ℕ) → Shows f x q → Shows f (after_arrival none x) q
shows_no_arrival x f q v = record {
  tail_is = omega (arith, v.tail_is, count_append q x.tail []);
  blocks-are = v.blocks-are;
  margin_is = v.margin_is;
}

shows_arrival_here : (x : State) (t n m a q : ℕ) → Shows (figures t n m a) x q
    → Shows (figures (suc t) n m a) (after_arrival (some (byte q 0)) x) q
shows_arrival_here x t n m a q v = record {
  tail_is = omega (arith, v.tail_is, count_append q x.tail (byte q 0 ∷ []), count_one_same (byte q 0));
  blocks-are = v.blocks-are;
  margin_is = v.margin_is;
}

shows_arrival_there : (x : State) (q p : ℕ) (f : Figures) → eqb q p ≡ false → Shows f x p
    → Shows f (after_arrival (some (byte q 0)) x) p
shows_arrival_there x q p f u v = record {
  tail_is = omega (arith, v.tail_is, count_append p x.tail (byte q 0 ∷ []), count_one_other (byte q 0) p u);
  blocks-are = v.blocks-are;
  margin_is = v.margin_is;
}

-- 3. The youngest cell is empty, or Owed to q.
shows_no_request : (x : State) (f : Figures) (q : ℕ) → Shows f x q → Shows f (after_request none x) q
shows_no_request x f q v = record {
  tail_is = v.tail_is;
  blocks-are = v.blocks-are;
  margin_is = omega (arith, v.margin_is, owed_append q x.cells (empty ∷ []));
}

module _ (x : State) (q : ℕ) (o : is_owed x q ≡ true) where
  shows_request_here : (t n m a : ℕ) → Shows (figures t n m a) x q
      → Shows (figures t n m (suc a)) (after_request (some q) x) q
  shows_request_here t n m a v = record {
    tail_is = rw (owed_leaves_tail x q o) v.tail_is;
    blocks-are = v.blocks-are;
    margin_is = omega (
      arith,
      v.margin_is,
      owed_append q x.cells (youngest_cell x (some q) ∷ []),
      rw (eqb_same q) at (youngest_owed x q q o),
    );
  }

  shows_request_there : (p : ℕ) (f : Figures) → eqb q p ≡ false → Shows f x p → Shows f (after_request (some q) x) p
  shows_request_there p f u v = record {
    tail_is = rw (owed_leaves_tail x q o) v.tail_is;
    blocks-are = v.blocks-are;
    margin_is = omega (
      arith,
      v.margin_is,
      owed_append p x.cells (youngest_cell x (some q) ∷ []),
      rw u at (youngest_owed x q p o),
    );
  }

-- The slots below have no arrival beside a request, and so none swaps (request 2.1): no byte joins after the request.
stands_none_late : (x : State) (q : ℕ) (here : Figures) (there : ℕ → Figures) → Stands q here there x
    → Stands q here there (after_arrival none x)
stands_none_late x q here there v = record {
  at_here = shows_no_arrival x here q v.at_here;
  at_there = λ p l u. shows_no_arrival x (there p) p (v.at_there p l u);
}

-- Steps 1 to 3 of a slot: an arrival of q, a request of q that is Owed, and an idle slot.
module _ (x : State) (covered : leaves_uncovered (oldest_cell x.cells) x ≡ false) (q : ℕ) (there : ℕ → Figures) where
  pub stands_arrived : (t n m a : ℕ) → Stands q (figures t n m a) there x
      → Stands q (figures (suc t) n m a) there (asked x (arrival q 0))
  stands_arrived t n m a v = stands_none_late _ q _ there record {
    at_here = shows_no_request (joined x (arrival q 0)) _ q
        (shows_arrival_here (after_delivery x) t n m a q (shows_delivered x covered _ q v.at_here));
    at_there = λ p l u. shows_no_request (joined x (arrival q 0)) _ p
        (shows_arrival_there (after_delivery x) q p _ u (shows_delivered x covered _ p (v.at_there p l u)));
  }

  pub stands_asked : is_owed x q ≡ true → (t n m a : ℕ) → Stands q (figures t n m a) there x
      → Stands q (figures t n m (suc a)) there (asked x (request q))
  stands_asked o t n m a v = stands_none_late _ q _ there record {
    at_here = shows_request_here (joined x (request q)) q owed_now t n m a
        (shows_no_arrival (after_delivery x) _ q (shows_delivered x covered _ q v.at_here));
    at_there = λ p l u. shows_request_there (joined x (request q)) q owed_now p _ u
        (shows_no_arrival (after_delivery x) _ p (shows_delivered x covered _ p (v.at_there p l u)));
  }
    where
      owed_now : is_owed (joined x (request q)) q ≡ true
      owed_now = owed_delivered x covered q o

  pub stands_idle : (here : Figures) → Stands q here there x → Stands q here there (asked x idle)
  stands_idle here v = stands_none_late _ q here there record {
    at_here = idled here q v.at_here;
    at_there = λ p l u. idled (there p) p (v.at_there p l u);
  }
    where
      idled : (f : Figures) (p : ℕ) → Shows f x p → Shows f (after_request none (joined x idle)) p
      idled f p w = shows_no_request (joined x idle) f p
          (shows_no_arrival (after_delivery x) f p (shows_delivered x covered f p w))
