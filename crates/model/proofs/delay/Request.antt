-- Step 3 on the ideal buffer: the request moves the front of its queue's waiting bytes to the line, since an Owed
-- cell takes the next byte of the stream, and a request is Held only where the stream is used up and the tail's
-- oldest byte is the front. `asked_is` says it.
use mathlib.Core.Path.{◌≡◌, refl, ap, sym, ◌∙◌}
use mathlib.Core.Bool.{true, false}
use mathlib.Core.List.{List, [], ◌∷◌, ◌++◌}
use mathlib.Core.Option.{Option, some, none}
use Prim.Native.Nat.{ℕ, ◌+◌, ◌-◌, ◌*◌, ◌<◌, ◌≤◌}
use native.Mathlib.Omega.{arith}
use lib.Dec.{eqb, ltb}
use lib.ListN.{length, drop, get_elem?, length-append, length-drop, drop_of_length-le}
use lib.Seq.{drop-append-le, drop-drop}
use borrow.Author.Tests.{ltb-true, ltb-false}
use Rattle.model.specs.Basics.{choose}
use Rattle.model.specs.Sizes.{store_bytes}
use Rattle.model.specs.State.{Byte, Cell, empty, owed, State, values_of, owes, owed_of, tail_bytes, head_bytes}
use Rattle.model.specs.State.{owed_cells, ring_of, blocks}
use Rattle.model.specs.Slot.{as_byte, without, is_owed, held_cell, after_request}
use Rattle.model.specs.Lists.{asks}
use Rattle.model.specs.Ideal.{next_byte_of, stream, line_of}
use Rattle.model.proofs.basics.Tests.{by_test, at_queue_lem, eqb_same}
use Rattle.model.proofs.basics.Bytes.{values-without_same, values-without_other}
use Rattle.model.proofs.basics.Cells.{owed_append, owed_above}
use Rattle.model.proofs.basics.Rings.{block_length}
use Rattle.model.proofs.one_slot.Rules.{Rules}
use Rattle.model.proofs.delay.Store.{ring-length}
use Rattle.model.proofs.delay.Line.{line, waiting, ring_values, first_append, drop-count, line_youngest}

-- 3. The request moves the front of its queue's waiting bytes to the line.
pub stream-length : (n : ℕ) (x : State) (store : List ℕ) (q : ℕ) → q < x.sizes.Q → store_bytes
    x.sizes ≤ length store
    → Rules n x → length (stream x store q) ≡ head_bytes x q + x.sizes.b * blocks x q
stream-length n x store q l h v =
    omega (
      arith,
      length-append (values_of q x.head) (ring_values x store q),
      ring-length x.sizes store q (ring_of x.rings q).first (ring_of x.rings q).count (v.firsts q l)
          (λ k m. block_length x.sizes store q k l m h),
    )

-- So the stream has a byte for every Owed cell.
pub owed_in_stream : (n : ℕ) (x : State) (store : List ℕ) → store_bytes x.sizes ≤ length store → Rules n x
    → (q : ℕ) → owed_cells x q ≤ length (stream x store q)
owed_in_stream n x store long v q =
    by_test (ltb q x.sizes.Q)
    (λ t. omega (
      arith,
      v.backed q (ltb-true q x.sizes.Q t),
      stream-length n x store q (ltb-true q x.sizes.Q t) long v,
    ))
    (λ t. omega (arith, owed_above x.sizes.Q x.cells q v.cells_below (ltb-false q x.sizes.Q t)))

pub record Asked (x : State) (request : Option ℕ) (store : List ℕ) : Type 0 where
  pub line_is : line (after_request request x) store ≡ line x store ++ next_byte_of (waiting x store) request ∷ []
  pub waiting_is : (q : ℕ) → waiting (after_request request x) store q ≡ drop (asks q request) (waiting x store q)
  pub byte_waits : (q : ℕ) → asks q request ≤ length (waiting x store q)

-- The request of one queue: `left` is what the Owed cells leave of each stream.
module _ (n : ℕ) (x : State) (q : ℕ) (store : List ℕ) (below : q < x.sizes.Q)
    (long : store_bytes x.sizes ≤ length store) (v : Rules n x) where
  abbrev left : ℕ → List ℕ
  left p = drop (owed_cells x p) (stream x store p)

  left-length : length (left q) ≡ head_bytes x q + x.sizes.b * blocks x q - owed_cells x q
  left-length =
      omega (arith, length-drop (owed_cells x q) (stream x store q), stream-length n x store q below long v)

  asked-owed : is_owed x q ≡ true → Asked x (some q) store
  asked-owed t = record {
    line_is = rw t (line_youngest (stream x store) x.cells (owed q)
        ∙ ap (λ (o : Option ℕ). line x store ++ as_byte q o ∷ [])
        (sym (first_append (left q) (values_of q x.tail) some_left)));
    waiting_is = λ p. rw t (moved p);
    byte_waits = at_queue_lem (λ p. choose (eqb q p) 1 0 ≤ length (left p ++ values_of p x.tail)) q
        (rw (eqb_same q) (omega (arith, length-append (left q) (values_of q x.tail), some_left)))
        (λ p u. rw u (omega arith));
  }
    where
      some_left : 1 ≤ length (left q)
      some_left = omega (arith, left-length, ltb-true (owed_cells x q) (head_bytes x q + x.sizes.b * blocks x q) t)

      more_owed : (p : ℕ) → owed_of p (x.cells ++ owed q ∷ []) ≡ owed_cells x p + choose (eqb q p) 1 0
      more_owed p = omega (arith, owed_append p x.cells (owed q ∷ []))

      moved : (p : ℕ)
          → drop (owed_of p (x.cells ++ owed q ∷ [])) (stream x store p) ++ values_of p x.tail
          ≡ drop (choose (eqb q p) 1 0) (left p ++ values_of p x.tail)
      moved =
          at_queue_lem (λ p. drop (owed_of p (x.cells ++ owed q ∷ [])) (stream x store p) ++ values_of p x.tail
          ≡ drop (choose (eqb q p) 1 0) (left p ++ values_of p x.tail)) q
          (rw (eqb_same q) (ap (λ (l : List ℕ). l ++ values_of q x.tail)
          (drop-count (owed_of q (x.cells ++ owed q ∷ [])) (owed_cells x q + 1) (stream x store q)
          (omega (arith, rw (eqb_same q) at (more_owed q)))
          ∙ sym (drop-drop 1 (owed_cells x q) (stream x store q)))
          ∙ sym (drop-append-le 1 (left q) (values_of q x.tail) some_left)))
          (λ p u. rw u (ap (λ (l : List ℕ). l ++ values_of p x.tail)
          (drop-count (owed_of p (x.cells ++ owed q ∷ [])) (owed_cells x p) (stream x store p)
          (omega (arith, rw u at (more_owed p))))))

  asked-held : is_owed x q ≡ false → 1 ≤ tail_bytes x q → Asked x (some q) store
  asked-held t there = record {
    line_is = rw t (line_youngest (stream x store) x.cells new
        ∙ ap (λ (l : List (Option Byte)). line x store ++ l) (line_held left (values_of q x.tail) there)
        ∙ ap (λ (l : List ℕ). line x store ++ as_byte q (get_elem? (l ++ values_of q x.tail) 0) ∷ []) (sym nothing));
    waiting_is = λ p. rw t (ap (λ (l : List ℕ). l ++ values_of p (without 1 q x.tail))
        (drop-count (owed_of p (x.cells ++ new ∷ [])) (owed_cells x p) (stream x store p)
        (omega (arith, owed_append p x.cells (new ∷ []), new_owes (values_of q x.tail) p)))
        ∙ moved p);
    byte_waits = at_queue_lem (λ p. choose (eqb q p) 1 0 ≤ length (left p ++ values_of p x.tail)) q
        (rw (eqb_same q) (omega (arith, length-append (left q) (values_of q x.tail), there)))
        (λ p u. rw u (omega arith));
  }
    where
      new : Cell
      new = held_cell q (get_elem? (values_of q x.tail) 0)

      new_owes : (vs : List ℕ) (p : ℕ) → owes p (held_cell q (get_elem? vs 0)) ≡ 0
      new_owes [] p = refl
      new_owes (v ∷ vs) p = refl

      line_held : (f : ℕ → List ℕ) (vs : List ℕ) → 1 ≤ length vs
          → line_of f (held_cell q (get_elem? vs 0) ∷ []) ≡ as_byte q (get_elem? vs 0) ∷ []
      line_held f [] h = absurd (omega arith)
      line_held f (v ∷ vs) h = refl

      nothing : left q ≡ []
      nothing =
          drop_of_length-le (stream x store q) {i = owed_cells x q}
          (omega (
            arith,
            stream-length n x store q below long v,
            ltb-false (owed_cells x q) (head_bytes x q + x.sizes.b * blocks x q) t,
          ))

      moved : (p : ℕ) → left p ++ values_of p (without 1 q x.tail) ≡ drop (choose (eqb q p) 1 0)
          (left p ++ values_of p x.tail)
      moved =
          at_queue_lem (λ p. left p ++ values_of p (without 1 q x.tail)
          ≡ drop (choose (eqb q p) 1 0) (left p ++ values_of p x.tail)) q
          (rw (eqb_same q, nothing) (values-without_same 1 q x.tail))
          (λ p u. rw u (ap (λ (l : List ℕ). left p ++ l) (values-without_other 1 q p x.tail u)))

pub asked_is : (n : ℕ) (x : State) (request : Option ℕ) (store : List ℕ)
    → ((q : ℕ) → request ≡ some q → (q < x.sizes.Q) × (is_owed x q ≡ false → 1 ≤ tail_bytes x q))
    → store_bytes x.sizes ≤ length store → Rules n x → Asked x request store
asked_is n x none store f long v = record {
  line_is = line_youngest (stream x store) x.cells empty;
  waiting_is = λ q. ap (λ (l : List ℕ). l ++ values_of q x.tail)
      (drop-count (owed_of q (x.cells ++ empty ∷ [])) (owed_cells x q) (stream x store q)
      (omega (arith, owed_append q x.cells (empty ∷ []))));
  byte_waits = λ q. omega arith;
}
asked_is n x (some q) store f long v =
    by_test (is_owed x q)
    (λ t. asked-owed n x q store (f q refl).0 long v t)
    (λ t. asked-held n x q store (f q refl).0 long v t ((f q refl).1 t))
