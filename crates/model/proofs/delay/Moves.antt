-- Step 4 on the ideal buffer: the two moves change nothing, because a write puts at a stream's end what it takes from
-- the tail's front, and a read moves a block within its stream. `line_written`, `waiting_written` and `stream-read`
-- say it.
use mathlib.Core.Path.{◌≡◌, ap, sym, ◌∙◌, fun_ext}
use mathlib.Core.Bool.{Bool, false}
use mathlib.Core.List.{List, [], ◌++◌, append_assoc, append-nil}
use mathlib.Core.Option.{some}
use Prim.Native.Nat.{ℕ, zero, suc, ◌+◌, ◌-◌, ◌*◌, ◌<◌, ◌≤◌, ◌%◌}
use native.Mathlib.Omega.{arith}
use native.Mathlib.Nat.{mod-lt}
use lib.Dec.{eqb, ltb}
use lib.ListN.{length, drop, take, length-take, take-append-drop, get_or-eq_default}
use lib.Seq.{drop-append-le}
use borrow.Author.Tests.{eqb-false, ltb-true, ltb-false}
use Rattle.model.specs.Basics.{choose}
use Rattle.model.specs.Sizes.{store_bytes}
use Rattle.model.specs.State.{Ring, ring, State, values_of, tail_bytes, owed_cells, ring_of, blocks}
use Rattle.model.specs.Slot.{without, next_block, after_write, store_written, block_at, bytes_for, after_read}
use Rattle.model.specs.Ideal.{ring_bytes, stream, line_of}
use Rattle.model.proofs.basics.Tests.{by_test, at_queue_lem, eqb_same}
use Rattle.model.proofs.basics.Bytes.{values-append, values-for_same, values-for_other, values-without_same}
use Rattle.model.proofs.basics.Bytes.{values-without_other}
use Rattle.model.proofs.basics.Rings.{ring-set_same, ring-set_other, place_fits, fewer_blocks}
use Rattle.model.proofs.one_slot.Rules.{Rules}
use Rattle.model.proofs.delay.Store.{ring-places_apart, ring-longer, ring-same, block_written, block_untouched}
use Rattle.model.proofs.delay.Store.{block_numbers_apart}
use Rattle.model.proofs.delay.Line.{line, waiting, ring_values, line_longer}
use Rattle.model.proofs.delay.Request.{owed_in_stream}

-- 4. The write: the block leaves the tail's front and joins the stream's end, and no other block changes.
first_in_range_lem : (n : ℕ) (x : State) (q : ℕ) → Rules n x → 1 ≤ x.sizes.K → (ring_of x.rings q).first < x.sizes.K
first_in_range_lem n x q v h =
    by_test (ltb q x.sizes.Q)
    (λ t. v.firsts q (ltb-true q x.sizes.Q t))
    (λ t. rw (get_or-eq_default x.rings (ring 0 0) {n = q}
    (omega (arith, v.rings_long, ltb-false q x.sizes.Q t))) h)

module _ (n : ℕ) (x : State) (q : ℕ) (store : List ℕ) (taken : (q < x.sizes.Q) × (x.sizes.b ≤ tail_bytes x q))
    (pos : 1 ≤ x.sizes.b) (long : store_bytes x.sizes ≤ length store) (v : Rules n x) where
  abbrev values : List ℕ
  values = take x.sizes.b (values_of q x.tail)

  abbrev old : Ring
  old = ring_of x.rings q

  abbrev new : Ring
  new = ring old.first (old.count + 1)

  abbrev place : ℕ
  place = next_block x q

  abbrev store' : List ℕ
  store' = store_written (some q) x store

  abbrev x' : State
  x' = after_write (some q) x

  K-positive : 1 ≤ x.sizes.K
  K-positive = omega (arith, v.firsts q taken.0)

  values-long : length values ≡ x.sizes.b
  values-long = omega (arith, length-take x.sizes.b (values_of q x.tail), taken.1)

  place_in_range : place < x.sizes.K
  place_in_range = mod-lt (old.first + old.count) K-positive

  block_fits : (q * x.sizes.K + place) * x.sizes.b + x.sizes.b ≤ length store
  block_fits = omega (
    arith,
    long,
    place_fits x.sizes.Q x.sizes.K x.sizes.b q place
        taken.0 place_in_range,
  )

  place_free : old.count < x.sizes.K
  place_free =
      fewer_blocks (tail_bytes x q) x.sizes.b old.count x.sizes.K pos taken.1 (v.room q taken.0)

  block_kept : (p k : ℕ) → k < x.sizes.K → ((p ≡ q) × (k ≡ place) → ⊥)
      → block_at x.sizes store' p k ≡ block_at x.sizes store p k
  block_kept p k l apart =
      block_untouched x.sizes.b (q * x.sizes.K + place) values store values-long block_fits (p * x.sizes.K + k)
      (λ e. apart (block_numbers_apart x.sizes.K p k q place l place_in_range e))

  -- The stream of q has the block at its end; the others are as they were.
  abbrev joins : ℕ → List ℕ
  joins p = choose (eqb q p) values []

  grown-here : stream x' store' q ≡ stream x store q ++ values
  grown-here =
      rw (ring-set_same x.rings q new (omega (arith, v.rings_long, taken.0)))
      (ap (λ (r : List ℕ). values_of q x.head ++ r)
      (ring-longer x.sizes store' q old.first old.count (v.firsts q taken.0)
      ∙ ap (λ (r : List ℕ). r ++ block_at x.sizes store' q place) kept
      ∙ ap (λ (r : List ℕ). ring_values x store q ++ r)
      (block_written x.sizes.b (q * x.sizes.K + place) values store values-long block_fits))
      ∙ sym (append_assoc (values_of q x.head) (ring_values x store q) values))
    where
      kept : ring_bytes x.sizes store' q old.first old.count ≡ ring_values x store q
      kept =
          ring-same x.sizes store store' q old.first old.count (v.firsts q taken.0)
          (λ i k. block_kept q ((old.first + i) % x.sizes.K) (mod-lt (old.first + i) K-positive)
          (λ e. ring-places_apart x.sizes.K old.first i old.count (v.firsts q taken.0) k place_free
          e.1))

  same-elsewhere : (p : ℕ) → eqb q p ≡ false → stream x' store' p ≡ stream x store p
  same-elsewhere p t =
      rw (ring-set_other x.rings q p new t)
      (ap (λ (r : List ℕ). values_of p x.head ++ r)
      (ring-same x.sizes store store' p first (ring_of x.rings p).count (first_in_range_lem n x p v K-positive)
      (λ i k. block_kept p ((first + i) % x.sizes.K) (mod-lt (first + i) K-positive)
      (λ e. eqb-false q p t (sym e.0)))))
    where
      first : ℕ
      first = (ring_of x.rings p).first

  grown : (p : ℕ) → stream x' store' p ≡ stream x store p ++ joins p
  grown =
      at_queue_lem (λ p. stream x' store' p ≡ stream x store p ++ joins p) q
      (rw (eqb_same q) grown-here)
      (λ p t. ap (λ (l : List ℕ). l) (same-elsewhere p t) ∙ sym (append-nil (stream x store p)) ∙ nothing p t)
    where
      nothing : (p : ℕ) → eqb q p ≡ false → stream x store p ++ [] ≡ stream x store p ++ joins p
      nothing p t = ap (λ (b : Bool). stream x store p ++ choose b values []) (sym t)

  reach : (p : ℕ) → owed_cells x p ≤ length (stream x store p)
  reach = owed_in_stream n x store long v

  pub line_written : line x' store' ≡ line x store
  line_written =
      ap (λ (f : ℕ → List ℕ). line_of f x.cells) (fun_ext grown) ∙ line_longer (stream x store) joins x.cells reach

  tail_joins : (p : ℕ) → joins p ++ values_of p (without x.sizes.b q x.tail) ≡ values_of p x.tail
  tail_joins =
      at_queue_lem (λ p. joins p ++ values_of p (without x.sizes.b q x.tail) ≡ values_of p x.tail) q
      (rw (eqb_same q, values-without_same x.sizes.b q x.tail)
      (take-append-drop x.sizes.b (values_of q x.tail)))
      (λ p t. rw (t, values-without_other x.sizes.b q p x.tail t))

  pub waiting_written : (p : ℕ) → waiting x' store' p ≡ waiting x store p
  waiting_written p =
      ap (λ (l : List ℕ). drop (owed_cells x p) l ++ values_of p x'.tail) (grown p)
      ∙ ap (λ (l : List ℕ). l ++ values_of p x'.tail)
      (drop-append-le (owed_cells x p) (stream x store p) (joins p) (reach p))
      ∙ append_assoc (drop (owed_cells x p) (stream x store p)) (joins p) (values_of p x'.tail)
      ∙ ap (λ (l : List ℕ). drop (owed_cells x p) (stream x store p) ++ l) (tail_joins p)

-- 4. The read: the block at the ring's front becomes the end of the queue's head bytes.
module _ (n : ℕ) (x : State) (q : ℕ) (store : List ℕ) (taken : (q < x.sizes.Q) × (1 ≤ blocks x q))
    (v : Rules n x) where
  pub stream-read : (p : ℕ) → stream (after_read (some q) x store) store p ≡ stream x store p
  stream-read =
      at_queue_lem (λ p. stream (after_read (some q) x store) store p ≡ stream x store p) q
      (rw (
        ring-set_same x.rings q next (omega (arith, v.rings_long, taken.0)),
        values-append q x.head (bytes_for q block),
        values-for_same q block,
      )
      (append_assoc (values_of q x.head) block (ring_bytes x.sizes store q next.first next.count)
      ∙ ap (λ (r : List ℕ). values_of q x.head ++ r) (front ring₀.count taken.1)))
      (λ p t. rw (
        ring-set_other x.rings q p next t,
        values-append p x.head (bytes_for q block),
        values-for_other q p block t,
        append-nil (values_of p x.head),
      ))
    where
      ring₀ : Ring
      ring₀ = ring_of x.rings q

      next : Ring
      next = ring ((ring₀.first + 1) % x.sizes.K) (ring₀.count - 1)

      block : List ℕ
      block = block_at x.sizes store q ring₀.first

      front : (k : ℕ) → 1 ≤ k
          → block ++ ring_bytes x.sizes store q next.first (k - 1) ≡ ring_bytes x.sizes store q ring₀.first k
      front zero h = absurd (omega arith)
      front (suc k) h =
          ap (λ (i : ℕ). block ++ ring_bytes x.sizes store q next.first i)
          (let e : suc k - 1 ≡ k = omega arith in e)
