-- A block of arrivals for each queue in turn leaves each queue with its one block and nothing else, and so the rest
-- of the list meets an 8: the last byte of each block comes at phase b - 1, and its slot writes the block. `fill`
-- says it.
use mathlib.Core.Path.{◌≡◌, refl, ap, sym, ◌∙◌}
use mathlib.Core.Bool.{true, false}
use mathlib.Core.List.{List, [], ◌∷◌, ◌++◌, append_assoc, append-nil}
use mathlib.Core.Option.{Option, some, none}
use Prim.Native.Nat.{ℕ, zero, suc, ◌+◌, ◌-◌, ◌*◌, ◌<◌, ◌≤◌}
use native.Mathlib.Omega.{arith}
use native.Mathlib.Nat.{mul-le-mul_right}
use lib.Dec.{eqb, leb}
use lib.ListN.{length, drop, set, replicate, length-replicate}
use borrow.Author.Tests.{eqb-true, eqb-false, eq-eqb, ne_eqb, lt-leb}
use Rattle.model.specs.Basics.{choose, first_refusal}
use Rattle.model.specs.Sizes.{Sizes, Limits, span, tail_size, one_fewer}
use Rattle.model.specs.State.{Byte, byte, Cell, empty, Ring, ring, State, count_of, owed_of, tail_bytes, head_bytes}
use Rattle.model.specs.State.{ring_of, blocks}
use Rattle.model.specs.Slot.{Call, without, oldest_cell, moves, fullest, queue_to_write, after_write, queue_to_read}
use Rattle.model.specs.Slot.{after_read, after_phase, asked, wrote, halves_taken}
use Rattle.model.specs.Calls.{idles}
use Rattle.model.specs.Demand.{block_of_arrivals, fill_from, requests_from}
use Rattle.model.proofs.basics.Tests.{by_test, by_option, at_queue_lem, eqb_same}
use Rattle.model.proofs.basics.Sums.{sum_ones}
use Rattle.model.proofs.basics.Cells.{owed_empties}
use Rattle.model.proofs.meaning.Fullest.{fullest-some, fullest-none}
use Rattle.model.proofs.meaning.Scan.{scan_some}
use Rattle.model.proofs.basics.Rings.{ring-set_same, ring-set_other}
use Rattle.model.proofs.one_slot.Halves.{all_left}
use Rattle.model.proofs.one_slot.Accepted.{early_refusals}
use Rattle.model.proofs.one_slot.Kept.{read_scan}
use Rattle.model.proofs.missing.Slots.{Meets8, Runnable, state_after, store_after, span-and_queues, replicate-snoc}
use Rattle.model.proofs.missing.Slots.{cells_some, not-3, not-2, meets-later}
use Rattle.model.proofs.missing.Drain.{requests}

-- The queues below q have their block, and j bytes of queue q are in the tail.
pub record Filling (q j : ℕ) (x : State) : Type 0 where
  pub cells_are : x.cells ≡ replicate (span x.sizes) empty
  pub head_none : x.head ≡ []
  pub phase_is : x.phase ≡ j
  pub tail_is : x.tail ≡ replicate j (byte q 0)
  pub filled : (p : ℕ) → p < q → blocks x p ≡ 1
  pub to_come : (p : ℕ) → q ≤ p → blocks x p ≡ 0

-- Bytes that are all alike.
count_alike : (n q p : ℕ) → count_of p (replicate n (byte q 0)) ≡ choose (eqb q p) n 0
count_alike zero q p = by_test (eqb q p) (λ t. rw t) (λ t. rw t)
count_alike (suc n) q p =
    by_test (eqb q p)
    (λ t. rw t (ap suc (rw t at (count_alike n q p))))
    (λ t. rw t (rw t at (count_alike n q p)))

without-alike : (n q : ℕ) → without n q (replicate n (byte q 0)) ≡ []
without-alike zero q = refl
without-alike (suc n) q = rw (eqb_same q) (without-alike n q)

-- An empty lookahead, one slot on.
empties_shift : (n : ℕ) → 1 ≤ n → drop 1 (replicate n empty) ++ (empty ∷ []) ≡ replicate n empty
empties_shift zero l = absurd (omega (arith, l))
empties_shift (suc n) l = replicate-snoc n empty

oldest_empty : (n : ℕ) → oldest_cell (replicate n empty) ≡ empty
oldest_empty zero = refl
oldest_empty (suc n) = refl

-- One slot with an arrival of queue q.
module _ {limits : Limits} {q j : ℕ} {x : State} {store : List ℕ} (calls : List Call)
    (ready : Runnable limits x store) (below : q < x.sizes.Q) (v : Filling q j x) where
  abbrev call : Call
  call = record { arrival = some (byte q 0); request = none }

  abbrev y : State
  y = asked x call

  abbrev next : State
  next = state_after x store call

  abbrev next_store : List ℕ
  next_store = store_after x store call

  short : j < x.sizes.b
  short = omega (arith, v.phase_is, ready.kept.phase_ok)

  leaves_empty : oldest_cell x.cells ≡ empty
  leaves_empty = ap oldest_cell v.cells_are ∙ oldest_empty (span x.sizes)

  cells_after : y.cells ≡ replicate (span x.sizes) empty
  cells_after =
      ap (λ (cells : List Cell). drop 1 cells ++ (empty ∷ [])) v.cells_are
      ∙ empties_shift (span x.sizes) (cells_some ready)

  head_after : y.head ≡ []
  head_after = rw leaves_empty v.head_none

  tail_after : y.tail ≡ replicate (suc j) (byte q 0)
  tail_after =
      append-nil _ ∙ ap (λ (bytes : List Byte). bytes ++ (byte q 0 ∷ [])) v.tail_is ∙ replicate-snoc j (byte q 0)

  tail_count : (p : ℕ) → tail_bytes y p ≡ choose (eqb q p) (suc j) 0
  tail_count p = ap (count_of p) tail_after ∙ count_alike (suc j) q p

  -- The queue has room, and so has the tail.
  ring-room : eqb (tail_bytes x q + x.sizes.b * blocks x q) (x.sizes.K * x.sizes.b) ≡ false
  ring-room =
      ne_eqb (tail_bytes x q + x.sizes.b * blocks x q) (x.sizes.K * x.sizes.b)
      (λ e. omega (
        arith,
        e,
        short,
        ap (count_of q) v.tail_is,
        rw (eqb_same q) at (count_alike j q q),
        ap (λ (n : ℕ). x.sizes.b * n) (v.to_come q (omega arith)),
        mul-le-mul_right {m = 1} x.sizes.b some_block,
      ))
    where
      some_block : 1 ≤ x.sizes.K
      some_block = omega (arith, ready.kept.within.firsts q below)

  tail_room : leb (tail_size x.sizes) (length x.tail) ≡ false
  tail_room =
      lt-leb (tail_size x.sizes) (length x.tail)
      (omega (arith, short, ap length v.tail_is, length-replicate j (byte q 0)))

  all_taken : halves_taken x call ≡ call
  all_taken = all_left x call (rw ring-room) refl

  none_early : first_refusal (early_refusals (one_fewer limits) x store call) ≡ 0
  none_early =
      rw (
        not-3 ready,
        not-2 ready,
        lt-leb x.sizes.Q q below,
        ring-room,
        leaves_empty,
        tail_room,
      )

  none_read : queue_to_read (wrote x call) ≡ none
  none_read =
      by_option (queue_to_read (wrote x call)) (λ e. e)
      (λ p e. absurd (omega (
        arith,
        ap (owed_of p) cells_after,
        owed_empties (span x.sizes) p,
        scan_some (head_bytes (wrote x call)) y.cells p (read_scan (wrote x call) p e),
      )))

  -- It is accepted with nothing to read, and the write decides what it leaves.
  arrived : (o : Option ℕ) (p i : ℕ) → queue_to_write y ≡ o
      → Filling p i (after_phase (after_read none (after_write o y) next_store))
      → (Runnable limits next next_store → Filling p i next → Meets8 limits next next_store calls)
      → Meets8 limits x store (call ∷ calls)
  arrived o p i e w rest =
      meets-later ready call calls all_taken none_early (rw none_read) (λ r. rest r (rw (none_read, e) w))

  -- Not yet a block: nothing is written.
  more_bytes : suc j < x.sizes.b
      → (Runnable limits next next_store → Filling q (suc j) next → Meets8 limits next next_store calls)
      → Meets8 limits x store (call ∷ calls)
  more_bytes l =
      arrived none q (suc j) (rw no_move) (record {
        cells_are = cells_after;
        head_none = head_after;
        phase_is = rw no_move (omega (arith, v.phase_is));
        tail_is = tail_after;
        filled = v.filled;
        to_come = v.to_come;
      })
    where
      no_move : moves y ≡ false
      no_move = ne_eqb x.phase (x.sizes.b - 1) (λ e. omega (arith, e, l, v.phase_is))

  -- A block: it is written.
  last_byte : suc j ≡ x.sizes.b
      → (Runnable limits next next_store → Filling (suc q) 0 next → Meets8 limits next next_store calls)
      → Meets8 limits x store (call ∷ calls)
  last_byte l =
      arrived (some q) (suc q) 0 (rw move written) (record {
        cells_are = cells_after;
        head_none = head_after;
        phase_is = rw move;
        tail_is = rw (tail_after, ← l) (without-alike (suc j) q);
        filled = at_queue_lem (λ p. p < suc q → (ring_of (set x.rings q new) p).count ≡ 1) q
            (λ k. rw here (omega (arith, v.to_come q (omega arith))))
            (λ p t k. rw (ring-set_other x.rings q p new t) (v.filled p (omega (arith, k, eqb-false q p t))));
        to_come = at_queue_lem (λ p. suc q ≤ p → (ring_of (set x.rings q new) p).count ≡ 0) q
            (λ k. absurd (omega (arith, k)))
            (λ p t k. rw (ring-set_other x.rings q p new t) (v.to_come p (omega (arith, k))));
      })
    where
      new : Ring
      new = ring (ring_of x.rings q).first ((ring_of x.rings q).count + 1)

      here : ring_of (set x.rings q new) q ≡ new
      here = ring-set_same x.rings q new (omega (arith, ready.kept.within.rings_long, below))

      move : moves y ≡ true
      move = eq-eqb x.phase (x.sizes.b - 1) (omega (arith, l, v.phase_is))

      written : fullest x.sizes.b (tail_bytes y) x.sizes.Q ≡ some q
      written =
          by_option (fullest x.sizes.b (tail_bytes y) x.sizes.Q)
          (λ e. absurd (omega (
            arith,
            l,
            rw (eqb_same q) at (tail_count q),
            fullest-none x.sizes.b (tail_bytes y) x.sizes.Q e q below,
          )))
          (λ p e. by_test (eqb q p)
          (λ t. e ∙ ap (λ (i : ℕ). some i) (sym (eqb-true q p t)))
          (λ t. absurd (omega (
            arith,
            ready.block_two,
            rw t at (tail_count p),
            (fullest-some x.sizes.b (tail_bytes y) x.sizes.Q p e).has_block,
          ))))

-- A block of arrivals for queue q, i of them to come, and then the calls that the filled queue is ready for.
fill_block : (limits : Limits) (i j q : ℕ) (x : State) (store : List ℕ) (calls : List Call)
    → Runnable limits x store
    → Filling q j x
    → q < x.sizes.Q
    → i + j ≡ x.sizes.b
    → ((z : State) (stored : List ℕ) → z.sizes ≡ x.sizes
    → Runnable limits z stored → Filling (suc q) 0 z → Meets8 limits z stored calls)
    → Meets8 limits x store (block_of_arrivals i q ++ calls)
fill_block limits zero j q x store calls ready v below left rest =
    absurd (omega (arith, left, v.phase_is, ready.kept.phase_ok))
fill_block limits (suc zero) j q x store calls ready v below left rest =
    last_byte calls ready below v (omega (arith, left)) (λ r w. rest _ _ refl r w)
fill_block limits (suc (suc i)) j q x store calls ready v below left rest =
    more_bytes (block_of_arrivals (suc i) q ++ calls) ready below v (omega (arith, left))
    (λ r w. fill_block limits (suc i) (suc j) q _ _ calls r w below (omega (arith, left)) rest)

-- A block for each queue in turn, from queue q with n to come, then the requests and the idle slots.
abbrev rest_of : Sizes → List Call
rest_of s = requests_from 0 s.Q ++ idles (span s)

pub fill : (limits : Limits) (n q : ℕ) (x : State) (store : List ℕ)
    → Runnable limits x store
    → Filling q 0 x
    → n + q ≡ x.sizes.Q
    → Meets8 limits x store (fill_from x.sizes.b q n ++ rest_of x.sizes)
fill limits zero q x store ready v queues =
    requests limits x.sizes.Q 0 (span x.sizes) {gone = λ p. 0} ready
    (record {
      tail_none = v.tail_is;
      one_block = λ p l. omega (arith, ap (count_of p) v.head_none, ap (λ (n : ℕ). x.sizes.b * n) (one p l));
      blocks_left = omega (
        arith,
        v.phase_is,
        span-and_queues x.sizes ready.block_two,
        ap (λ (n : ℕ). x.sizes.b * n) (sum_ones x.sizes.Q (blocks x) one),
      );
    })
    (v.cells_are ∙ sym (append-nil (replicate (span x.sizes) empty)))
    (omega arith) (omega arith) (λ p. refl)
  where
    one : (p : ℕ) → p < x.sizes.Q → blocks x p ≡ 1
    one p l = v.filled p (omega (arith, queues, l))
fill limits (suc n) q x store ready v queues =
    rw (append_assoc (block_of_arrivals x.sizes.b q) (fill_from x.sizes.b (suc q) n) (rest_of x.sizes))
    (fill_block limits x.sizes.b 0 q x store (fill_from x.sizes.b (suc q) n ++ rest_of x.sizes) ready v
    (omega (arith, queues)) (omega arith)
    (λ z stored same r w.
    rw (← same) (fill limits n (suc q) z stored r w (omega (arith, queues, ap (λ (s : Sizes). s.Q) same)))))
