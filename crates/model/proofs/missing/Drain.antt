-- Where every queue has one block and nothing else, a request of each queue in turn and then idle slots meet an 8.
-- Moves come once in b slots and read one block at most, so a block is still in the store in the slot in which the
-- last byte is to leave; if no slot before answered 8, it is that byte's own, since a byte of every other queue has
-- left. `requests` says it.
use mathlib.Core.Path.{◌≡◌, refl, ap, sym, ◌∙◌}
use mathlib.Core.Bool.{true}
use mathlib.Core.List.{List, [], ◌∷◌, ◌++◌, append_assoc, append-nil}
use mathlib.Core.Option.{some, none}
use Prim.Native.Nat.{ℕ, zero, suc, ◌+◌, ◌*◌, ◌<◌, ◌≤◌}
use native.Mathlib.Omega.{arith}
use native.Mathlib.Nat.{zero-add, suc-add, mul-le-mul_left}
use lib.Dec.{eqb}
use lib.ListN.{drop, replicate}
use borrow.Author.Tests.{eqb-true, eqb-false, eq-eqb, ne_eqb, lt-ltb, lt-leb}
use Rattle.model.specs.Sizes.{Limits, span}
use Rattle.model.specs.State.{Cell, empty, owed, State, count_of, owed_of, head_bytes, owed_cells, blocks}
use Rattle.model.specs.Slot.{Call, oldest_cell, head_without, is_owed, youngest_cell, joined, leaves_uncovered}
use Rattle.model.specs.Calls.{idle, idles, request}
use Rattle.model.specs.Demand.{requests_from}
use Rattle.model.proofs.basics.Tests.{by_test, by_zero}
use Rattle.model.proofs.basics.Sums.{sum, sum_bound}
use Rattle.model.proofs.basics.Cells.{owed_append, owed_empties}
use Rattle.model.proofs.basics.Limits.{within_limits}
use Rattle.model.proofs.missing.Slots.{Meets8, Runnable, queues_in_span, not-3, not-2, meets-now}
use Rattle.model.proofs.missing.Draining.{Draining, no_block, drains_on}

-- Owed cells of n queues in turn, from queue k.
abbrev pub owed_row : ℕ → ℕ → List Cell
owed_row k zero = []
owed_row k (suc n) = owed k ∷ owed_row (suc k) n

row_snoc : (k n q : ℕ) → q ≡ k + n → owed_row k n ++ (owed q ∷ []) ≡ owed_row k (suc n)
row_snoc k zero q e = ap (λ (i : ℕ). owed i ∷ []) (let same : q ≡ k = omega (arith, e) in same)
row_snoc k (suc n) q e = ap (λ (cells : List Cell). owed k ∷ cells) (row_snoc (suc k) n q (omega (arith, e)))

row_owes : (k n q : ℕ) → k + n ≤ q → owed_of q (owed_row k n) ≡ 0
row_owes k zero q l = refl
row_owes k (suc n) q l =
    rw (ne_eqb k q (λ e. omega (arith, e))) (omega (arith, row_owes (suc k) n q (omega arith)))

-- An idle slot: the oldest cell leaves, and an empty one is the youngest.
cells_idle : (cells : List Cell) (cell : Cell) (rest younger : List Cell)
    → cells ≡ (cell ∷ rest) ++ younger
    → drop 1 cells ++ (empty ∷ []) ≡ rest ++ (younger ++ (empty ∷ []))
cells_idle cells cell rest younger e =
    ap (λ (c : List Cell). drop 1 c ++ (empty ∷ [])) e ∙ append_assoc rest younger (empty ∷ [])

-- A queue of which a byte is in the head, or gone, has had its block read. Where all have, the last byte has left.
all_read : (gone : ℕ → ℕ) (i : ℕ) (x : State) → Draining gone i x
    → ((q : ℕ) → q < x.sizes.Q → 1 ≤ head_bytes x q + gone q)
    → i ≡ 0
all_read gone i x v h = omega (arith, v.blocks_left, mul-le-mul_left x.sizes.b no_blocks)
  where
    no_blocks : sum x.sizes.Q (blocks x) ≤ x.sizes.Q * 0
    no_blocks =
        sum_bound x.sizes.Q 0 (blocks x)
        (λ q l. omega (
          arith,
          no_block x.sizes.b (head_bytes x q + gone q) (blocks x q) (h q l)
              (omega (arith, v.one_block q l)),
        ))

-- An idle slot in which an Owed cell leaves that no head byte covers answers 8.
uncovered-now : {limits : Limits} {x : State} {store : List ℕ} (calls : List Call) → Runnable limits x store
    → leaves_uncovered (oldest_cell x.cells) x ≡ true
    → Meets8 limits x store (idle ∷ calls)
uncovered-now calls ready e =
    meets-now ready idle calls (rw (not-3 ready, not-2 ready, e))

-- Idle slots, i to the one in which the last Owed cell leaves: it answers 8 if none before it does. The cells are e
-- empty ones, then the Owed cells of the queues from k, then younger ones.
drain : (limits : Limits) (i e k n : ℕ) (younger : List Cell) {gone : ℕ → ℕ} {x : State} {store : List ℕ}
    → Runnable limits x store
    → Draining gone i x
    → x.cells ≡ (replicate e empty ++ owed_row k (suc n)) ++ younger
    → suc n + k ≡ x.sizes.Q
    → e + suc n ≡ i
    → ((q : ℕ) → q < k → 1 ≤ gone q)
    → Meets8 limits x store (idles i)
drain limits zero e k n younger {gone} {x} {store} ready v cells_are queues left out = absurd (omega (arith, left))
drain limits (suc i) (suc e) k n younger {gone} {x} {store} ready v cells_are queues left out =
    drains_on none (idles i) ready v refl refl (rw (ap oldest_cell cells_are))
    (λ r w. drain limits i e k n _ r w
    (cells_idle x.cells empty (replicate e empty ++ owed_row k (suc n)) younger cells_are)
    queues (omega (arith, left)) (λ q l. omega (arith, out q l)))
drain limits (suc i) zero k zero younger {gone} {x} {store} ready v cells_are queues left out =
    by_zero (head_bytes x k)
    (λ z. uncovered-now (idles i) ready (rw (ap oldest_cell cells_are) (eq-eqb (head_bytes x k) 0 z)))
    (λ u. absurd (omega (
      arith,
      all_read gone (suc i) x v
          (λ q l. by_test (eqb k q)
          (λ same. omega (arith, ap (head_bytes x) (eqb-true k q same)))
          (λ other. omega (arith, out q (omega (arith, queues, l, eqb-false k q other))))),
    )))
drain limits (suc i) zero k (suc n) younger {gone} {x} {store} ready v cells_are queues left out =
    by_zero (head_bytes x k)
    (λ z. uncovered-now (idles i) ready (rw (ap oldest_cell cells_are) (eq-eqb (head_bytes x k) 0 z)))
    (λ u. drains_on none (idles i) ready v refl refl
    (rw (ap oldest_cell cells_are) (ne_eqb (head_bytes x k) 0 (λ z. omega (arith, u, z))))
    (λ r w. drain limits i zero (suc k) n _ r w
    (cells_idle x.cells (owed k) (owed_row (suc k) (suc n)) younger cells_are)
    (omega (arith, queues)) (omega (arith, left))
    (λ q l. by_test (eqb k q)
    (λ same. rw (ap oldest_cell cells_are, same) (omega arith))
    (λ other. omega (arith, out q (omega (arith, l, eqb-false k q other)))))))

-- A request of each queue in turn, from queue k with n to come, and then the idle slots.
pub requests : (limits : Limits) (n k e : ℕ) {gone : ℕ → ℕ} {x : State} {store : List ℕ}
    → Runnable limits x store
    → Draining gone (n + span x.sizes) x
    → x.cells ≡ replicate e empty ++ owed_row 0 k
    → n + k ≡ x.sizes.Q
    → e + k ≡ span x.sizes
    → ((q : ℕ) → gone q ≡ 0)
    → Meets8 limits x store (requests_from k n ++ idles (span x.sizes))
requests limits zero zero e {gone} {x} {store} ready v cells_are queues room none-gone =
    absurd (omega (arith, queues, (within_limits limits x.sizes ready.kept.sizes-ok).q_low))
requests limits zero (suc k) e {gone} {x} {store} ready v cells_are queues room none-gone =
    drain limits (span x.sizes) e 0 k [] ready (rw zero-add at v) (cells_are ∙ sym (append-nil _))
    (omega (arith, queues)) room (λ q l. absurd (omega (arith, l)))
requests limits (suc n) k zero {gone} {x} {store} ready v cells_are queues room none-gone =
    absurd (omega (arith, queues, room, queues_in_span x.sizes ready.block_two))
requests limits (suc n) k (suc e) {gone} {x} {store} ready v cells_are queues room none-gone =
    drains_on (some k) (requests_from (suc k) n ++ idles (span x.sizes))
    ready (rw suc-add at v) (lt-leb x.sizes.Q k below) (rw owed_now) (rw (ap oldest_cell cells_are))
    (λ r w. requests limits n (suc k) e r w cells_next (omega (arith, queues)) (omega (arith, room))
    (λ q. rw (ap oldest_cell cells_are) (omega (arith, none-gone q))))
  where
    below : k < x.sizes.Q
    below = omega (arith, queues)

    y : State
    y = joined x (request k)

    none_owed : owed_of k (replicate e empty ++ owed_row 0 k) ≡ 0
    none_owed =
        omega (arith, owed_append k (replicate e empty) (owed_row 0 k), owed_empties e k, row_owes 0 k k (omega arith))

    backed : 1 ≤ head_bytes x k + x.sizes.b * blocks x k
    backed = omega (arith, v.one_block k below, none-gone k, ready.block_two)

    owed_now : is_owed x k ≡ true
    owed_now =
        lt-ltb (owed_cells x k) (head_bytes x k + x.sizes.b * blocks x k)
        (omega (arith, backed, none_owed, ap (owed_of k) cells_are))

    owed_next : is_owed y k ≡ true
    owed_next =
        lt-ltb (owed_cells y k) (head_bytes y k + x.sizes.b * blocks x k)
        (omega (
          arith,
          backed,
          none_owed,
          ap (λ (c : List Cell). owed_of k (drop 1 c)) cells_are,
          ap (λ (c : List Cell). count_of k (head_without (oldest_cell c) x.head)) cells_are,
        ))

    cells_next : drop 1 x.cells ++ (youngest_cell y (some k) ∷ []) ≡ replicate e empty ++ owed_row 0 (suc k)
    cells_next =
        rw (owed_next, cells_are)
        (append_assoc (replicate e empty) (owed_row 0 k) (owed k ∷ [])
        ∙ ap (λ (cells : List Cell). replicate e empty ++ cells) (row_snoc 0 k k (omega arith)))
