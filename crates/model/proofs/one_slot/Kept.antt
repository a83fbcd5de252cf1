-- An accepted slot keeps the rules of the state and the store's length. It rests on the refusals alone, so it holds
-- from every state that keeps the rules and for any number of cells. `slot_kept` says it.
use mathlib.Core.Path.{◌≡◌, refl, ap, sym, ◌∙◌, subst}
use mathlib.Core.Bool.{Bool, false}
use mathlib.Core.List.{List, [], ◌∷◌, ◌++◌}
use mathlib.Core.Option.{Option, some, none}
use Prim.Native.Nat.{ℕ, suc, ◌+◌, ◌-◌, ◌<◌, ◌≤◌}
use native.Mathlib.Omega.{arith}
use native.Mathlib.Nat.{mod-lt}
use lib.Dec.{ltb}
use lib.ListN.{length, take, drop, get_or, length-append, length-take, length-drop, get_or-append}
use lib.Seq.{get_or-append-add, get_or-take, get_or-drop}
use borrow.Author.Tests.{eqb-false, ltb-true, ltb-false}
use Rattle.model.specs.Basics.{choose}
use Rattle.model.specs.Sizes.{Design, tail_size, head_size, store_bytes, block_place}
use Rattle.model.specs.State.{Byte, Cell, empty, held, owed, State, values_of, tail_bytes, head_bytes, ring_of}
use Rattle.model.specs.Slot.{Call, oldest_cell, head_without, after_delivery, arriving, after_request, moves}
use Rattle.model.specs.Slot.{queue_to_write, swaps, early_arrival, late_arrival}
use Rattle.model.specs.Slot.{next_block, placed, tail_written, store_written, refill_queue, queue_to_read, block_at}
use Rattle.model.specs.Slot.{bytes_for, head_read, joined, asked, wrote, wrote_store, refilled, head_full, Answer}
use Rattle.model.specs.Slot.{carried_out, halves_taken, slot}
use Rattle.model.specs.Lists.{joined_fill_of}
use Rattle.model.proofs.basics.Tests.{by_test, none_not_some}
use Rattle.model.proofs.basics.Bytes.{length-for, length-without_le}
use Rattle.model.proofs.meaning.Fullest.{IsFullest, fullest-some}
use Rattle.model.proofs.meaning.Steps.{move_writes_fullest, no_move_no_write, move_reads_scan, no_move_no_read}
use Rattle.model.proofs.basics.Rings.{place_fits, block_length}
use Rattle.model.proofs.one_slot.Rules.{Rules, Keeps}
use Rattle.model.proofs.one_slot.MovesKeepRules.{WriteTaken, ReadTaken, rules-wrote, scan_taken, rules-read}
use Rattle.model.proofs.one_slot.MovesKeepRules.{rules-phase}
use Rattle.model.proofs.one_slot.StepsKeepRules.{rules-delivered, rules-arrived, rules-asked}
use Rattle.model.proofs.one_slot.Swap.{swap_looked_at, asked-no_longer, late_taken}
use Rattle.model.proofs.one_slot.Accepted.{Judged, Accepted, RefusedOrAccepted, was_refused, was_accepted}
use Rattle.model.proofs.one_slot.Accepted.{outcome}

-- A place of the store that a block is written to: the other bytes stay.
pub length-placed : (place : ℕ) (values store : List ℕ) → place + length values ≤ length store
    → length (placed place values store) ≡ length store
length-placed place values store h =
    omega (
      arith,
      length-append (take place store) (values ++ drop (place + length values) store),
      length-append values (drop (place + length values) store),
      length-take place store,
      length-drop (place + length values) store,
    )

pub placed-outside : (place : ℕ) (values store : List ℕ) → place + length values ≤ length store
    → (i : ℕ) → ((place ≤ i) × (i < place + length values) → ⊥)
    → get_or (placed place values store) i 0 ≡ get_or store i 0
placed-outside place values store h i out =
    by_test (ltb i place)
    (λ t. get_or-append front (values ++ back) 0 i (omega (arith, front_long, ltb-true i place t))
    ∙ get_or-take place store i 0 (ltb-true i place t))
    (λ t. past (i - (place + length values)) (split (ltb-false i place t)))
  where
    front : List ℕ
    front = take place store

    back : List ℕ
    back = drop (place + length values) store

    front_long : length front ≡ place
    front_long = omega (arith, length-take place store)

    split : place ≤ i → i ≡ place + length values + (i - (place + length values))
    split l =
        by_test (ltb i (place + length values))
        (λ t. absurd (out (l, ltb-true i (place + length values) t)))
        (λ t. omega (arith, ltb-false i (place + length values) t))

    at_past : (k : ℕ) → i ≡ place + length values + k → i ≡ length front + (length values + k)
    at_past k e = omega (arith, front_long)

    past : (k : ℕ) → i ≡ place + length values + k → get_or (placed place values store) i 0 ≡ get_or store i 0
    past k e =
        ap (λ (j : ℕ). get_or (placed place values store) j 0) (at_past k e)
        ∙ get_or-append-add front (values ++ back) (length values + k) 0
        ∙ get_or-append-add values back k 0
        ∙ get_or-drop (place + length values) store k 0
        ∙ ap (λ (j : ℕ). get_or store j 0) (sym e)

-- Fills along a slot.
pub length-head_without : (c : Cell) (head : List Byte) → length (head_without c head) ≤ length head
length-head_without empty head = omega arith
length-head_without (held q v) head = omega arith
length-head_without (owed q) head = length-without_le 1 q head

pub length-tail_written : (x : State) (o : Option ℕ) → length (tail_written o x) ≤ length x.tail
length-tail_written x none = omega arith
length-tail_written x (some q) = length-without_le x.sizes.b q x.tail

pub length-joined : (x : State) (arrival : Option Byte)
    → length x.tail ≤ tail_size x.sizes
    → ((y : Byte) → arrival ≡ some y → length x.tail < tail_size x.sizes)
    → length (x.tail ++ arriving arrival) ≤ tail_size x.sizes
length-joined x none h f = omega (arith, length-append x.tail [])
length-joined x (some y) h f = omega (arith, length-append x.tail (y ∷ []), f y refl)

-- The queue that step 4 writes has a block's worth of tail bytes; the queue that it reads has a block.
pub write_taken : (y : State) → WriteTaken y (queue_to_write y)
write_taken y q e =
    by_test (moves y)
    (λ t. let f : IsFullest y.sizes.b (tail_bytes y) y.sizes.Q q
    = fullest-some y.sizes.b (tail_bytes y) y.sizes.Q q (sym (move_writes_fullest y t) ∙ e) in
    (f.below, f.has_block))
    (λ t. absurd (none_not_some q (sym (no_move_no_write y t) ∙ e)))

pub read_scan : (z : State) (q : ℕ) → queue_to_read z ≡ some q → refill_queue (head_bytes z) z.cells ≡ some q
read_scan z q e =
    by_test (moves z)
    (λ t. sym (move_reads_scan z t) ∙ e)
    (λ t. absurd (none_not_some q (sym (no_move_no_read z t) ∙ e)))

pub read_taken : (n : ℕ) (z : State) → Rules n z → ReadTaken z (queue_to_read z)
read_taken n z v q e = scan_taken n z v q (read_scan z q e)

-- The block that is written has b bytes, and its place is in the store.
module _ (n : ℕ) (y : State) (q : ℕ) (store : List ℕ) (taken : (q < y.sizes.Q) × (y.sizes.b ≤ tail_bytes y q))
    (v : Rules n y) (long : store_bytes y.sizes ≤ length store) where
  abbrev block_values : List ℕ
  block_values = take y.sizes.b (values_of q y.tail)

  pub values-long : length block_values ≡ y.sizes.b
  values-long = omega (arith, length-take y.sizes.b (values_of q y.tail), taken.1)

  pub values-fit : block_place y.sizes q (next_block y q) + length block_values ≤ length store
  values-fit =
      omega (
        arith,
        values-long,
        long,
        place_fits y.sizes.Q y.sizes.K y.sizes.b q (next_block y q) taken.0
            (mod-lt ((ring_of y.rings q).first + (ring_of y.rings q).count) (omega (arith, v.firsts q taken.0))),
      )

-- The write keeps the store's length.
pub store_length : (n : ℕ) (y : State) (o : Option ℕ) (store : List ℕ) → WriteTaken y o → Rules n y
    → store_bytes y.sizes ≤ length store → length (store_written o y store) ≡ length store
store_length n y none store f v h = refl
store_length n y (some q) store f v h =
    length-placed (block_place y.sizes q (next_block y q)) (take y.sizes.b (values_of q y.tail)) store
    (values-fit n y q store (f q refl) v h)

-- The rules along a slot: after each step, with n cells and one fewer between steps 1 and 3.
module _ (design : Design) (x : State) (store : List ℕ) (call : Call)
    (cells_ok : 1 ≤ design.cell_count x.sizes) (j : Judged design x store call) where
  abbrev pub cells_full : ℕ
  cells_full = design.cell_count x.sizes

  pub rules-1 : Rules (cells_full - 1) (after_delivery x)
  rules-1 =
      rules-delivered (cells_full - 1) x
      (subst (λ (n : ℕ). Rules n x) (let e : cells_full ≡ suc (cells_full - 1) = omega arith in e) j.kept.within)

  pub rules-2 : Rules (cells_full - 1) (joined x call)
  rules-2 = rules-arrived (cells_full - 1) (after_delivery x) (early_arrival x call) j.arrival_ok rules-1

  pub tail_joined : length (joined x call).tail ≤ tail_size x.sizes
  tail_joined = length-joined x (early_arrival x call) j.kept.tail_fits j.tail_room

  -- After the request, and after the byte that joins behind it.
  abbrev requested : State
  requested = after_request call.request (joined x call)

  rules-requested : Rules cells_full requested
  rules-requested =
      subst (λ (n : ℕ). Rules n requested) (let e : suc (cells_full - 1) ≡ cells_full = omega arith in e)
      (rules-asked (cells_full - 1) (joined x call) call.request j.request_ok rules-2)

  pub rules-3 : Rules cells_full (asked x call)
  rules-3 =
      rules-arrived cells_full requested (late_arrival x call) (late_taken x call j.covered j.arrival-known)
      rules-requested

  pub tail_asked_fits : length (asked x call).tail ≤ tail_size x.sizes
  tail_asked_fits = omega (arith, asked-no_longer x call j.covered, tail_joined)

  -- The tail as it is looked at.
  pub looked_at_fits : joined_fill_of 0 x call ≤ tail_size x.sizes
  looked_at_fits =
      by_test (swaps x call.arrival call.request)
      (λ t. omega (arith, swap_looked_at x call t j.covered, j.kept.tail_fits))
      (λ t. subst (λ (b : Bool). length (choose b (asked x call).tail (joined x call).tail) ≤ tail_size x.sizes)
      (sym t) tail_joined)

  pub rules-written : Rules cells_full (wrote x call)
  rules-written = rules-wrote cells_full (asked x call) (queue_to_write (asked x call))
      (write_taken (asked x call)) rules-3

  pub same_length : length (wrote_store x store call) ≡ length store
  same_length =
      store_length cells_full (asked x call) (queue_to_write (asked x call)) store (write_taken (asked x call)) rules-3
      j.store_long

  pub still_long : store_bytes x.sizes ≤ length (wrote_store x store call)
  still_long = omega (arith, same_length, j.store_long)

  pub rules-refilled : Rules cells_full (refilled x store call)
  rules-refilled =
      rules-read cells_full (wrote x call) (wrote_store x store call) still_long rules-written
      (queue_to_read (wrote x call)) (read_taken cells_full (wrote x call) rules-written)

  -- The block that is read has b bytes.
  pub block_whole : (q : ℕ) → queue_to_read (wrote x call) ≡ some q
      → length (block_at x.sizes (wrote_store x store call) q (ring_of (wrote x call).rings q).first) ≡ x.sizes.b
  block_whole q e =
      block_length x.sizes (wrote_store x store call) q (ring_of (wrote x call).rings q).first below
      (rules-written.firsts q below) still_long
    where
      below : q < x.sizes.Q
      below = (read_taken cells_full (wrote x call) rules-written q e).0

-- The head after the read: as it was, or b more.
head_read_long : (z : State) (store : List ℕ) (o : Option ℕ)
    → ((q : ℕ) → o ≡ some q → length (block_at z.sizes store q (ring_of z.rings q).first) ≡ z.sizes.b)
    → head_full z o ≡ false → length z.head ≤ head_size z.sizes
    → length (head_read o z store) ≤ head_size z.sizes
head_read_long z store none f e h = h
head_read_long z store (some q) f e h =
    omega (
      arith,
      ltb-false (head_size z.sizes) (length z.head + z.sizes.b) e,
      length-append z.head (bytes_for q block),
      length-for q block,
      f q refl,
    )
  where
    block : List ℕ
    block = block_at z.sizes store q (ring_of z.rings q).first

next_phase : (x : State) → x.phase < x.sizes.b → choose (moves x) 0 (x.phase + 1) < x.sizes.b
next_phase x h =
    by_test (moves x)
    (λ t. rw t (omega arith))
    (λ t. rw t (omega (arith, eqb-false x.phase (x.sizes.b - 1) t)))

-- What an answer keeps of the state and the store that it was handed.
pub record Kept (design : Design) (x : State) (store : List ℕ) (a : Answer) : Type 0 where
  pub kept : Keeps design a.state
  pub same-sizes : a.state.sizes ≡ x.sizes
  pub same_length : length a.store ≡ length store

module _ (design : Design) (x : State) (store : List ℕ) (call : Call)
    (cells_ok : 1 ≤ design.cell_count x.sizes) where
  pub carried_kept : {i j : ℕ} → Accepted design x store call → Kept design x store (carried_out i j x store call)
  carried_kept a = record {
    kept = record {
      sizes-ok = j.kept.sizes-ok;
      phase_ok = next_phase x j.kept.phase_ok;
      within = rules-phase (design.cell_count x.sizes) (refilled x store call)
          (rules-refilled design x store call cells_ok j);
      tail_fits = omega (arith, tail_low, asked-fits);
      head_fits = head_fits';
      tail_mark = (omega (arith, tail_low), omega (arith, joined-fits, asked-fits, j.kept.tail_mark));
      head_mark = (omega arith, omega (arith, head_fits', j.kept.head_mark));
      last_below = j.kept.last_below;
    };
    same-sizes = refl;
    same_length = same_length design x store call cells_ok j;
  }
    where
      j : Judged design x store call
      j = a.judged

      joined-fits : length (joined x call).tail ≤ tail_size x.sizes
      joined-fits = tail_joined design x store call cells_ok j

      asked-fits : length (asked x call).tail ≤ tail_size x.sizes
      asked-fits = tail_asked_fits design x store call cells_ok j

      tail_low : length (wrote x call).tail ≤ length (asked x call).tail
      tail_low = length-tail_written (asked x call) (queue_to_write (asked x call))

      head_fits' : length (refilled x store call).head ≤ head_size x.sizes
      head_fits' =
          head_read_long (wrote x call) (wrote_store x store call) (queue_to_read (wrote x call))
          (block_whole design x store call cells_ok j) a.head_room
          (omega (arith, length-head_without (oldest_cell x.cells) x.head, j.kept.head_fits))

-- Accepted or refused, a slot on a state that keeps the rules leaves one that does.
module _ (design : Design) (x : State) (store : List ℕ) (call : Call)
    (cells_ok : 1 ≤ design.cell_count x.sizes) where
  pub slot_kept : Keeps design x → Kept design x store (slot design x store call)
  slot_kept v = go (slot design x store call) (outcome design x store call)
    where
      go : (a : Answer) → RefusedOrAccepted design x store call a → Kept design x store a
      go a (was_refused n e) = record { kept = v; same-sizes = refl; same_length = refl }
      go a (was_accepted f) = carried_kept design x store (halves_taken x call) cells_ok f
