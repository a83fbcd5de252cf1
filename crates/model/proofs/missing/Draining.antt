-- One slot of a list that drains the store, where every queue has had one block and nothing else: a slot that
-- refusals 6, 7 and 8 do not stop is accepted, writes nothing and reads one block at most. `drains_on` says it.
use mathlib.Core.Path.{◌≡◌, refl, ap, ◌∙◌}
use mathlib.Core.Bool.{Bool, false}
use mathlib.Core.List.{List, [], ◌∷◌, ◌++◌, append-nil}
use mathlib.Core.Option.{Option, some, none}
use Prim.Native.Nat.{ℕ, suc, ◌+◌, ◌-◌, ◌*◌, ◌<◌, ◌≤◌}
use native.Mathlib.Omega.{arith}
use native.Mathlib.Nat.{mul-le-mul_left}
use lib.Dec.{eqb}
use lib.ListN.{length}
use borrow.Author.Tests.{eqb-true, eqb-false, le-ltb}
use Rattle.model.specs.Basics.{choose, first_refusal}
use Rattle.model.specs.Sizes.{Limits, span, head_size, store_bytes, one_fewer}
use Rattle.model.specs.State.{Byte, Cell, empty, held, owed, State, count_of, owes, head_bytes, ring_of, blocks}
use Rattle.model.specs.Slot.{Call, oldest_cell, is_owed, tail_left, moves, queue_to_write, queue_to_read, block_at}
use Rattle.model.specs.Slot.{after_read, after_phase, joined, asked, wrote, wrote_store, request_unknown}
use Rattle.model.specs.Slot.{nothing_to_take, leaves_uncovered, head_full, halves_taken}
use Rattle.model.proofs.basics.Tests.{by_test, by_zero, by_option, at_queue_lem, eqb_same}
use Rattle.model.proofs.basics.Sums.{sum, sum-bound_zero, sum-shift}
use Rattle.model.proofs.basics.Bytes.{sum-counts, count_refilled}
use Rattle.model.proofs.basics.Rings.{ring-set_same, ring-set_other, block_length, times_pred}
use Rattle.model.proofs.one_slot.Rules.{Rules}
use Rattle.model.proofs.one_slot.MovesKeepRules.{ReadTaken}
use Rattle.model.proofs.one_slot.StepsKeepRules.{count_head_without}
use Rattle.model.proofs.one_slot.Halves.{all_left}
use Rattle.model.proofs.one_slot.Accepted.{early_refusals}
use Rattle.model.proofs.one_slot.Kept.{write_taken, read_taken}
use Rattle.model.proofs.missing.Slots.{Meets8, Runnable, state_after, store_after, span-and_queues, queues_in_span}
use Rattle.model.proofs.missing.Slots.{not-3, not-2, rules-to_read, store_to_read, meets-later}

-- The last byte is to leave in the ith slot from here, and `gone q` bytes of q have left.
-- `one_block`: the bytes of a queue's block are in the store, in the head or gone.
-- `blocks_left`: the store has as many blocks as moves are to come, one at the end of every b slots.
pub record Draining (gone : ℕ → ℕ) (i : ℕ) (x : State) : Type 0 where
  pub tail_none : x.tail ≡ []
  pub one_block : (q : ℕ) → q < x.sizes.Q → head_bytes x q + x.sizes.b * blocks x q + gone q ≡ x.sizes.b
  pub blocks_left : i + x.phase ≤ x.sizes.b * sum x.sizes.Q (blocks x)

-- A block in the store is b bytes.
block_bytes : (b n : ℕ) → 1 ≤ n → b ≤ b * n
block_bytes b n h = omega (arith, times_pred b n h)

pub no_block : (b h n : ℕ) → 1 ≤ h → h + b * n ≤ b → n ≡ 0
no_block b h n l e = by_zero n (λ z. z) (λ u. absurd (omega (arith, block_bytes b n u)))

-- Steps 4 and 5 of a slot that has nothing to write.
module _ {gone : ℕ → ℕ} {i n : ℕ} {z : State} (store : List ℕ) (long : store_bytes z.sizes ≤ length store)
    (rules : Rules n z) (v : Draining gone (suc i) z) where
  -- A read takes one block from its queue's ring, and the bytes stay the queue's.
  blocks-read : (q : ℕ) → q < z.sizes.Q → blocks (after_read (some q) z store) q ≡ blocks z q - 1
  blocks-read q l = rw (ring-set_same z.rings q _ (omega (arith, rules.rings_long, l)), blocks)

  blocks-unread : (q p : ℕ) → eqb q p ≡ false → blocks (after_read (some q) z store) p ≡ blocks z p
  blocks-unread q p u = rw (ring-set_other z.rings q p _ u, blocks)

  one_read : (o : Option ℕ) → ReadTaken z o
      → sum z.sizes.Q (blocks z) ≤ sum z.sizes.Q (blocks (after_read o z store)) + 1
  one_read none f = omega arith
  one_read (some q) f =
      omega (
        arith,
        sum-shift z.sizes.Q (blocks z) (blocks (after_read (some q) z store)) q 1 0 (f q refl).0
            (omega (arith, blocks-read q (f q refl).0, (f q refl).1))
            (blocks-unread q),
      )

  bytes-stay : (o : Option ℕ) → ReadTaken z o
      → (p : ℕ) → head_bytes (after_read o z store) p + z.sizes.b * blocks (after_read o z store) p
      ≡ head_bytes z p + z.sizes.b * blocks z p
  bytes-stay none f = λ p. refl
  bytes-stay (some q) f =
      at_queue_lem (λ p. head_bytes w p + b * blocks w p ≡ head_bytes z p + b * blocks z p) q
      (omega (
        arith,
        whole,
        times_pred b (blocks z q) (f q refl).1,
        ap (λ (k : ℕ). b * k) (blocks-read q (f q refl).0),
        rw (eqb_same q) at (count_refilled q q z.head block),
      ))
      (λ p u. omega (
        arith,
        ap (λ (k : ℕ). b * k) (blocks-unread q p u),
        rw u at (count_refilled q p z.head block),
      ))
    where
      w : State
      w = after_read (some q) z store

      b : ℕ
      b = z.sizes.b

      first : ℕ
      first = (ring_of z.rings q).first

      block : List ℕ
      block = block_at z.sizes store q first

      whole : length block ≡ b
      whole = block_length z.sizes store q first (f q refl).0 (rules.firsts q (f q refl).0) long

  -- The head takes the block: it has no byte of that queue, and b at most of every other.
  head_takes : 2 ≤ z.sizes.b → (o : Option ℕ) → ReadTaken z o → head_full z o ≡ false
  head_takes two none f = refl
  head_takes two (some q) f =
      le-ltb (head_size z.sizes) (length z.head + z.sizes.b)
      (omega (
        arith,
        span-and_queues z.sizes two,
        queues_in_span z.sizes two,
        sum-counts z.sizes.Q z.head rules.head_below,
        sum-bound_zero z.sizes.Q z.sizes.b (head_bytes z) q (f q refl).0
            (omega (arith, v.one_block q (f q refl).0, block_bytes z.sizes.b (blocks z q) (f q refl).1))
            (λ p l. omega (arith, v.one_block p l)),
      ))

  draining_on : Draining gone i (after_phase (after_read (queue_to_read z) z store))
  draining_on = record {
    tail_none = v.tail_none;
    one_block = λ q l. omega (arith, v.one_block q l, bytes-stay (queue_to_read z) taken q);
    blocks_left =
        by_test (moves z)
        (λ u. omega (
          arith,
          v.blocks_left,
          eqb-true z.phase (z.sizes.b - 1) u,
          mul-le-mul_left z.sizes.b (one_read (queue_to_read z) taken),
          ap (λ (t : Bool). choose t 0 (z.phase + 1)) u,
        ))
        (λ u. rw u (omega (arith, v.blocks_left)));
  }
    where
      taken : ReadTaken z (queue_to_read z)
      taken = read_taken n z rules

-- A leaving cell that is covered takes a byte that is there.
pub covered_byte : (x : State) (cell : Cell) (q : ℕ) → leaves_uncovered cell x ≡ false → owes q cell ≤ head_bytes x q
covered_byte x empty q e = omega arith
covered_byte x (held p v) q e = omega arith
covered_byte x (owed p) q e =
    at_queue_lem (λ i. choose (eqb p i) 1 0 ≤ head_bytes x i) p
    (rw (eqb_same p) (by_zero (head_bytes x p) (λ z. absurd (eqb-false (head_bytes x p) 0 e z)) (λ u. u)))
    (λ i u. rw u (omega arith)) q

none_taken : (x : State) (request : Option ℕ) → x.tail ≡ [] → tail_left x request ≡ []
none_taken x none e = e
none_taken x (some q) e = by_test (is_owed x q) (λ t. rw t e) (λ t. rw (t, e))

-- A slot without arrival that refusals 6, 7 and 8 do not stop is accepted, writes nothing, and drains on.
module _ {limits : Limits} {gone : ℕ → ℕ} {i : ℕ} {x : State} {store : List ℕ} (request : Option ℕ) (calls : List Call)
    (ready : Runnable limits x store) (v : Draining gone (suc i) x) where
  abbrev call : Call
  call = record { arrival = none; request = request }

  abbrev gone_after : ℕ → ℕ
  gone_after q = gone q + owes q (oldest_cell x.cells)

  pub drains_on : request_unknown x request ≡ false
      → nothing_to_take x none request ≡ false
      → leaves_uncovered (oldest_cell x.cells) x ≡ false
      → (Runnable limits (state_after x store call) (store_after x store call)
      → Draining gone_after i (state_after x store call)
      → Meets8 limits (state_after x store call) (store_after x store call) calls)
      → Meets8 limits x store (call ∷ calls)
  drains_on known there covered rest =
      meets-later ready call calls whole early
      (head_takes stored long rules draining ready.block_two (queue_to_read z) (read_taken _ z rules))
      (λ r. rest r (draining_on stored long rules draining))
    where
      early : first_refusal (early_refusals (one_fewer limits) x store call) ≡ 0
      early = rw (not-3 ready, not-2 ready, known, covered)

      whole : halves_taken x call ≡ call
      whole = all_left x call refl there

      y : State
      y = asked x call

      z : State
      z = wrote x call

      stored : List ℕ
      stored = wrote_store x store call

      rules : Rules (span x.sizes) z
      rules = rules-to_read ready call calls whole early

      long : store_bytes x.sizes ≤ length stored
      long = store_to_read ready call calls whole early

      draining_asked : Draining gone_after (suc i) y
      draining_asked = record {
        tail_none = append-nil _
            ∙ none_taken (joined x call) request (ap (λ (bytes : List Byte). bytes ++ []) v.tail_none);
        one_block = λ q l. omega (
          arith,
          v.one_block q l,
          count_head_without (oldest_cell x.cells) x.head q,
          covered_byte x (oldest_cell x.cells) q covered,
        );
        blocks_left = v.blocks_left;
      }

      nothing-to_write : queue_to_write y ≡ none
      nothing-to_write =
          by_option (queue_to_write y) (λ e. e)
          (λ q e. absurd (omega (
            arith,
            (write_taken y q e).1,
            ready.block_two,
            ap (count_of q) draining_asked.tail_none,
          )))

      draining : Draining gone_after (suc i) z
      draining = rw nothing-to_write draining_asked
