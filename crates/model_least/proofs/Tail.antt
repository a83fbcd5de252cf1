-- The tail's list fills it: b - 1 bytes of every queue in turn, of which none can be written, and then b bytes before
-- the next write make Q(b - 1) + b.
use mathlib.Core.Path.{◌≡◌, refl, ap, subst}
use mathlib.Core.Bool.{Bool, true, false}
use mathlib.Core.List.{List, [], ◌∷◌, ◌++◌, append-nil, append_assoc}
use Prim.Native.Nat.{ℕ, zero, suc, ◌+◌, ◌-◌, ◌*◌, ◌<◌, ◌≤◌}
use native.Mathlib.Omega.{arith}
use native.Mathlib.Nat.{mul-le-mul_right}
use lib.Dec.{leb}
use lib.ListN.{length, length-append}
use borrow.Author.Tests.{eq-eqb, ne_eqb, leb-true, le-leb}
use Rattle.model.specs.Basics.{choose}
use Rattle.model.specs.Sizes.{Sizes, Limits, accepts, span, tail_size, store_bytes, full}
use Rattle.model.specs.State.{Byte, byte, State, fresh, count_of, tail_bytes, blocks}
use Rattle.model.specs.Slot.{Call, moves, joined}
use Rattle.model.specs.Calls.{arrival, idles}
use Rattle.model.specs.Demand.{block_of_arrivals}
use Rattle.model.proofs.basics.Tests.{by_test}
use Rattle.model.proofs.basics.Sums.{sum, sum-zero}
use Rattle.model.proofs.basics.Bytes.{count_append, count_one_same, count_one_other, sum-counts}
use Rattle.model.proofs.basics.Limits.{Within, within_limits}
use Rattle.model_least.specs.Least.{short_from, last_queue, last_from, tail_fills, TailFills}
use Rattle.model_least.proofs.Slots.{Reaches, Ready, state_after, store_after, Allowed, ready_after, reaches_now}
use Rattle.model_least.proofs.Slots.{reaches_later}
use Rattle.model_least.proofs.Figures.{Figures, figures, Shows}
use Rattle.model_least.proofs.Calls.{queues_are, block_is, arrival-allowed}
use Rattle.model_least.proofs.Rounds.{Onward, short-round}
use Rattle.model_least.proofs.Turns.{in_turn, Turn, turn_begins, turn_ends, turn_calm, all_done, turns_over}
use Rattle.model_least.proofs.Turns.{untouched, turns_fresh, sum-add}

-- A queue with one byte less than a block, all in the tail.
abbrev near_block : Sizes → Figures
near_block s = figures (s.b - 1) 0 0 0

-- i of the last b bytes have come. `light`: a queue of which a byte is to come has b - 1, and those that came of it.
record Topping (limits : Limits) (s : Sizes) (i : ℕ) (x : State) (store : List ℕ) : Type 0 where
  ready : Ready limits s x store
  phase_is : x.phase ≡ i
  fill_is : length x.tail ≡ span s + i
  no_block : (p : ℕ) → p < s.Q → blocks x p ≡ 0
  light : (k : ℕ) → i ≤ k → k < s.b → tail_bytes x (last_queue s k) ≤ s.b - 1 + choose (leb 2 s.K) i 0

-- One byte more: of the same queue, or of another.
light_on : (two : Bool) (i k most : ℕ) (tail : List Byte) → i < k
    → count_of (choose two 0 k) tail ≤ most + choose two i 0
    → count_of (choose two 0 k) (tail ++ (byte (choose two 0 i) 0 ∷ [])) ≤ most + choose two (suc i) 0
light_on true i k most tail l h =
    omega (arith, h, count_append 0 tail (byte 0 0 ∷ []), count_one_same (byte 0 0))
light_on false i k most tail l h =
    omega (
      arith,
      h,
      count_append k tail (byte i 0 ∷ []),
      count_one_other (byte i 0) k (ne_eqb i k (λ e. omega (arith, e, l))),
    )

module _ (limits : Limits) (s : Sizes) (block : 1 ≤ s.b) (ring : 1 ≤ s.K)
    (known : (k : ℕ) → k < s.b → last_queue s k < s.Q) where
  -- Their queues' rings have room for them.
  room : (i : ℕ) → i < s.b → s.b - 1 + choose (leb 2 s.K) i 0 < s.K * s.b
  room i l =
      by_test (leb 2 s.K)
      (λ t. rw t (omega (arith, l, mul-le-mul_right {m = 2} s.b (leb-true 2 s.K t))))
      (λ t. rw t (omega (arith, block, mul-le-mul_right {m = 1} s.b ring)))

  module _ (i : ℕ) (x : State) (store : List ℕ) (l : i < s.b) (v : Topping limits s i x store) where
    abbrev call : Call
    call = arrival (last_queue s i) 0

    allowed : Allowed x call
    allowed =
        arrival-allowed limits s x store v.ready (last_queue s i) (known i l)
        (v.no_block (last_queue s i) (known i l))
        (omega (arith, v.light i (omega arith) l, room i l))

    topping_on : suc i < s.b → Topping limits s (suc i) (state_after x store call) (store_after x store call)
    topping_on k = record {
      ready = ready_after limits s x store v.ready call allowed;
      phase_is = rw no_move (omega (arith, v.phase_is));
      fill_is = omega (arith, v.fill_is, ap length tail_after, length-append x.tail (byte (last_queue s i) 0 ∷ []));
      no_block = λ p h. rw no_move (v.no_block p h);
      light = λ j h m. omega (
        arith,
        ap (count_of (last_queue s j)) tail_after,
        light_on (leb 2 s.K) i j (s.b - 1) x.tail (omega (arith, h)) (v.light j (omega (arith, h)) m),
      );
    }
      where
        no_move : moves x ≡ false
        no_move =
            ne_eqb x.phase (x.sizes.b - 1)
            (λ e. omega (arith, e, k, v.phase_is, block_is limits s x store v.ready))

        tail_after : (state_after x store call).tail ≡ x.tail ++ (byte (last_queue s i) 0 ∷ [])
        tail_after = rw no_move (append-nil _)

    full-tail : suc i ≡ s.b → length (joined x call).tail ≡ tail_size s
    full-tail e = omega (arith, e, v.fill_is, length-append x.tail (byte (last_queue s i) 0 ∷ []))

  top : (n i : ℕ) (x : State) (store : List ℕ) → suc n + i ≡ s.b → Topping limits s i x store
      → Reaches limits (tail_fills s) x store (last_from s i (suc n))
  top zero i x store left v =
      reaches_now limits s x store v.ready _ (allowed i x store (omega (arith, left)) v) (tail_fills s) []
      (eq-eqb _ (tail_size s) (full-tail i x store (omega (arith, left)) v (omega (arith, left))))
  top (suc n) i x store left v =
      reaches_later limits s x store v.ready _ (allowed i x store (omega (arith, left)) v) (tail_fills s)
      (last_from s (suc i) (suc n))
      (top n (suc i) _ _ (omega (arith, left))
      (topping_on i x store (omega (arith, left)) v (omega (arith, left))))

  -- The first part leaves each queue one byte short of a block.
  topping_starts : (x : State) (store : List ℕ) → Turn limits s (near_block s) untouched s.Q x store
      → Topping limits s 0 x store
  topping_starts x store v = record {
    ready = v.ready;
    phase_is = v.phase_is;
    fill_is = omega (
      arith,
      ap (λ (n : ℕ). sum n (tail_bytes x)) (queues_are limits s x store v.ready),
      sum-counts x.sizes.Q x.tail v.ready.good.kept.within.tail_below,
      sum-zero s.Q (λ q. 0) (λ q. refl),
      sum-add s.Q (s.b - 1) (λ q. 0) (tail_bytes x) (λ p l. omega (arith, (done p l).tail_is)),
    );
    no_block = λ p l. (done p l).blocks-are;
    light = λ k h l. omega (arith, (done (last_queue s k) (known k l)).tail_is);
  }
    where
      done : (p : ℕ) → p < s.Q → Shows (near_block s) x p
      done = all_done limits s (near_block s) untouched x store v

  shorten : (n q : ℕ) (x : State) (store : List ℕ) (calls : List Call)
      → n + q ≡ s.Q
      → Turn limits s (near_block s) untouched q x store
      → ((z : State) (stored : List ℕ) → Turn limits s (near_block s) untouched s.Q z stored
      → Reaches limits (tail_fills s) z stored calls)
      → Reaches limits (tail_fills s) x store (short_from s.b q n ++ calls)
  shorten zero q x store calls queues v rest =
      rest x store (turns_over limits s _ _ q x store queues v)
  shorten (suc n) q x store calls queues v rest =
      rw (append_assoc (block_of_arrivals (s.b - 1) q) (idles 1 ++ short_from s.b (suc q) n) calls)
      (short-round limits s (Reaches limits (tail_fills s)) onward q below (in_turn (near_block s) untouched q)
      (turn_calm limits s (near_block s) untouched q (omega (arith, block)) block refl refl) x store _
      (turn_begins limits s _ _ q x store below v)
      (λ z stored w. shorten n (suc q) z stored calls (omega (arith, queues)) (turn_ends limits s _ _ q z stored w)
      rest))
    where
      below : q < s.Q
      below = omega (arith, queues)

      onward : Onward limits s (Reaches limits (tail_fills s))
      onward y st call ready ok more = reaches_later limits s y st ready call ok (tail_fills s) more

  tail_reached : (store : List ℕ) → accepts limits s ≡ true → store_bytes s ≤ length store → TailFills limits s store
  tail_reached store e long =
      shorten s.Q 0 (fresh (full limits) s) store (last_from s 0 s.b) (omega arith)
      (turns_fresh limits s (near_block s) store e long)
      (λ z stored v. subst (λ (n : ℕ). Reaches limits (tail_fills s) z stored (last_from s 0 n))
      (let d : suc (s.b - 1) ≡ s.b = omega (arith, block) in d)
      (top (s.b - 1) 0 z stored (omega (arith, block)) (topping_starts z stored v)))

-- With a second block to a queue, all last bytes are of queue 0.
pub tail_fills_lem : (limits : Limits) (s : Sizes) (store : List ℕ) → accepts limits s ≡ true
    → store_bytes s ≤ length store → 2 ≤ s.K → TailFills limits s store
tail_fills_lem limits s store e long two =
    tail_reached limits s sizes-ok.b_low sizes-ok.k_low
    (λ k l. rw (le-leb 2 s.K two) sizes-ok.q_low) store e long
  where
    sizes-ok : Within limits s
    sizes-ok = within_limits limits s e

-- With as many queues as a block has bytes, there is a queue for each of them.
pub tail_fills_by_queues : (limits : Limits) (s : Sizes) (store : List ℕ) → accepts limits s ≡ true
    → store_bytes s ≤ length store → s.b ≤ s.Q → TailFills limits s store
tail_fills_by_queues limits s store e long many =
    tail_reached limits s sizes-ok.b_low sizes-ok.k_low
    (λ k l. by_test (leb 2 s.K)
    (λ t. rw t sizes-ok.q_low)
    (λ t. rw t (omega (arith, l, many)))) store e long
  where
    sizes-ok : Within limits s
    sizes-ok = within_limits limits s e
