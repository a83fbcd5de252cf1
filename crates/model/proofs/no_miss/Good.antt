-- From a state that keeps the rules and the invariant, a slot is never refused with 8, 9 or 10, and leaves such a
-- state: the oldest cell is covered, and with the invariant both fills are below their bounds. `refusal-low` and
-- `slot-good` say it.
use mathlib.Core.Path.{◌≡◌, refl, sym, ◌∙◌, subst}
use mathlib.Core.Bool.{true, false, not}
use mathlib.Core.List.{List}
use mathlib.Core.Option.{Option, some, none}
use Prim.Native.Nat.{ℕ, suc, ◌+◌, ◌-◌, ◌<◌, ◌≤◌}
use native.Mathlib.Omega.{arith}
use lib.Dec.{ltb}
use lib.ListN.{length, length-append}
use borrow.Author.Tests.{eqb-true, lt-leb, le-ltb}
use Rattle.model.specs.Basics.{choose, when, All}
use Rattle.model.specs.Sizes.{store_bytes, Sizes, Limits, accepts, span, lookahead, tail_size, head_size, full}
use Rattle.model.specs.State.{keeps, Byte, State, fresh, ring_of, with_last_asked}
use Rattle.model.specs.Slot.{arrival_unknown, request_unknown, halves_taken, Call, after_delivery}
use Rattle.model.specs.Slot.{arriving, after_request, early_arrival, late_arrival, tail_found}
use Rattle.model.specs.Slot.{moves, queue_to_write, after_write, queue_to_read, block_at, bytes_for, head_read, after_read}
use Rattle.model.specs.Slot.{after_phase, joined, asked, wrote, wrote_store, refilled, tail_full, head_full, refusal}
use Rattle.model.specs.Slot.{Answer, carried_out}
use Rattle.model.proofs.basics.AllOf.{◌also◌}
use Rattle.model.proofs.basics.Tests.{by_test, none_not_some}
use Rattle.model.proofs.basics.FirstRefusal.{low_refusal, when-le}
use Rattle.model.proofs.basics.Bytes.{length-for}
use Rattle.model.proofs.meaning.Steps.{move_writes_fullest, no_move_no_write, move_reads_scan, no_move_no_read}
use Rattle.model.proofs.one_slot.Rules.{Rules, Keeps, keeps-fresh, keeps-noted}
use Rattle.model.proofs.one_slot.Swap.{joins_once, length_found}
use Rattle.model.proofs.one_slot.Accepted.{Judged, early_refusals, judged_facts, RefusedOrAccepted}
use Rattle.model.proofs.one_slot.Accepted.{was_refused, was_accepted}
use Rattle.model.proofs.one_slot.Kept.{rules-2, rules-3, rules-written, rules-refilled, block_whole}
use Rattle.model.proofs.one_slot.Kept.{carried_kept}
use Rattle.model.proofs.no_miss.Invariant.{Invariant, invariant_fresh, invariant_delivered, invariant_arrived}
use Rattle.model.proofs.no_miss.Invariant.{invariant_asked, invariant_wrote, invariant_read, oldest_covered}
use Rattle.model.proofs.no_miss.Invariant.{head_bounded, invariant_heavier}

pub record Good (limits : Limits) (x : State) : Type 0 where
  pub kept : Keeps (full limits) x
  pub invariant : Invariant x.phase x.phase x.phase x

pub good_fresh : (limits : Limits) (s : Sizes) → accepts limits s ≡ true → Good limits (fresh (full limits) s)
good_fresh limits s e = record { kept = keeps-fresh (full limits) s e; invariant = invariant_fresh (full limits) s }

-- A slot without the two moves changes nothing of the invariant in step 4, and step 5 none of it.
wrote_none : (i j k : ℕ) (y : State) (o : Option ℕ) → o ≡ none → Invariant i j k y → Invariant i j k (after_write o y)
wrote_none i j k y o e v =
    subst (λ (p : Option ℕ). Invariant i j k (after_write p y)) (sym e)
    (search v)

read_none : (i j k : ℕ) (y : State) (store : List ℕ) (o : Option ℕ) → o ≡ none → Invariant i j k y
    → Invariant i j k (after_read o y store)
read_none i j k y store o e v =
    subst (λ (p : Option ℕ). Invariant i j k (after_read p y store)) (sym e)
    (search v)

next_phase : (i : ℕ) (y : State) → choose (moves y) 0 (y.phase + 1) ≡ i → Invariant i i i y
    → Invariant (after_phase y).phase (after_phase y).phase (after_phase y).phase (after_phase y)
next_phase i y e v =
    subst (λ (p : ℕ). Invariant p p p (after_phase y)) (sym e)
    (search v)

-- The invariant through a slot that refusals 2 to 9 let through.
module _ (limits : Limits) (x : State) (store : List ℕ) (call : Call)
    (good : Good limits x) (j : Judged (full limits) x store call) where
  abbrev p : ℕ
  p = x.phase

  abbrev b : ℕ
  b = x.sizes.b

  abbrev y : State
  y = asked x call

  abbrev z : State
  z = wrote x call

  abbrev store' : List ℕ
  store' = wrote_store x store call

  cells_ok : 1 ≤ lookahead x.sizes
  cells_ok = omega arith

  b-positive : 1 ≤ b
  b-positive = omega (arith, good.kept.phase_ok)

  invariant_3 : Invariant (suc p) (suc p) (suc p) y
  invariant_3 =
      invariant_heavier (suc p) (suc p) (p + early + late) (suc p) y (omega (arith, joins_once x call))
      (invariant_arrived (suc p) (suc p) (p + early) (after_request call.request (joined x call)) (late_arrival x call)
      (invariant_asked p (p + early) (joined x call) call.request j.request_ok b-positive
      (subst (λ (n : ℕ). Rules n (joined x call))
      (let e : lookahead x.sizes - 1 ≡ span x.sizes = omega arith in e)
      (rules-2 (full limits) x store call cells_ok j))
      (invariant_arrived (suc p) p p (after_delivery x) (early_arrival x call)
      (invariant_delivered p x good.kept.phase_ok j.covered good.invariant))))
    where
      early : ℕ
      early = length (arriving (early_arrival x call))

      late : ℕ
      late = length (arriving (late_arrival x call))

  module _ (t : moves x ≡ true) where
    last_slot : suc p ≡ b
    last_slot = omega (arith, eqb-true p (b - 1) t, b-positive)

    invariant_moved_out : Invariant b b 0 z
    invariant_moved_out =
        invariant_wrote (lookahead x.sizes) y (queue_to_write y) (sym (move_writes_fullest y t))
        (rules-3 (full limits) x store call cells_ok j)
        (subst (λ (n : ℕ). Invariant n n n y) last_slot invariant_3)

    invariant_moved : Invariant 0 0 0 (refilled x store call)
    invariant_moved =
        invariant_read (lookahead x.sizes) z store' (queue_to_read z) (sym (move_reads_scan z t))
        (block_whole (full limits) x store call cells_ok j) b-positive
        (rules-written (full limits) x store call cells_ok j) invariant_moved_out

  -- 10 never comes: after the read the head is within its bound.
  pub no_10 : head_full z (queue_to_read z) ≡ false
  no_10 = go (queue_to_read z) refl
    where
      moving : (q : ℕ) → queue_to_read z ≡ some q → moves x ≡ true
      moving q e = by_test (moves x) (λ t. t) (λ t. absurd (none_not_some q (sym (no_move_no_read z t) ∙ e)))

      go : (o : Option ℕ) → queue_to_read z ≡ o → head_full z o ≡ false
      go none e = refl
      go (some q) e =
          le-ltb (head_size x.sizes) (length z.head + b)
          (omega (
            arith,
            length-append z.head (bytes_for q block),
            length-for q block,
            block_whole (full limits) x store call cells_ok j q e,
            subst (λ (o : Option ℕ). length (head_read o z store') ≤ lookahead x.sizes + span x.sizes) e bounded,
          ))
        where
          block : List ℕ
          block = block_at x.sizes store' q (ring_of z.rings q).first

          bounded : length (refilled x store call).head ≤ lookahead x.sizes + span x.sizes
          bounded =
              head_bounded (lookahead x.sizes) 0 0 0 (refilled x store call)
              (rules-refilled (full limits) x store call cells_ok j) (invariant_moved (moving q e))

  invariant_next : Invariant (after_phase (refilled x store call)).phase (after_phase (refilled x store call)).phase
      (after_phase (refilled x store call)).phase (after_phase (refilled x store call))
  invariant_next =
      by_test (moves x)
      (λ t. next_phase 0 (refilled x store call) (rw t) (invariant_moved t))
      (λ t. next_phase (suc p) (refilled x store call) (rw t (let e : p + 1 ≡ suc p = omega arith in e))
      (read_none (suc p) (suc p) (suc p) z store' (queue_to_read z) (no_move_no_read z t)
      (wrote_none (suc p) (suc p) (suc p) y (queue_to_write y) (no_move_no_write y t) invariant_3)))

  pub carried_good : Good limits (carried_out 0 0 x store call).state
  carried_good = record {
    kept = (carried_kept (full limits) x store call cells_ok {i = 0} {j = 0} (record { judged = j; head_room = no_10 })
        ).kept;
    invariant = invariant_next;
  }

-- Every refusal of a slot on a good state is 6 or lower.
module _ (limits : Limits) (x : State) (store : List ℕ) (call : Call) (good : Good limits x) where
  pub no_9 : (arrival : Option Byte) (request : Option ℕ) → tail_full x arrival request ≡ false
  no_9 none request = refl
  no_9 (some y) request =
      lt-leb (tail_size x.sizes) (length (tail_found x (some y) request))
      (omega (arith, length_found x (some y) request, good.invariant.tail_light, good.kept.phase_ok))

  abbrev left : Call
  left = halves_taken x call

  -- Refusals 3, 2, 4 and 6 as they may be, 8 and 9 ruled out.
  early_low : All (λ (n : ℕ). n ≤ 6) (early_refusals (full limits) x store call)
  early_low =
      when-le 6 (not (keeps (full limits) x)) 3 (omega arith)
      also when-le 6 (ltb (length store) (store_bytes x.sizes)) 2 (omega arith)
      also when-le 6 (arrival_unknown x call.arrival) 4 (omega arith)
      also when-le 6 (request_unknown x call.request) 6 (omega arith)
      also rw (oldest_covered x.phase x good.kept.phase_ok good.invariant) (omega arith)
      also rw (no_9 left.arrival left.request) (omega arith)
      also tt

  pub refusal-low : refusal (full limits) x store call ≤ 6
  refusal-low =
      low_refusal 6 (early_refusals (full limits) x store call)
      (when (head_full (wrote x left) (queue_to_read (wrote x left))) 10) early_low
      (λ e. rw (no_10 limits x store left good (judged_facts (full limits) x store call e)))

-- A slot on a good state: its number, and the state that it leaves.
pub record GoodSlot (limits : Limits) (x : State) (store : List ℕ) (a : Answer) : Type 0 where
  pub good : Good limits a.state
  pub low : a.reply.number ≤ 6
  pub same-sizes : a.state.sizes ≡ x.sizes
  pub same_length : length a.store ≡ length store

pub slot-good : (limits : Limits) (x : State) (store : List ℕ) (call : Call) (a : Answer) → Good limits x
    → RefusedOrAccepted (full limits) x store call a → GoodSlot limits x store a
slot-good limits x store call a g (was_refused n e) = record {
  good = g;
  low = omega (arith, e, refusal-low limits x store call g);
  same-sizes = refl;
  same_length = refl;
}
slot-good limits x store call a g (was_accepted f) = record {
  good = carried_good limits x store (halves_taken x call) g f.judged;
  low = omega arith;
  same-sizes = refl;
  same_length = (carried_kept (full limits) x store (halves_taken x call) (omega arith) {i = 0} {j = 0} f).same_length;
}

-- What is noted as the last one asked has no say in it, as long as it is a queue.
pub good_noted : (limits : Limits) (x : State) (noted : ℕ) → noted < x.sizes.Q → Good limits x
    → Good limits (with_last_asked noted x)
good_noted limits x noted l g = record {
  kept = keeps-noted (full limits) x noted l g.kept;
  invariant = search g.invariant;
}
