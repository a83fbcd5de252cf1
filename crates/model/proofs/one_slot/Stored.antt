-- What a queue has stored, its tail bytes and those of its blocks, through a slot: an arrival adds a byte, a request
-- that is Held takes one, a write makes a block of b tail bytes, a read takes a block away. `stored_after` says it of
-- each queue, `all_stored_after` of all. So every block that is read is b bytes that arrived: `reads_paid`; and blocks
-- that are read are no more than arrivals: `reads_few`.
use mathlib.Core.Path.{◌≡◌, refl, ap, sym, ◌∙◌}
use mathlib.Core.Bool.{Bool, true, false}
use mathlib.Core.List.{List, [], ◌∷◌, map}
use mathlib.Core.Option.{Option, some, none}
use Prim.Native.Nat.{ℕ, suc, ◌+◌, ◌-◌, ◌*◌, ◌%◌, ◌<◌, ◌≤◌}
use native.Mathlib.Omega.{arith}
use native.Mathlib.Nat.{mul-le-mul_right}
use lib.Dec.{eqb}
use lib.ListN.{length, set}
use borrow.Author.Tests.{ne_eqb}
use Rattle.model.specs.Basics.{choose}
use Rattle.model.specs.Sizes.{Sizes, Limits, Design, accepts, full}
use Rattle.model.specs.State.{Byte, Ring, ring, State, fresh, count_of, tail_bytes, ring_of, blocks}
use Rattle.model.specs.Slot.{Call, without, arriving, after_delivery, after_arrival, is_owed, after_request}
use Rattle.model.specs.Slot.{queue_to_write, after_write, queue_to_read, after_read, swaps, early_arrival, late_arrival}
use Rattle.model.specs.Slot.{joined, asked, wrote, wrote_store, halves_taken, Answer, carried_out, slot}
use Rattle.model.specs.Lists.{Step, asks, step_of, list_of, accepted}
use Rattle.model.specs.Arbiter.{noting}
use Rattle.model.specs.Chains.{Chain}
use Rattle.model.proofs.basics.Tests.{by_test, at_queue_lem, eqb_same, none_not_some}
use Rattle.model.proofs.basics.Limits.{within_limits}
use Rattle.model.proofs.basics.Sums.{sum, sum-zero, sum_same, sum-add, sum-times, sum-shift}
use Rattle.model.proofs.basics.Present.{one, present}
use Rattle.model.proofs.basics.Bytes.{count_append, count_without, sum-counts}
use Rattle.model.proofs.basics.Rings.{ring-set_same, ring-set_other, ring-fresh, times_pred}
use Rattle.model.proofs.one_slot.Rules.{Rules}
use Rattle.model.proofs.one_slot.MovesKeepRules.{WriteTaken, ReadTaken}
use Rattle.model.proofs.one_slot.Swap.{owed_alike}
use Rattle.model.proofs.one_slot.Accepted.{Judged, RefusedOrAccepted, was_refused, was_accepted, outcome}
use Rattle.model.proofs.one_slot.Kept.{rules-written, write_taken, read_taken}
use Rattle.model.proofs.one_slot.Chains.{Links, no_link, link, links, run-chain}

-- The bytes of a queue that its ring's space is for (refusal 5).
abbrev pub stored : State → ℕ → ℕ
stored x q = tail_bytes x q + x.sizes.b * blocks x q

abbrev pub all_stored : State → ℕ
all_stored x = sum x.sizes.Q (λ q. stored x q)

-- The request where it is Held, so that it takes a tail byte.
abbrev pub held_request : State → Option ℕ → Option ℕ
held_request x none = none
held_request x (some q) = choose (is_owed x q) none (some q)

-- Step by step, of every queue. Delivery and phase leave tail and rings alone.
stored_arrived : (arrival : Option Byte) (x : State) (q : ℕ)
    → stored (after_arrival arrival x) q ≡ stored x q + count_of q (arriving arrival)
stored_arrived arrival x q = omega (arith, count_append q x.tail (arriving arrival))

stored_asked : (x : State) (request : Option ℕ)
    → ((p : ℕ) → request ≡ some p → is_owed x p ≡ false → 1 ≤ tail_bytes x p)
    → (q : ℕ) → stored (after_request request x) q + asks q (held_request x request) ≡ stored x q
stored_asked x none there q = omega arith
stored_asked x (some p) there q =
    by_test (is_owed x p)
    (λ t. rw t (omega arith))
    (λ t. rw t (at_queue_lem
    (λ i. count_of i (without 1 p x.tail) + x.sizes.b * blocks x i + choose (eqb p i) 1 0 ≡ stored x i) p
    (rw (eqb_same p) (omega (arith, there p refl t, rw (eqb_same p) at (count_without 1 p p x.tail))))
    (λ i u. rw u (omega (arith, rw u at (count_without 1 p i x.tail))))
    q))

stored_wrote : (x : State) (written : Option ℕ) → length x.rings ≡ x.sizes.Q → WriteTaken x written
    → (q : ℕ) → stored (after_write written x) q ≡ stored x q
stored_wrote x none long f = λ q. refl
stored_wrote x (some p) long f =
    at_queue_lem (λ i. count_of i (without b p x.tail) + b * (ring_of (set x.rings p new) i).count ≡ stored x i) p
    (rw (ring-set_same x.rings p new (omega (arith, long, (f p refl).0)))
    (omega (arith, (f p refl).1, rw (eqb_same p) at (count_without b p p x.tail))))
    (λ i t. rw (ring-set_other x.rings p i new t) (omega (arith, rw t at (count_without b p i x.tail))))
  where
    b : ℕ
    b = x.sizes.b

    new : Ring
    new = ring (ring_of x.rings p).first ((ring_of x.rings p).count + 1)

stored_read : (x : State) (store : List ℕ) (o : Option ℕ) → length x.rings ≡ x.sizes.Q → ReadTaken x o
    → (q : ℕ) → stored (after_read o x store) q + x.sizes.b * asks q o ≡ stored x q
stored_read x store none long f = λ q. omega arith
stored_read x store (some p) long f =
    at_queue_lem (λ i. tail_bytes x i + b * (ring_of (set x.rings p new) i).count + b * choose (eqb p i) 1 0 ≡ stored x i) p
    (rw (eqb_same p, ring-set_same x.rings p new (omega (arith, long, (f p refl).0)))
    (omega (arith, times_pred b (ring_of x.rings p).count (f p refl).1)))
    (λ i t. rw (t, ring-set_other x.rings p i new t) (omega arith))
  where
    b : ℕ
    b = x.sizes.b

    new : Ring
    new = ring (((ring_of x.rings p).first + 1) % x.sizes.K) ((ring_of x.rings p).count - 1)

-- Early or late, the arrival joins once.
joins_its_queue : (x : State) (call : Call) (q : ℕ)
    → count_of q (arriving (early_arrival x call)) + count_of q (arriving (late_arrival x call))
    ≡ count_of q (arriving call.arrival)
joins_its_queue x call q =
    by_test (swaps x call.arrival call.request)
    (λ t. rw t (omega arith))
    (λ t. rw t (omega arith))

-- A queue that may be there counts once in a sum over the queues, and so does an arrival.
sum-asks : (n : ℕ) (o : Option ℕ) → ((q : ℕ) → o ≡ some q → q < n) → sum n (λ q. asks q o) ≡ one o
sum-asks n none below = sum-zero n (λ q. 0) (λ q. refl)
sum-asks n (some p) below =
    omega (
      arith,
      sum-shift n (λ q. 0) (λ q. asks q (some p)) p 0 1 (below p refl) (rw (eqb_same p) (omega arith)) (λ q t. rw t),
      sum-zero n (λ q. 0) (λ q. refl),
    )

sum-arriving : (n : ℕ) (arrival : Option Byte) → ((y : Byte) → arrival ≡ some y → y.queue < n)
    → sum n (λ q. count_of q (arriving arrival)) ≡ one arrival
sum-arriving n none below = sum-counts n [] tt
sum-arriving n (some y) below = sum-counts n (y ∷ []) (below y refl, tt)

held_below : (x : State) (request : Option ℕ) → ((q : ℕ) → request ≡ some q → q < x.sizes.Q)
    → (q : ℕ) → held_request x request ≡ some q → q < x.sizes.Q
held_below x none below q e = below q e
held_below x (some p) below q e =
    by_test (is_owed x p)
    (λ t. absurd (none_not_some q (rw t at e)))
    (λ t. below q (rw t at e))

-- Of a slot.
module _ (design : Design) (x : State) (store : List ℕ) (call : Call)
    (cells_ok : 1 ≤ design.cell_count x.sizes) (j : Judged design x store call) where
  written-rules : Rules (design.cell_count x.sizes) (wrote x call)
  written-rules = rules-written design x store call cells_ok j

  read_there : ReadTaken (wrote x call) (queue_to_read (wrote x call))
  read_there = read_taken _ (wrote x call) written-rules

  held_alike : (request : Option ℕ) → held_request (joined x call) request ≡ held_request x request
  held_alike none = refl
  held_alike (some q) = ap (λ (t : Bool). choose t none (some q)) (owed_alike x call q j.covered)

  -- What is stored as the slot ends, what its request took, and what its read took, was stored before or came.
  pub stored_after : (q : ℕ)
      → stored (carried_out 0 0 x store call).state q
      + asks q (held_request x call.request)
      + x.sizes.b * asks q (queue_to_read (wrote x call))
      ≡ stored x q + count_of q (arriving call.arrival)
  stored_after q =
      omega (
        arith,
        stored_read (wrote x call) (wrote_store x store call) (queue_to_read (wrote x call)) written-rules.rings_long
            read_there q,
        stored_wrote (asked x call) (queue_to_write (asked x call)) j.kept.within.rings_long
            (write_taken (asked x call)) q,
        stored_arrived (late_arrival x call) (after_request call.request (joined x call)) q,
        stored_asked (joined x call) call.request
            (λ p e f. j.byte-there p e (sym (owed_alike x call p j.covered) ∙ f)) q,
        stored_arrived (early_arrival x call) (after_delivery x) q,
        ap (asks q) (held_alike call.request),
        joins_its_queue x call q,
      )

  pub all_stored_after :
      all_stored (carried_out 0 0 x store call).state
      + one (held_request x call.request)
      + x.sizes.b * one (queue_to_read (wrote x call))
      ≡ all_stored x + one call.arrival
  all_stored_after =
      omega (
        arith,
        sum_same Q (λ q. kept q + asks q held + b * asks q taken)
            (λ q. stored x q + count_of q (arriving call.arrival)) (λ q l. stored_after q),
        sum-add Q (λ q. kept q + asks q held) (λ q. b * asks q taken),
        sum-add Q kept (λ q. asks q held),
        sum-add Q (λ q. stored x q) (λ q. count_of q (arriving call.arrival)),
        sum-times Q b (λ q. asks q taken),
        sum-asks Q held (held_below x call.request j.request_ok),
        ap (λ (n : ℕ). b * n) (sum-asks Q taken (λ q e. (read_there q e).0)),
        sum-arriving Q call.arrival j.arrival-known,
      )
    where
      Q : ℕ
      Q = x.sizes.Q

      b : ℕ
      b = x.sizes.b

      kept : ℕ → ℕ
      kept q = stored (carried_out 0 0 x store call).state q

      held : Option ℕ
      held = held_request x call.request

      taken : Option ℕ
      taken = queue_to_read (wrote x call)

-- What the slots of a list read, and what they took of their arrivals.
abbrev pub reads : List Step → List (Option ℕ)
reads slots = map (λ step. step.reply.read) slots

abbrev pub arrivals : List Step → List (Option Byte)
arrivals slots = map (λ step. step.arrival) slots

-- What was read in blocks, and what is still stored, was stored before or came since.
abbrev Paid : State → List Step → State → Type 0
Paid x slots last = x.sizes.b * present (reads slots) + all_stored last ≤ all_stored x + present (arrivals slots)

module _ (design : Design) where
  paid_more : (x : State) (store : List ℕ) (call : Call) (a : Answer) (noted : ℕ) (rest : List Step) (last : State)
      → 1 ≤ design.cell_count x.sizes → RefusedOrAccepted design x store call a
      → Paid (noting noted a).state (accepted rest) last
      → Paid x (accepted (step_of x store call (noting noted a) ∷ rest)) last
  paid_more x store call a noted rest last h (was_refused n e) p = rw (ne_eqb (suc n) 0 (λ z. omega arith)) p
  paid_more x store call a noted rest last h (was_accepted f) p =
      omega (arith, p, all_stored_after design x store (halves_taken x call) h f.judged)

  same-sizes : (x : State) (store : List ℕ) (call : Call) (a : Answer) → RefusedOrAccepted design x store call a
      → a.state.sizes ≡ x.sizes
  same-sizes x store call a (was_refused n e) = refl
  same-sizes x store call a (was_accepted f) = refl

  paid : {x : State} {store : List ℕ} {steps : List Step} {last : State} → 1 ≤ design.cell_count x.sizes
      → Links design x store steps last → Paid x (accepted steps) last
  paid h no_link = omega arith
  paid h (link {x = x} {store = store} {steps = steps} {last = last} call noted below c) =
      let t = outcome design x store call in
      paid_more x store call (slot design x store call) noted steps last h t
      (paid (rw (same-sizes x store call _ t) h) c)

  -- From a fresh state, in which nothing is stored: b × the blocks that were read are at most the bytes that arrived.
  pub reads_paid : (s : Sizes) (store : List ℕ) (steps : List Step) (last : State) → 1 ≤ design.cell_count s
      → Chain design (fresh design s) store steps last
      → s.b * present (reads (accepted steps)) ≤ present (arrivals (accepted steps))
  reads_paid s store steps last h c = omega (arith, paid h (links design c), none_stored)
    where
      none_stored : all_stored (fresh design s) ≡ 0
      none_stored = sum-zero s.Q (stored (fresh design s)) (λ q. rw (ring-fresh s.Q q, blocks) (omega arith))

pub reads_few : (limits : Limits) (s : Sizes) (store : List ℕ) (calls : List Call) → accepts limits s ≡ true
    → present (reads (accepted (list_of (full limits) s store calls)))
    ≤ present (arrivals (accepted (list_of (full limits) s store calls)))
reads_few limits s store calls e =
    omega (
      arith,
      reads_paid (full limits) s store _ _ (omega arith) (run-chain (full limits) (fresh (full limits) s) store calls),
      mul-le-mul_right (present (reads (accepted (list_of (full limits) s store calls))))
          (within_limits limits s e).b_low,
    )
