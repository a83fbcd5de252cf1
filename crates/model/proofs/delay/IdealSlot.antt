-- An accepted slot, from any state that keeps the rules, is a slot of the ideal buffer, since each of its steps does
-- to line and waiting bytes what the ideal slot does, and the two moves do nothing: `accepted-is_ideal`. And 7 comes
-- exactly where the ideal buffer has nothing to give: `seven_exactly`.
use mathlib.Core.Path.{◌≡◌, refl, ap, sym, ◌∙◌, fun_ext, subst}
use mathlib.Core.Bool.{true, false}
use mathlib.Core.List.{List, [], ◌∷◌, ◌++◌, append-nil}
use mathlib.Core.Option.{Option, some, none}
use Prim.Native.Nat.{ℕ, ◌+◌, ◌-◌, ◌*◌, ◌<◌, ◌≤◌}
use native.Mathlib.Omega.{arith}
use lib.Dec.{eqb}
use lib.ListN.{length, drop, get_elem?, length-append, length-drop}
use lib.Seq.{drop-append-le}
use borrow.Author.Tests.{ltb-true, ltb-false, ne_eqb}
use Rattle.model.specs.Sizes.{Design, store_bytes}
use Rattle.model.specs.State.{Byte, State, values_of, count_of, head_bytes, owed_cells, blocks}
use Rattle.model.specs.Slot.{Call, as_byte, arriving, is_owed, after_delivery, after_request, after_write}
use Rattle.model.specs.Slot.{store_written, after_read, swaps, early_arrival, late_arrival, carried_out}
use Rattle.model.specs.Slot.{queue_to_write, queue_to_read, joined, asked, wrote, wrote_store, refilled, nothing_to_take}
use Rattle.model.specs.Lists.{asks}
use Rattle.model.specs.Ideal.{Ideal, waiting_with, next_byte_of, stream, line_of, stands_for, ideal_slot, IsIdealSlot}
use Rattle.model.proofs.basics.Tests.{by_test, eqb_same}
use Rattle.model.proofs.basics.Bytes.{count_append}
use Rattle.model.proofs.one_slot.Rules.{Rules}
use Rattle.model.proofs.one_slot.MovesKeepRules.{WriteTaken, ReadTaken}
use Rattle.model.proofs.one_slot.Swap.{early_is_none, early_is, owed_alike}
use Rattle.model.proofs.one_slot.Accepted.{Judged}
use Rattle.model.proofs.one_slot.Kept.{rules-2, rules-3, rules-written, write_taken, read_taken}
use Rattle.model.proofs.delay.Line.{line, waiting, ring_values, first_append}
use Rattle.model.proofs.delay.Delivery.{delivered_soonest, line_delivered, waiting_delivered, waiting_arrived}
use Rattle.model.proofs.delay.Request.{stream-length, Asked, asked_is}
use Rattle.model.proofs.delay.Moves.{line_written, waiting_written, stream-read}

-- Two ideal buffers with the same line and the same waiting bytes are the same.
pub same-ideal : (i j : Ideal) → ((q : ℕ) → i.waiting q ≡ j.waiting q) → i.line ≡ j.line → i ≡ j
same-ideal i j w l =
    ap (λ (f : ℕ → List ℕ). record { waiting = f; line = i.line }) (fun_ext w)
    ∙ ap (λ (m : List (Option Byte)). record { waiting = j.waiting; line = m }) l

own_request : (q : ℕ) → asks q (some q) ≡ 1
own_request q = rw (eqb_same q)

-- The two moves change nothing of what a state stands for.
pub record Same (x : State) (store : List ℕ) (x' : State) (store' : List ℕ) : Type 0 where
  pub same_line : line x' store' ≡ line x store
  pub same_waiting : (q : ℕ) → waiting x' store' q ≡ waiting x store q

same-written : (n : ℕ) (y : State) (o : Option ℕ) (store : List ℕ) → WriteTaken y o → 1 ≤ y.sizes.b
    → store_bytes y.sizes ≤ length store → Rules n y → Same y store (after_write o y) (store_written o y store)
same-written n y none store f pos long v = record { same_line = refl; same_waiting = λ q. refl }
same-written n y (some q) store f pos long v = record {
  same_line = line_written n y q store (f q refl) pos long v;
  same_waiting = waiting_written n y q store (f q refl) pos long v;
}

same_read : (n : ℕ) (z : State) (o : Option ℕ) (store : List ℕ) → ReadTaken z o → Rules n z
    → Same z store (after_read o z store) store
same_read n z none store f v = record { same_line = refl; same_waiting = λ q. refl }
same_read n z (some q) store f v = record {
  same_line = ap (λ (g : ℕ → List ℕ). line_of g z.cells) (fun_ext same);
  same_waiting = λ p. ap (λ (l : List ℕ). drop (owed_cells z p) l ++ values_of p z.tail) (same p);
}
  where
    same : (p : ℕ) → stream (after_read (some q) z store) store p ≡ stream z store p
    same = stream-read n z q store (f q refl) v

module _ (design : Design) (x : State) (store : List ℕ) (call : Call)
    (cells_ok : 1 ≤ design.cell_count x.sizes) (j : Judged design x store call) where
  abbrev y₂ : State
  y₂ = joined x call

  abbrev y₃ : State
  y₃ = asked x call

  abbrev early : Option Byte
  early = early_arrival x call

  abbrev late : Option Byte
  late = late_arrival x call

  abbrev z : State
  z = wrote x call

  abbrev store' : List ℕ
  store' = wrote_store x store call

  -- A request that is Held after the delivery would be Held before it, and so finds its byte in the tail.
  pub held_before : (q : ℕ) → is_owed y₂ q ≡ false → is_owed x q ≡ false
  held_before q f = sym (owed_alike x call q j.covered) ∙ f

  joined-waiting : (q : ℕ) → waiting y₂ store q ≡ waiting_with (waiting x store) early q
  joined-waiting q =
      waiting_arrived (after_delivery x) early store q
      ∙ ap (λ (l : List ℕ). l ++ values_of q x.tail ++ values_of q (arriving early))
      (waiting_delivered x (ring_values x store) x.cells j.covered q)

  asked-so : Asked y₂ call.request store
  asked-so =
      asked_is _ y₂ call.request store
      (λ q s. (j.request_ok q s, λ f. j.byte-there q s (held_before q f)))
      j.store_long (rules-2 design x store call cells_ok j)

  -- Whether the arrival joins before the request or after it, the ideal slot is the same: where it joins after it, the
  -- byte taken is an old one.
  early_waits : (q : ℕ) → asks q call.request ≤ length (waiting_with (waiting x store) early q)
  early_waits q =
      subst (λ (l : List ℕ). asks q call.request ≤ length l) (joined-waiting q) (asked-so.byte_waits q)

  old_waits : swaps x call.arrival call.request ≡ true
      → (q : ℕ) → asks q call.request ≤ length (waiting x store q)
  old_waits t q =
      omega (
        arith,
        early_waits q,
        length-append (waiting x store q) (values_of q (arriving early)),
        ap (λ (a : Option Byte). length (values_of q (arriving a))) (early_is_none x call t),
      )

  all_wait : (q : ℕ) → asks q call.request ≤ length (waiting_with (waiting x store) call.arrival q)
  all_wait q =
      by_test (swaps x call.arrival call.request)
      (λ t. omega (
        arith,
        old_waits t q,
        length-append (waiting x store q) (values_of q (arriving call.arrival)),
      ))
      (λ t. subst (λ (a : Option Byte). asks q call.request ≤ length (waiting_with (waiting x store) a q))
      (early_is x call t) (early_waits q))

  same-waits : (q : ℕ)
      → drop (asks q call.request) (waiting_with (waiting x store) early q) ++ values_of q (arriving late)
      ≡ drop (asks q call.request) (waiting_with (waiting x store) call.arrival q)
  same-waits q =
      by_test (swaps x call.arrival call.request)
      (λ t. rw t (ap (λ (l : List ℕ). drop (asks q call.request) l ++ values_of q (arriving call.arrival))
      (append-nil (waiting x store q))
      ∙ sym (drop-append-le (asks q call.request) (waiting x store q) (values_of q (arriving call.arrival))
      (old_waits t q))))
      (λ t. rw t (append-nil _))

  same_next : (r : Option ℕ) → call.request ≡ r
      → next_byte_of (waiting_with (waiting x store) early) r
      ≡ next_byte_of (waiting_with (waiting x store) call.arrival) r
  same_next none e = refl
  same_next (some q) e =
      by_test (swaps x call.arrival call.request)
      (λ t. rw t (ap (λ (l : List ℕ). as_byte q (get_elem? l 0)) (append-nil (waiting x store q))
      ∙ ap (as_byte q) (sym (first_append (waiting x store q) (values_of q (arriving call.arrival))
      (omega (arith, old_waits t q, ap (asks q) e, own_request q))))))
      (λ t. rw t)

  wrote_so : Same y₃ store z store'
  wrote_so =
      same-written _ y₃ (queue_to_write y₃) store (write_taken y₃) (omega (arith, j.kept.phase_ok)) j.store_long
      (rules-3 design x store call cells_ok j)

  read_so : Same z store' (refilled x store call) store'
  read_so =
      same_read _ z (queue_to_read z) store' (read_taken _ z (rules-written design x store call cells_ok j))
      (rules-written design x store call cells_ok j)

  line_so : line (refilled x store call) store'
      ≡ drop 1 (line x store) ++ next_byte_of (waiting_with (waiting x store) call.arrival) call.request ∷ []
  line_so =
      read_so.same_line ∙ wrote_so.same_line ∙ asked-so.line_is
      ∙ ap (λ (l : List (Option Byte)). l ++ next_byte_of (waiting y₂ store) call.request ∷ [])
      (line_delivered x (ring_values x store) x.cells j.covered)
      ∙ ap (λ (w : ℕ → List ℕ). drop 1 (line x store) ++ next_byte_of w call.request ∷ []) (fun_ext joined-waiting)
      ∙ ap (λ (o : Option Byte). drop 1 (line x store) ++ o ∷ []) (same_next call.request refl)

  waiting_so : (q : ℕ) → waiting (refilled x store call) store' q
      ≡ drop (asks q call.request) (waiting_with (waiting x store) call.arrival q)
  waiting_so q =
      read_so.same_waiting q ∙ wrote_so.same_waiting q
      ∙ waiting_arrived (after_request call.request y₂) late store q
      ∙ ap (λ (l : List ℕ). l ++ values_of q (arriving late))
      (asked-so.waiting_is q ∙ ap (drop (asks q call.request)) (joined-waiting q))
      ∙ same-waits q

  pub accepted-is_ideal : {i j : ℕ} → IsIdealSlot x store call (carried_out i j x store call)
  accepted-is_ideal = record {
    delivers = delivered_soonest x (ring_values x store) x.cells j.covered;
    leaves = same-ideal (stands_for (refilled x store call) store')
        (ideal_slot call (stands_for x store)) waiting_so line_so;
    byte_waits = all_wait;
  }

-- 7 comes exactly where nothing waits, this slot's arrival counted.
pub seven_exactly : (n : ℕ) (x : State) (store : List ℕ) (arrival : Option Byte) (q : ℕ)
    → q < x.sizes.Q → store_bytes x.sizes ≤ length store → Rules n x
    → nothing_to_take x arrival (some q) ≡ eqb (length (waiting_with (stands_for x store).waiting arrival q)) 0
seven_exactly n x store arrival q l long v =
    by_test (is_owed x q)
    (λ t. rw t (sym (ne_eqb all 0 (λ e. omega (arith, e, all_is, ltb-true (owed_cells x q) have t)))))
    (λ t. rw t (ap (λ (m : ℕ). eqb m 0)
    (let e : there ≡ all = omega (arith, all_is, ltb-false (owed_cells x q) have t) in e)))
  where
    have : ℕ
    have = head_bytes x q + x.sizes.b * blocks x q

    there : ℕ
    there = count_of q (x.tail ++ arriving arrival)

    all : ℕ
    all = length (waiting_with (stands_for x store).waiting arrival q)

    all_is : all ≡ have - owed_cells x q + there
    all_is =
        omega (
          arith,
          length-append (waiting x store q) (values_of q (arriving arrival)),
          length-append (drop (owed_cells x q) (stream x store q)) (values_of q x.tail),
          length-drop (owed_cells x q) (stream x store q),
          stream-length n x store q l long v,
          count_append q x.tail (arriving arrival),
        )
