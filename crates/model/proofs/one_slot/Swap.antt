-- A slot that swaps (request 2.1) takes its request before its arrival. Its queue is full and has a byte in the tail,
-- so that the request takes an old byte, `swap_takes_an_old_byte`, and the arrival finds room: `late_taken`. Where a
-- slot does not swap it is document 01's: `five_as_before`, `nine_as_before`, `asked-as_before`.
use mathlib.Core.Path.{◌≡◌, refl, ap, sym, ◌∙◌, subst}
use mathlib.Core.Bool.{Bool, true, false, ◌&&◌, not}
use mathlib.Core.List.{List, [], ◌∷◌, ◌++◌, append-nil}
use mathlib.Core.Option.{Option, some, none}
use Prim.Native.Nat.{ℕ, ◌+◌, ◌-◌, ◌*◌, ◌<◌, ◌≤◌}
use native.Mathlib.Omega.{arith}
use lib.Dec.{eqb}
use lib.ListN.{length, length-append}
use borrow.Author.Tests.{eqb-true, ltb-true, ltb-false, le-ltb, lt-ltb, lt-leb, ne_eqb, not-true}
use Rattle.model.specs.Basics.{choose}
use Rattle.model.specs.Sizes.{tail_size}
use Rattle.model.specs.State.{Byte, owed, State, count_of, tail_bytes, head_bytes, owed_cells, blocks}
use Rattle.model.specs.Slot.{Call, without, oldest_of, oldest_cell, after_delivery, arriving, is_owed, held_cell}
use Rattle.model.specs.Slot.{youngest_cell, tail_left, after_request, after_arrival, is_full, swap_tests, swaps}
use Rattle.model.specs.Slot.{early_arrival, late_arrival, joined, asked, leaves_uncovered, arrival_full, tail_found}
use Rattle.model.specs.Slot.{nothing_to_take, tail_full}
use Rattle.model.specs.Lists.{joined_fill_of}
use Rattle.model.proofs.basics.Tests.{by_test, none_not_some, some_inj, true_not_false, eqb_same}
use Rattle.model.proofs.basics.AllOf.{all_true_at}
use Rattle.model.proofs.basics.Bytes.{count_append, count_without, length_without}
use Rattle.model.proofs.basics.States.{same-state}
use Rattle.model.proofs.meaning.Steps.{held_takes_from_tail}
use Rattle.model.proofs.one_slot.StepsKeepRules.{owed_after_delivery, ArrivalTaken, length-arriving}
use Rattle.model.proofs.one_slot.StepsKeepRules.{length-tail_left}

-- What a slot that swaps is: the four tests as facts of the arriving byte's queue.
pub record Swap (x : State) (call : Call) : Type 0 where
  pub comes : Byte
  pub arrival_is : call.arrival ≡ some comes
  pub request-is : call.request ≡ some comes.queue
  pub full : tail_bytes x comes.queue + x.sizes.b * blocks x comes.queue ≡ x.sizes.K * x.sizes.b
  pub is_held : is_owed x comes.queue ≡ false
  pub byte-there : 1 ≤ tail_bytes x comes.queue

pub swap_facts : (x : State) (call : Call) → swaps x call.arrival call.request ≡ true → Swap x call
swap_facts x call t = go call.arrival call.request refl refl t
  where
    go : (arrival : Option Byte) (request : Option ℕ) → call.arrival ≡ arrival → call.request ≡ request
        → swaps x arrival request ≡ true → Swap x call
    go none request a r e = absurd (true_not_false false e refl)
    go (some y) none a r e = absurd (true_not_false false e refl)
    go (some y) (some q) a r e = record {
      comes = y;
      arrival_is = a;
      request-is = r ∙ ap some same;
      full = eqb-true _ _ (all_true_at (swap_tests x y q) 0 e);
      is_held = subst (λ (p : ℕ). is_owed x p ≡ false) same (not-true (is_owed x q) (all_true_at (swap_tests x y q) 2 e));
      byte-there = subst (λ (p : ℕ). 1 ≤ tail_bytes x p) same (ltb-true 0 _ (all_true_at (swap_tests x y q) 3 e));
    }
      where
        same : q ≡ y.queue
        same = eqb-true q y.queue (all_true_at (swap_tests x y q) 1 e)

-- The arrival joins before the request or after it.
module _ (x : State) (call : Call) where
  pub early_is_none : swaps x call.arrival call.request ≡ true → early_arrival x call ≡ none
  early_is_none t = ap (λ (s : Bool). choose s none call.arrival) t

  pub early_is : swaps x call.arrival call.request ≡ false → early_arrival x call ≡ call.arrival
  early_is t = ap (λ (s : Bool). choose s none call.arrival) t

  pub late_is : swaps x call.arrival call.request ≡ true → late_arrival x call ≡ call.arrival
  late_is t = ap (λ (s : Bool). choose s call.arrival none) t

  pub late_is_none : swaps x call.arrival call.request ≡ false → late_arrival x call ≡ none
  late_is_none t = ap (λ (s : Bool). choose s call.arrival none) t

  pub joins_once : length (arriving (early_arrival x call)) + length (arriving (late_arrival x call)) ≤ 1
  joins_once =
      by_test (swaps x call.arrival call.request)
      (λ t. rw t (omega (arith, length-arriving call.arrival)))
      (λ t. rw t (omega (arith, length-arriving call.arrival)))

  pub early_few : (q : ℕ) → count_of q (arriving (early_arrival x call)) ≤ count_of q (arriving call.arrival)
  early_few q =
      by_test (swaps x call.arrival call.request)
      (λ t. rw t (omega arith))
      (λ t. rw t (omega arith))

  -- Where a byte joins early, the slot does not swap; where one joins late, it does.
  pub early_swaps_not : (y : Byte) → early_arrival x call ≡ some y → swaps x call.arrival call.request ≡ false
  early_swaps_not y e =
      by_test (swaps x call.arrival call.request)
      (λ t. absurd (none_not_some y (sym (early_is_none t) ∙ e)))
      (λ t. t)

  pub late_swaps : (y : Byte) → late_arrival x call ≡ some y → swaps x call.arrival call.request ≡ true
  late_swaps y e =
      by_test (swaps x call.arrival call.request)
      (λ t. t)
      (λ t. absurd (none_not_some y (sym (late_is_none t) ∙ e)))

-- A request is Owed after the oldest cell has left exactly where it was before, and so Held.
pub owed_alike : (x : State) (call : Call) (q : ℕ) → leaves_uncovered (oldest_cell x.cells) x ≡ false
    → is_owed (joined x call) q ≡ is_owed x q
owed_alike x call q covered =
    by_test (is_owed x q)
    (λ t. lt-ltb (owed_cells y q) (head_bytes y q + x.sizes.b * blocks x q)
    (omega (arith, same, ltb-true (owed_cells x q) (head_bytes x q + x.sizes.b * blocks x q) t)) ∙ sym t)
    (λ t. le-ltb (owed_cells y q) (head_bytes y q + x.sizes.b * blocks x q)
    (omega (arith, same, ltb-false (owed_cells x q) (head_bytes x q + x.sizes.b * blocks x q) t)) ∙ sym t)
  where
    y : State
    y = after_delivery x

    same : owed_cells x q + head_bytes y q ≡ owed_cells y q + head_bytes x q
    same = owed_after_delivery x q covered

-- Of a slot that swaps.
module _ (x : State) (call : Call) (t : swaps x call.arrival call.request ≡ true) where
  abbrev s : Swap x call
  s = swap_facts x call t

  abbrev q : ℕ
  q = s.comes.queue

  -- "Such a slot is accepted if nothing else refuses it": 5 and 7 do not come, and 9 does not where the tail is no
  -- longer than it may be.
  swaps-it : swaps x (some s.comes) call.request ≡ true
  swaps-it = ap (λ (a : Option Byte). swaps x a call.request) (sym s.arrival_is) ∙ t

  pub swap_taken : arrival_full x call.arrival call.request ≡ false
  swap_taken =
      ap (λ (a : Option Byte). arrival_full x a call.request) s.arrival_is
      ∙ ap (λ (b : Bool). is_full x q && not b) swaps-it
      ∙ and_false (is_full x q)
    where
      and_false : (b : Bool) → (b && false) ≡ false
      and_false true = refl
      and_false false = refl

  pub swap_finds_a_byte : nothing_to_take x call.arrival call.request ≡ false
  swap_finds_a_byte =
      ap (nothing_to_take x call.arrival) s.request-is
      ∙ ap (λ (b : Bool). not b && eqb there 0) s.is_held
      ∙ ne_eqb there 0 (λ e. omega (arith, e, s.byte-there, count_append q x.tail (arriving call.arrival)))
    where
      there : ℕ
      there = count_of q (x.tail ++ arriving call.arrival)

  -- "9 looks at the tail after the request."
  pub found-asked : tail_found x call.arrival call.request ≡ without 1 q x.tail
  found-asked =
      ap (λ (b : Bool). choose b (tail_left x call.request) x.tail) t
      ∙ ap (tail_left x) s.request-is
      ∙ held_takes_from_tail x q s.is_held

  pub swap_finds_a_place : length x.tail ≤ tail_size x.sizes → tail_full x call.arrival call.request ≡ false
  swap_finds_a_place h =
      ap (λ (a : Option Byte). tail_full x a call.request) s.arrival_is
      ∙ lt-leb (tail_size x.sizes) (length (tail_found x (some s.comes) call.request))
      (omega (
        arith,
        h,
        ap (λ (a : Option Byte). length (tail_found x a call.request)) s.arrival_is,
        ap (length {A = Byte}) found-asked,
        length_without 1 q x.tail s.byte-there,
      ))

  tail_joined : (joined x call).tail ≡ x.tail
  tail_joined = ap (λ (a : Option Byte). x.tail ++ arriving a) (early_is_none x call t) ∙ append-nil x.tail

  -- Where 8 does not come, the request takes one of its queue's tail bytes, and so makes room.
  module _ (covered : leaves_uncovered (oldest_cell x.cells) x ≡ false) where
    held_now : is_owed (joined x call) q ≡ false
    held_now = owed_alike x call q covered ∙ s.is_held

    pub tail_asked_lem : tail_left (joined x call) call.request ≡ without 1 q x.tail
    tail_asked_lem =
        ap (tail_left (joined x call)) s.request-is
        ∙ held_takes_from_tail (joined x call) q held_now
        ∙ ap (without 1 q) tail_joined

    pub room_made : tail_bytes (after_request call.request (joined x call)) q + x.sizes.b * blocks x q
        < x.sizes.K * x.sizes.b
    room_made =
        omega (
          arith,
          s.full,
          s.byte-there,
          ap (count_of q) tail_asked_lem,
          rw (eqb_same q) at (count_without 1 q q x.tail),
        )

    pub place_made : length (tail_left (joined x call) call.request) + 1 ≡ length x.tail
    place_made = ap (λ (l : List Byte). length l + 1) tail_asked_lem ∙ length_without 1 q x.tail s.byte-there

    -- "Take the request before the arrival": the cell takes the oldest tail byte of the queue, never the arriving one,
    -- which then joins the rest.
    pub swap_takes_an_old_byte : (y : Byte) → call.arrival ≡ some y
        → (youngest_cell (joined x call) call.request ≡ held_cell y.queue (oldest_of y.queue x.tail))
        × ((asked x call).tail ≡ without 1 y.queue x.tail ++ y ∷ [])
    swap_takes_an_old_byte y e =
        subst Taken (some_inj s.comes y (sym s.arrival_is ∙ e)) (
          ap (youngest_cell (joined x call)) s.request-is
              ∙ ap (λ (b : Bool). choose b (owed q) (held_cell q (oldest_of q (joined x call).tail))) held_now
              ∙ ap (λ (l : List Byte). held_cell q (oldest_of q l)) tail_joined,
          ap (λ (l : List Byte). l ++ arriving (late_arrival x call)) tail_asked_lem
              ∙ ap (λ (a : Option Byte). without 1 q x.tail ++ arriving a) (late_is x call t ∙ s.arrival_is),
        )
      where
        Taken : Byte → Type 0
        Taken z =
            (youngest_cell (joined x call) call.request ≡ held_cell z.queue (oldest_of z.queue x.tail))
            × ((asked x call).tail ≡ without 1 z.queue x.tail ++ z ∷ [])

    -- "The tail is looked at just after the arrival joins it, which in a slot of 2.1 is after the request": as many
    -- bytes as before the slot.
    pub swap_looked_at : joined_fill_of 0 x call ≡ length x.tail
    swap_looked_at =
        ap (λ (b : Bool). length (choose b (asked x call).tail (joined x call).tail)) t
        ∙ omega (
          arith,
          length-append (tail_left (joined x call) call.request) (arriving (late_arrival x call)),
          ap (λ (a : Option Byte). length (arriving a)) (late_is x call t ∙ s.arrival_is),
          place_made,
        )

    pub swap_keeps_the_mark : length x.tail ≤ x.tail_mark → (asked x call).tail_mark ≡ x.tail_mark
    swap_keeps_the_mark h =
        omega (
          arith,
          h,
          ap (length {A = Byte}) tail_joined,
          swap_looked_at,
          ap (λ (b : Bool). length (choose b (asked x call).tail (joined x call).tail)) t,
        )

-- The tail that 9 looks at is as long as the one handed in, or one shorter.
pub length_found : (x : State) (arrival : Option Byte) (request : Option ℕ)
    → length (tail_found x arrival request) ≡ length x.tail - choose (swaps x arrival request) 1 0
length_found x arrival request =
    by_test (swaps x arrival request)
    (λ t. let s = swap_facts x call t in
    omega (
      arith,
      ap (length {A = Byte}) (found-asked x call t),
      length_without 1 s.comes.queue x.tail s.byte-there,
      ap {B = ℕ} (λ (b : Bool). choose b 1 0) t,
    ))
    (λ t. rw t (omega arith))
  where
    call : Call
    call = record { arrival = arrival; request = request }

-- The tail after the request and the late arrival is no longer than before them.
pub asked-no_longer : (x : State) (call : Call) → leaves_uncovered (oldest_cell x.cells) x ≡ false
    → length (asked x call).tail ≤ length (joined x call).tail
asked-no_longer x call covered =
    by_test (swaps x call.arrival call.request)
    (λ t. omega (
      arith,
      length-append left (arriving (late_arrival x call)),
      length-arriving (late_arrival x call),
      place_made x call t covered,
      ap (length {A = Byte}) (tail_joined x call t),
    ))
    (λ t. omega (
      arith,
      length-append left (arriving (late_arrival x call)),
      ap (λ (a : Option Byte). length (arriving a)) (late_is_none x call t),
      length-tail_left (joined x call) call.request,
    ))
  where
    left : List Byte
    left = tail_left (joined x call) call.request

-- So the byte that joins late finds room in its queue.
pub late_taken : (x : State) (call : Call) → leaves_uncovered (oldest_cell x.cells) x ≡ false
    → ((y : Byte) → call.arrival ≡ some y → y.queue < x.sizes.Q)
    → ArrivalTaken (after_request call.request (joined x call)) (late_arrival x call)
late_taken x call covered known y e = (known y comes-now, subst Room same (room_made x call t covered))
  where
    t : swaps x call.arrival call.request ≡ true
    t = late_swaps x call y e

    comes-now : call.arrival ≡ some y
    comes-now = sym (late_is x call t) ∙ e

    same : (swap_facts x call t).comes ≡ y
    same = some_inj (swap_facts x call t).comes y (sym (swap_facts x call t).arrival_is ∙ comes-now)

    Room : Byte → Type 0
    Room z =
        tail_bytes (after_request call.request (joined x call)) z.queue + x.sizes.b * blocks x z.queue
        < x.sizes.K * x.sizes.b

-- With no arrival step 2 changes nothing, where the mark is at least the fill. So a slot that swaps has steps 2 and 3
-- the other way round.
no_arrival : (y : State) → length y.tail ≤ y.tail_mark → after_arrival none y ≡ y
no_arrival y h =
    same-state (after_arrival none y) y refl refl (append-nil y.tail) refl refl refl
    (omega (arith, h, length-append y.tail [])) refl refl

pub request-first : (x : State) (call : Call) → swaps x call.arrival call.request ≡ true
    → length x.tail ≤ x.tail_mark
    → asked x call ≡ after_arrival call.arrival (after_request call.request (after_delivery x))
request-first x call t h =
    ap (λ (a : Option Byte). after_arrival a (after_request call.request (joined x call))) (late_is x call t)
    ∙ ap (λ (a : Option Byte). then_arrives (after_arrival a (after_delivery x))) (early_is_none x call t)
    ∙ ap then_arrives (no_arrival (after_delivery x) h)
  where
    then_arrives : State → State
    then_arrives y = after_arrival call.arrival (after_request call.request y)

-- "All other slots answer as before": where the slot does not swap, 5 and 9 are judged and steps 2 and 3 are done as in
-- document 01.
module _ (x : State) (call : Call) (t : swaps x call.arrival call.request ≡ false) where
  pub five_as_before : (y : Byte) → call.arrival ≡ some y
      → arrival_full x call.arrival call.request ≡ is_full x y.queue
  five_as_before y e =
      ap (λ (a : Option Byte). arrival_full x a call.request) e
      ∙ ap (λ (b : Bool). is_full x y.queue && not b)
      (ap (λ (a : Option Byte). swaps x a call.request) (sym e) ∙ t)
      ∙ and_true (is_full x y.queue)
    where
      and_true : (b : Bool) → (b && true) ≡ b
      and_true true = refl
      and_true false = refl

  pub nine_as_before : tail_found x call.arrival call.request ≡ x.tail
  nine_as_before = ap (λ (b : Bool). choose b (tail_left x call.request) x.tail) t

  pub asked-as_before : asked x call ≡ after_request call.request (after_arrival call.arrival (after_delivery x))
  asked-as_before =
      ap (λ (a : Option Byte). after_arrival a (after_request call.request (joined x call))) (late_is_none x call t)
      ∙ ap (λ (a : Option Byte). after_arrival none (after_request call.request (after_arrival a (after_delivery x))))
      (early_is x call t)
      ∙ no_arrival (after_request call.request before)
      (omega (arith, length-tail_left before call.request))
    where
      before : State
      before = after_arrival call.arrival (after_delivery x)
