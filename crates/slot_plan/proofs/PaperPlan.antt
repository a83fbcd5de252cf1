-- The plan of a slot is the paper's: what is judged by figures before anything moves is what the steps find on their
-- way. An Owed cell that leaves takes a head byte with it, so that a request is Owed before and after alike.
use mathlib.Core.Path.{◌≡◌, refl, ap, sym, ◌∙◌, fun_ext, subst}
use mathlib.Core.Bool.{Bool, true, false, ◌&&◌, not}
use mathlib.Core.List.{List, [], ◌∷◌, ◌++◌}
use mathlib.Core.Option.{Option, some, none}
use Prim.Native.Nat.{ℕ, zero, suc, ◌+◌, ◌-◌, ◌*◌, ◌≤◌}
use native.Mathlib.Omega.{arith}
use lib.Dec.{eqb, ltb, leb}
use lib.ListN.{length, drop}
use borrow.Author.Tests.{eqb-true, eqb-false, ltb-true, ltb-false, lt-ltb, le-ltb, lt-leb, ne_eqb}
use Rattle.model.specs.Basics.{choose, update, when, first_refusal}
use Rattle.model.specs.Sizes.{tail_size, head_size, store_bytes, paper}
use Rattle.model.specs.State.{Byte, Cell, empty, held, owed, State, count_of, tail_bytes, head_bytes, owed_cells, blocks}
use Rattle.model.specs.State.{keeps}
use Rattle.model.specs.Slot.{Call, oldest_of, oldest_cell, head_without, after_delivery, arriving, is_owed, held_cell}
use Rattle.model.specs.Slot.{youngest_cell, moves, places_on, Refill, refill_by, no_refill, refill_of, onward, queue_to_read}
use Rattle.model.specs.Slot.{queue_to_write, joined, asked, wrote}
use Rattle.model.specs.Slot.{swap_tests, swaps, arrival_unknown, arrival_full, arrival_taken, request_drops, halves_taken}
use Rattle.model.specs.Slot.{request_unknown, nothing_to_take, leaves_uncovered, tail_full, head_full, refusals, refusal}
use Rattle.model.proofs.basics.Tests.{by_test, positive, eqb_same, true_not_false}
use Rattle.model.proofs.basics.FirstRefusal.{no_refusal_at, when-zero}
use Rattle.model.proofs.basics.AllOf.{all_true_not}
use Rattle.model.proofs.basics.Bytes.{count_append, count_one_other, count_past, length_without}
use Rattle.model.proofs.one_slot.Rules.{keeps-facts}
use Rattle.model.proofs.one_slot.StepsKeepRules.{count_head_without, owed_after_delivery}
use Rattle.model.proofs.meaning.Steps.{seven_only}
use Rattle.model.proofs.one_slot.Swap.{length_found}
use Rattle.model.proofs.one_slot.Halves.{left-swaps}
use Rattle.model.proofs.one_slot.Accepted.{Judged, judged_facts, early_none}
use Rattle.lookahead.specs.Says.{spent}
use Rattle.layout.specs.Figures.{Figures, figures_of, new_cell}
use Rattle.slot_counts.specs.Says.{tails_asked}
use Rattle.slot_counts.proofs.Kept.{tails_found}
use Rattle.slot_refusals.specs.Says.{owes_now, arrives_at, swap_tests_now, swaps_now, arrival_number, request_number}
use Rattle.slot_refusals.specs.Says.{leaving_number, tail_number, arrival_left, request_left, arrival_found, request_found}
use Rattle.slot_refusals.specs.Says.{early_number, takes_byte, full_now}
use Rattle.slot_plan.specs.Says.{write_now, read_now, swaps_of, left_of}

-- The first refusal of parts: a part stands for its list, and what follows counts only where the list has none.
first_of_part : (ms ns : List ℕ) → first_refusal (first_refusal ms ∷ ns) ≡ first_refusal (ms ++ ns)
first_of_part [] ns = refl
first_of_part (zero ∷ ms) ns = first_of_part ms ns
first_of_part (suc m ∷ ms) ns = refl

first_after : (ms ns ns' : List ℕ) → (first_refusal ms ≡ 0 → first_refusal ns ≡ first_refusal ns')
    → first_refusal (ms ++ ns) ≡ first_refusal (ms ++ ns')
first_after [] ns ns' h = h refl
first_after (zero ∷ ms) ns ns' h = first_after ms ns ns' h
first_after (suc m ∷ ms) ns ns' h = refl

-- Whether the slot swaps: the same tests, and a queue past the last has no tail byte in a state that keeps the rules.
module _ (x : State) (kept : keeps paper x ≡ true) where
  swaps-of_same : (y : Byte)
      → swaps_now (figures_of x) (owes_now (figures_of x) (some y.queue)) (some y) (some y.queue)
      ≡ swaps x (some y) (some y.queue)
  swaps-of_same y =
      by_test (ltb y.queue x.sizes.Q)
      (λ t. rw (t, lt-leb x.sizes.Q y.queue (ltb-true y.queue x.sizes.Q t)))
      (λ t. all_true_not
      (swap_tests_now (figures_of x) (owes_now (figures_of x) (some y.queue)) y (some y.queue)) 0 t
      ∙ sym (all_true_not (swap_tests x y y.queue) 3 (no_byte (ltb-false y.queue x.sizes.Q t))))
    where
      no_byte : x.sizes.Q ≤ y.queue → ltb 0 (tail_bytes x y.queue) ≡ false
      no_byte l =
          ap (ltb 0) (count_past x.sizes.Q x.tail y.queue (keeps-facts paper x kept).within.tail_below l)

  swaps-as_paper : (arrival : Option Byte) (request : Option ℕ)
      → swaps_now (figures_of x) (owes_now (figures_of x) request) arrival request ≡ swaps x arrival request
  swaps-as_paper none none = refl
  swaps-as_paper none (some q) = refl
  swaps-as_paper (some y) none = all_true_not (swap_tests_now (figures_of x) false y none) 2 refl
  swaps-as_paper (some y) (some q) =
      by_test (eqb q y.queue)
      (λ t. subst (λ (p : ℕ). swaps_now (figures_of x) (owes_now (figures_of x) (some p)) (some y) (some p)
      ≡ swaps x (some y) (some p)) (sym (eqb-true q y.queue t)) (swaps-of_same y))
      (λ t. all_true_not (swap_tests_now (figures_of x) (owes_now (figures_of x) (some q)) y (some q)) 2 t
      ∙ sym (all_true_not (swap_tests x y q) 1 t))

-- 4 and 5.
two_tests : (s t : Bool) (m n : ℕ) → choose s (suc m) (when t (suc n))
    ≡ first_refusal (when s (suc m) ∷ when t (suc n) ∷ [])
two_tests true t m n = refl
two_tests false true m n = refl
two_tests false false m n = refl

arrival-as_paper : (x : State) (arrival : Option Byte) (request : Option ℕ)
    → arrival_number (figures_of x) (swaps x arrival request) arrival
    ≡ first_refusal (when (arrival_unknown x arrival) 4 ∷ when (arrival_full x arrival request) 5 ∷ [])
arrival-as_paper x none request = refl
arrival-as_paper x (some y) request = two_tests (arrival_unknown x (some y)) (arrival_full x (some y) request) 3 4

-- 6 and 7: the arrival is counted as its queue is compared.
none_with_arrival : (q : ℕ) (tail : List Byte) (arrival : Option Byte)
    → eqb (count_of q (tail ++ arriving arrival)) 0 ≡ choose (arrives_at arrival q) false (eqb (count_of q tail) 0)
none_with_arrival q tail none =
    ap (λ (n : ℕ). eqb n 0)
    (let e : count_of q (tail ++ []) ≡ count_of q tail = omega (arith, count_append q tail []) in e)
none_with_arrival q tail (some y) =
    by_test (eqb y.queue q)
    (λ t. rw t (ne_eqb (count_of q (tail ++ y ∷ [])) 0
    (λ e. omega (arith, e, rw t at (count_append q tail (y ∷ []))))))
    (λ t. rw t (ap (λ (n : ℕ). eqb n 0)
    (let e : count_of q (tail ++ y ∷ []) ≡ count_of q tail
    = omega (arith, count_append q tail (y ∷ []), count_one_other y q t) in e)))

three_tests : (unknown owing arrives nothing : Bool)
    → choose unknown 6 (choose (choose unknown false owing) 0 (choose arrives 0 (when nothing 7)))
    ≡ first_refusal (when unknown 6 ∷ when (not owing && choose arrives false nothing) 7 ∷ [])
three_tests true owing arrives nothing = refl
three_tests false true arrives nothing = refl
three_tests false false true nothing = refl
three_tests false false false true = refl
three_tests false false false false = refl

request-as_paper : (x : State) (arrival : Option Byte) (request : Option ℕ)
    → request_number (figures_of x) (owes_now (figures_of x) request) arrival request
    ≡ first_refusal (when (request_unknown x request) 6 ∷ when (nothing_to_take x arrival request) 7 ∷ [])
request-as_paper x arrival none = refl
request-as_paper x arrival (some q) =
    three_tests (request_unknown x (some q)) (is_owed x q) (arrives_at arrival q) (eqb (tail_bytes x q) 0)
    ∙ ap (λ (t : Bool). first_refusal (when (request_unknown x (some q)) 6 ∷ when (not (is_owed x q) && t) 7 ∷ []))
    (sym (none_with_arrival q x.tail arrival))

-- 8 and 9.
leaving_as_paper : (x : State) (cell : Cell) → leaving_number (head_bytes x) cell ≡ when (leaves_uncovered cell x) 8
leaving_as_paper x empty = refl
leaving_as_paper x (held q v) = refl
leaving_as_paper x (owed q) = refl

tail_as_paper : (x : State) (arrival : Option Byte) (request : Option ℕ)
    → tail_number x.sizes (length x.tail) (swaps x arrival request) arrival
    ≡ when (tail_full x arrival request) 9
tail_as_paper x none request = refl
tail_as_paper x (some y) request =
    ap (λ (n : ℕ). when (leb (tail_size x.sizes) n) 9) (sym (length_found x (some y) request))

-- A number of two tests is the first that holds; where the first does not hold, the second alone.
first_is : (u v : Bool) (m n : ℕ) → (suc m ≡ suc n → ⊥)
    → when (eqb (first_refusal (when u (suc m) ∷ when v (suc n) ∷ [])) (suc m)) (suc m) ≡ when u (suc m)
first_is true v m n f = ap (λ (t : Bool). when t (suc m)) (eqb_same (suc m))
first_is false true m n f = ap (λ (t : Bool). when t (suc m)) (ne_eqb (suc n) (suc m) (λ e. f (sym e)))
first_is false false m n f = ap (λ (t : Bool). when t (suc m)) (ne_eqb 0 (suc m) (λ e. omega (arith, e)))

second_is : (u v : Bool) (m n : ℕ) → u ≡ false
    → first_refusal (when u (suc m) ∷ when v (suc n) ∷ []) ≡ when v (suc n)
second_is true v m n e = absurd (true_not_false true refl e)
second_is false true m n e = refl
second_is false false m n e = refl

told-by : (v : Bool) (n : ℕ) → eqb (when v (suc n)) (suc n) ≡ v
told-by true n = eqb_same (suc n)
told-by false n = ne_eqb 0 (suc n) (λ e. omega (arith, e))

-- The numbers of a call's halves, and what is left of it, are the paper's, where the queues are known.
module _ (x : State) (kept : keeps paper x ≡ true) (call : Call) where
  abbrev f : Figures
  f = figures_of x

  abbrev o : Bool
  o = owes_now (figures_of x) call.request

  arrival-found : arrival_found f o call
      ≡ first_refusal (
      when (arrival_unknown x call.arrival) 4 ∷ when (arrival_full x call.arrival call.request) 5 ∷ [])
  arrival-found =
      ap (λ (t : Bool). arrival_number f t call.arrival) (swaps-as_paper x kept call.arrival call.request)
      ∙ arrival-as_paper x call.arrival call.request

  request-found : request_found f o call
      ≡ first_refusal (
      when (request_unknown x call.request) 6 ∷
      when (nothing_to_take x (left_of f call).arrival call.request) 7 ∷ [])
  request-found = request-as_paper x (left_of f call).arrival call.request

  stops_by_4 : when (eqb (arrival_found f o call) 4) 4 ≡ when (arrival_unknown x call.arrival) 4
  stops_by_4 =
      ap (λ (n : ℕ). when (eqb n 4) 4) arrival-found
      ∙ first_is (arrival_unknown x call.arrival) (arrival_full x call.arrival call.request) 3 4
      (λ e. omega (arith, e))

  stops_by_6 : when (eqb (request_found f o call) 6) 6 ≡ when (request_unknown x call.request) 6
  stops_by_6 =
      ap (λ (n : ℕ). when (eqb n 6) 6) request-found
      ∙ first_is (request_unknown x call.request) (nothing_to_take x (left_of f call).arrival call.request) 5 6
      (λ e. omega (arith, e))

  module _ (known : arrival_unknown x call.arrival ≡ false) where
    five_as_paper : arrival_found f o call ≡ when (arrival_full x call.arrival call.request) 5
    five_as_paper =
        arrival-found
        ∙ second_is (arrival_unknown x call.arrival) (arrival_full x call.arrival call.request) 3 4 known

    arrival-left : (left_of f call).arrival ≡ arrival_taken x call
    arrival-left =
        ap (λ (n : ℕ). arrival_left n call.arrival) five_as_paper
        ∙ ap (λ (t : Bool). choose t none call.arrival)
        (told-by (arrival_full x call.arrival call.request) 4)

    nine_as_paper :
        tail_number x.sizes (length x.tail) (swaps_of f call) (left_of f call).arrival
        ≡ when (tail_full x (halves_taken x call).arrival (halves_taken x call).request) 9
    nine_as_paper =
        ap (λ (t : Bool). tail_number x.sizes (length x.tail) t (left_of f call).arrival)
        (swaps-as_paper x kept call.arrival call.request ∙ sym (left-swaps x call))
        ∙ ap (tail_number x.sizes (length x.tail)
        (swaps x (halves_taken x call).arrival (halves_taken x call).request)) arrival-left
        ∙ tail_as_paper x (halves_taken x call).arrival (halves_taken x call).request

    module _ (asked-known : request_unknown x call.request ≡ false) where
      seven_as_paper : request_found f o call ≡ when (request_drops x call) 7
      seven_as_paper =
          request-found
          ∙ second_is (request_unknown x call.request) (nothing_to_take x (left_of f call).arrival call.request) 5 6
          asked-known
          ∙ ap (λ (a : Option Byte). when (nothing_to_take x a call.request) 7) arrival-left

      left-as_paper : left_of f call ≡ halves_taken x call
      left-as_paper =
          ap (λ (a : Option Byte). record { arrival = a; request = (left_of f call).request }) arrival-left
          ∙ ap (λ (r : Option ℕ). record { arrival = arrival_taken x call; request = r })
          (ap (λ (n : ℕ). request_left n call.request) seven_as_paper
          ∙ ap (λ (t : Bool). choose t none call.request) (told-by (request_drops x call) 6))

-- A Held cell at the end is passed over as an empty one is.
held_passed : (credits : ℕ → ℕ) (cells : List Cell) (q v : ℕ)
    → refill_by credits (cells ++ empty ∷ []) ≡ refill_by credits (cells ++ held q v ∷ [])
held_passed credits [] q v = refl
held_passed credits (empty ∷ cells) q v = ap (onward 1) (held_passed credits cells q v)
held_passed credits (held p u ∷ cells) q v = ap (onward 1) (held_passed credits cells q v)
held_passed credits (owed p ∷ cells) q v =
    ap (λ (r : Refill). record {
      queue = choose (eqb (credits p) 0) (some p) r.queue;
      slots_left = choose (eqb (credits p) 0) 1 (places_on 1 r.slots_left);
    })
    (held_passed (update credits p (credits p - 1)) cells q v)

byte-passed : (credits : ℕ → ℕ) (cells : List Cell) (q : ℕ) (o : Option ℕ)
    → refill_by credits (cells ++ empty ∷ []) ≡ refill_by credits (cells ++ held_cell q o ∷ [])
byte-passed credits cells q none = refl
byte-passed credits cells q (some v) = held_passed credits cells q v

new_cell_passed : (y : State) (credits : ℕ → ℕ) (cells : List Cell) (q : ℕ)
    → refill_by credits (cells ++ new_cell (is_owed y q) (some q) ∷ [])
    ≡ refill_by credits (cells ++ youngest_cell y (some q) ∷ [])
new_cell_passed y credits cells q =
    by_test (is_owed y q)
    (λ t. rw t)
    (λ t. rw t (byte-passed credits cells q (oldest_of q y.tail)))

-- What is read at phase b - 1 alone, as a whole and part by part.
by_phase : (t : Bool) (r : Refill)
    → choose t r no_refill ≡ record { queue = choose t r.queue none; slots_left = choose t r.slots_left 0 }
by_phase true r = refl
by_phase false r = refl

-- The head has as many bytes fewer as the leaving cell takes.
length_taken : (x : State) (cell : Cell) → leaves_uncovered cell x ≡ false
    → length x.head - takes_byte cell ≡ length (head_without cell x.head)
length_taken x empty e = omega arith
length_taken x (held q v) e = omega arith
length_taken x (owed q) e =
    omega (arith, length_without 1 q x.head (positive (head_bytes x q) (eqb-false (head_bytes x q) 0 e)))

full-alike : (x : State) (call : Call) → leaves_uncovered (oldest_cell x.cells) x ≡ false → (read : Option ℕ)
    → full_now x.sizes (length x.head) (oldest_cell x.cells) read ≡ head_full (wrote x call) read
full-alike x call e none = refl
full-alike x call e (some q) =
    ap (λ (n : ℕ). ltb (head_size x.sizes) (n + x.sizes.b)) (length_taken x (oldest_cell x.cells) e)

-- Where none of them stops the slot, the steps find what was judged before them, of a call that drops nothing.
module _ (x : State) (store : List ℕ) (call : Call) (j : Judged paper x store call) where
  owed_alike : (q : ℕ) → is_owed x q ≡ is_owed (joined x call) q
  owed_alike q =
      by_test (is_owed x q)
      (λ t. t ∙ sym (lt-ltb (owed_cells y q) (head_bytes y q + bytes)
      (omega (arith, owed_after_delivery x q j.covered, ltb-true (owed_cells x q) (head_bytes x q + bytes) t))))
      (λ t. t ∙ sym (le-ltb (owed_cells y q) (head_bytes y q + bytes)
      (omega (arith, owed_after_delivery x q j.covered, ltb-false (owed_cells x q) (head_bytes x q + bytes) t))))
    where
      y : State
      y = after_delivery x

      bytes : ℕ
      bytes = x.sizes.b * blocks x q

  owes-alike : (q : ℕ) → call.request ≡ some q → owes_now (figures_of x) call.request ≡ is_owed (joined x call) q
  owes-alike q e = ap (owes_now (figures_of x)) e ∙ rw (lt-leb x.sizes.Q q (j.request_ok q e)) (owed_alike q)

  new_cell_alike : (credits : ℕ → ℕ) (cells : List Cell) (request : Option ℕ)
      → ((q : ℕ) → request ≡ some q → owes_now (figures_of x) request ≡ is_owed (joined x call) q)
      → refill_by credits (cells ++ new_cell (owes_now (figures_of x) request) request ∷ [])
      ≡ refill_by credits (cells ++ youngest_cell (joined x call) request ∷ [])
  new_cell_alike credits cells none h = refl
  new_cell_alike credits cells (some q) h =
      ap (λ (t : Bool). refill_by credits (cells ++ new_cell t (some q) ∷ [])) (h q refl)
      ∙ new_cell_passed (joined x call) credits cells q

  read_alike : read_now x.phase x.sizes (head_bytes x) x.cells (owes_now (figures_of x) call.request)
      call.request ≡ refill_of (wrote x call)
  read_alike =
      ap (λ (r : Refill). choose (moves x) r no_refill)
      (new_cell_alike (spent (head_bytes x) (oldest_cell x.cells)) (drop 1 x.cells) call.request owes-alike
      ∙ ap (λ (credits : ℕ → ℕ). refill_by credits (wrote x call).cells)
      (fun_ext (λ q. sym (count_head_without (oldest_cell x.cells) x.head q))))
      ∙ by_phase (moves x) (refill_by (head_bytes (wrote x call)) (wrote x call).cells)

-- A request that is dropped would not be Owed, so that what is left of the call is Owed as the call is.
owes-left : (x : State) (call : Call) → owes_now (figures_of x) (halves_taken x call).request
    ≡ owes_now (figures_of x) call.request
owes-left x call = go call.request refl
  where
    dropped : (q : ℕ) → call.request ≡ some q → request_drops x call ≡ true → is_owed x q ≡ false
    dropped q e d =
        (seven_only x (arrival_taken x call) q (ap (nothing_to_take x (arrival_taken x call)) (sym e) ∙ d)).0

    go : (request : Option ℕ) → call.request ≡ request
        → owes_now (figures_of x) (halves_taken x call).request ≡ owes_now (figures_of x) call.request
    go none e =
        ap (λ (r : Option ℕ). owes_now (figures_of x) (choose (nothing_to_take x (arrival_taken x call) r) none r)) e
        ∙ ap (owes_now (figures_of x)) (sym e)
    go (some q) e =
        by_test (request_drops x call)
        (λ d. ap (λ (t : Bool). owes_now (figures_of x) (choose t none call.request)) d
        ∙ sym (ap (owes_now (figures_of x)) e ∙ not-owed (leb x.sizes.Q q) (dropped q e d)))
        (λ d. ap (λ (t : Bool). owes_now (figures_of x) (choose t none call.request)) d)
      where
        not-owed : (t : Bool) → is_owed x q ≡ false → choose t false (is_owed x q) ≡ false
        not-owed true n = refl
        not-owed false n = n

-- 3 and 2 do not hold of a state that keeps the rules and a store that is long enough.
passed : (keeping short : Bool) (ns : List ℕ) → keeping ≡ true → short ≡ false
    → first_refusal (when (not keeping) 3 ∷ when short 2 ∷ ns) ≡ first_refusal ns
passed keeping short ns e f = rw (e, f)

module _ (x : State) (store : List ℕ) (call : Call) (kept : keeps paper x ≡ true) where
  abbrev left : Call
  left = halves_taken x call

  -- 4 and 6, and the other stops before the read.
  abbrev unknowns : List ℕ
  unknowns = when (arrival_unknown x call.arrival) 4 ∷ when (request_unknown x call.request) 6 ∷ []

  abbrev others : List ℕ
  others =
      when (leaves_uncovered (oldest_cell x.cells) x) 8 ∷ when (tail_full x left.arrival left.request) 9 ∷ []

  arrival-known : first_refusal unknowns ≡ 0 → arrival_unknown x call.arrival ≡ false
  arrival-known e = when-zero _ 3 (no_refusal_at unknowns 0 e)

  request-known : first_refusal unknowns ≡ 0 → request_unknown x call.request ≡ false
  request-known e = when-zero _ 5 (no_refusal_at unknowns 1 e)

  early_as_paper : early_number (figures_of x) (owes_now (figures_of x) call.request) (oldest_cell x.cells) call
      ≡ first_refusal (unknowns ++ others)
  early_as_paper =
      rw (stops_by_4 x kept call, stops_by_6 x kept call, leaving_as_paper x (oldest_cell x.cells))
      (first_after unknowns (when (leaves_uncovered (oldest_cell x.cells) x) 8 ∷ nine ∷ []) others
      (λ e. ap (λ (n : ℕ). first_refusal (when (leaves_uncovered (oldest_cell x.cells) x) 8 ∷ n ∷ []))
      (nine_as_paper x kept call (arrival-known e))))
    where
      nine : ℕ
      nine =
          tail_number x.sizes (length x.tail) (swaps_of (figures_of x) call) (left_of (figures_of x) call).arrival

  pub plan_refusal : store_bytes x.sizes ≤ length store
      → first_refusal (
      early_number (figures_of x) (owes_now (figures_of x) call.request) (oldest_cell x.cells) call ∷
      when (full_now x.sizes (length x.head) (oldest_cell x.cells)
      (read_now x.phase x.sizes (head_bytes x) x.cells (owes_now (figures_of x) call.request)
      (left_of (figures_of x) call).request).queue) 10 ∷ [])
      ≡ refusal paper x store call
  plan_refusal long =
      ap (λ (n : ℕ). first_refusal (n ∷ when full-before 10 ∷ [])) early_as_paper
      ∙ first_of_part (unknowns ++ others) (when full-before 10 ∷ [])
      ∙ first_after (unknowns ++ others) (when full-before 10 ∷ []) (when full-then 10 ∷ [])
      (λ e. ap (λ (t : Bool). first_refusal (when t 10 ∷ [])) (full-same (none_unknown e) (judged e)))
      ∙ sym (passed (keeps paper x) short (unknowns ++ others ++ when full-then 10 ∷ []) kept enough)
    where
      short : Bool
      short = ltb (length store) (store_bytes x.sizes)

      enough : short ≡ false
      enough = le-ltb (length store) (store_bytes x.sizes) long

      full-before : Bool
      full-before =
          full_now x.sizes (length x.head) (oldest_cell x.cells)
          (read_now x.phase x.sizes (head_bytes x) x.cells (owes_now (figures_of x) call.request)
          (left_of (figures_of x) call).request).queue

      full-then : Bool
      full-then = head_full (wrote x left) (queue_to_read (wrote x left))

      none_unknown : first_refusal (unknowns ++ others) ≡ 0 → first_refusal unknowns ≡ 0
      none_unknown e =
          rw (no_refusal_at (unknowns ++ others) 0 e, no_refusal_at (unknowns ++ others) 1 e)

      judged : first_refusal (unknowns ++ others) ≡ 0 → Judged paper x store left
      judged e = judged_facts paper x store call (passed (keeps paper x) short (unknowns ++ others) kept enough ∙ e)

      full-same : first_refusal unknowns ≡ 0 → Judged paper x store left → full-before ≡ full-then
      full-same u j =
          ap (λ (c : Call). full_now x.sizes (length x.head) (oldest_cell x.cells)
          (read_now x.phase x.sizes (head_bytes x) x.cells (owes_now (figures_of x) call.request)
          c.request).queue) (left-as_paper x kept call (arrival-known u) (request-known u))
          ∙ ap (λ (t : Bool). full_now x.sizes (length x.head) (oldest_cell x.cells)
          (read_now x.phase x.sizes (head_bytes x) x.cells t left.request).queue) (sym (owes-left x call))
          ∙ ap (λ (r : Refill). full_now x.sizes (length x.head) (oldest_cell x.cells) r.queue)
          (read_alike x store left j)
          ∙ full-alike x left j.covered (queue_to_read (wrote x left))

  -- A slot that goes on.
  module _ (accepted : refusal paper x store call ≡ 0) where
    known : arrival_unknown x call.arrival ≡ false
    known = when-zero _ 3 (no_refusal_at (refusals paper x store call) 2 accepted)

    asked-known : request_unknown x call.request ≡ false
    asked-known = when-zero _ 5 (no_refusal_at (refusals paper x store call) 3 accepted)

    judged : Judged paper x store left
    judged = judged_facts paper x store call (early_none paper x store call accepted)

    pub plan_left : left_of (figures_of x) call ≡ left
    plan_left = left-as_paper x kept call known asked-known

    pub plan_arrival_number : arrival_found (figures_of x) (owes_now (figures_of x) call.request) call
        ≡ when (arrival_full x call.arrival call.request) 5
    plan_arrival_number = five_as_paper x kept call known

    pub plan_request_number : request_found (figures_of x) (owes_now (figures_of x) call.request) call
        ≡ when (request_drops x call) 7
    plan_request_number = seven_as_paper x kept call known asked-known

    pub plan_owes : (q : ℕ) → left.request ≡ some q
        → owes_now (figures_of x) call.request ≡ is_owed (joined x left) q
    plan_owes q e = sym (owes-left x call) ∙ owes-alike x store left judged q e

    pub plan_swaps : swaps_of (figures_of x) call ≡ swaps x left.arrival left.request
    plan_swaps = swaps-as_paper x kept call.arrival call.request ∙ sym (left-swaps x call)

    pub plan_read :
        read_now x.phase x.sizes (head_bytes x) x.cells (owes_now (figures_of x) call.request)
        (left_of (figures_of x) call).request
        ≡ refill_of (wrote x left)
    plan_read =
        ap (λ (c : Call). read_now x.phase x.sizes (head_bytes x) x.cells (owes_now (figures_of x) call.request)
        c.request) plan_left
        ∙ ap (λ (t : Bool). read_now x.phase x.sizes (head_bytes x) x.cells t left.request)
        (sym (owes-left x call))
        ∙ read_alike x store left judged

    pub plan_written :
        write_now x.phase x.sizes
        (tails_asked (owes_now (figures_of x) call.request) (left_of (figures_of x) call) (tail_bytes x))
        ≡ queue_to_write (asked x left)
    plan_written =
        ap (λ (c : Call). write_now x.phase x.sizes
        (tails_asked (owes_now (figures_of x) call.request) c (tail_bytes x))) plan_left
        ∙ ap (write_now x.phase x.sizes) (tails_found x left plan_owes (λ q. refl))
