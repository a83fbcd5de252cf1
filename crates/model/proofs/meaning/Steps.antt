-- What the steps mean, in the paper's words: small laws that say of each definition what its sentence says. The
-- theory rests on these, and a definition that says something else is refused here first. Each law stands under its
-- sentence.
use mathlib.Core.Path.{◌≡◌, refl, ap, ◌∙◌}
use mathlib.Core.Bool.{Bool, true, false, ◌&&◌, not}
use mathlib.Core.List.{List, ◌++◌}
use mathlib.Core.Option.{Option, some, none}
use Prim.Native.Nat.{ℕ, suc, ◌+◌, ◌-◌, ◌*◌, ◌≤◌, max}
use native.Mathlib.Omega.{arith}
use lib.Dec.{ltb}
use lib.ListN.{length, drop, get_or, length-replicate, length-append}
use borrow.Author.Tests.{ltb-true, ltb-false, ne_eqb, eqb-true, eq-eqb, le-leb, le-ltb, not-true}
use Rattle.model.specs.Basics.{choose, when}
use Rattle.model.specs.Sizes.{Sizes, Limits, Design, tail_size, full, one_fewer}
use Rattle.model.specs.State.{Byte, empty, held, owed, State, fresh, values_of, count_of, tail_bytes, head_bytes}
use Rattle.model.specs.State.{blocks}
use Rattle.model.specs.Slot.{Call, oldest_of, held_cell, youngest_cell, arrival_full, is_full, swaps, without}
use Rattle.model.specs.Slot.{oldest_cell, delivery_of, arriving, is_owed, tail_left, moves, fullest, queue_to_write}
use Rattle.model.specs.Slot.{after_arrival, refill_queue, queue_to_read, joined, nothing_to_take, tail_found, tail_full}
use Rattle.model.specs.Slot.{arrival_unknown, request_unknown, request_drops, halves_taken, refusals, carried_out}
use Rattle.model.specs.Slot.{Answer}
use Rattle.model.specs.Lists.{joined_fill_of, read_fill_of}
use Rattle.model.specs.Arbiter.{can_be_asked, queue_after, first_from, choice, last_after, noting}
use Rattle.model.proofs.basics.Tests.{by_test, and_left, and_right}
use Rattle.model.proofs.basics.Bytes.{values-without_same}

-- "A fresh state has all L cells empty": as many as its design has, L in the paper's and L - 1 with one fewer.
pub fresh_cells : (design : Design) (s : Sizes) → length (fresh design s).cells ≡ design.cell_count s
fresh_cells design s = length-replicate (design.cell_count s) empty

pub full-cells : (limits : Limits) (s : Sizes) → length (fresh (full limits) s).cells ≡ s.Q * (s.b - 1) + 1
full-cells limits s = fresh_cells (full limits) s

pub fewer_cells : (limits : Limits) (s : Sizes)
    → length (fresh (one_fewer limits) s).cells + 1 ≡ length (fresh (full limits) s).cells
fewer_cells limits s = omega (arith, full-cells limits s, fresh_cells (one_fewer limits) s)

-- 1. The oldest cell has left, and its byte is fixed, before the arrival joins: the head as handed in delivers.
pub leaves_first : (x : State) (call : Call) → (joined x call).cells ≡ drop 1 x.cells
leaves_first x call = refl

pub delivers_as_handed_in : (x : State) (store : List ℕ) (call : Call)
    → (carried_out 0 0 x store call).reply.delivered ≡ delivery_of (oldest_cell x.cells) x.head
delivers_as_handed_in x store call = refl

-- 3. "A byte asked for while in the tail travels in its cell and never goes to slow store": it leaves the tail.
pub held_takes_from_tail : (x : State) (q : ℕ) → is_owed x q ≡ false → tail_left x (some q) ≡ without 1 q x.tail
held_takes_from_tail x q t = ap (λ (b : Bool). choose b x.tail (without 1 q x.tail)) t

pub held_byte_leaves_tail : (x : State) (q : ℕ) → is_owed x q ≡ false
    → values_of q (tail_left x (some q)) ≡ drop 1 (values_of q x.tail)
held_byte_leaves_tail x q t = ap (values_of q) (held_takes_from_tail x q t) ∙ values-without_same 1 q x.tail

pub held_byte_travels : (x : State) (q v : ℕ) → is_owed x q ≡ false → oldest_of q x.tail ≡ some v
    → youngest_cell x (some q) ≡ held q v
held_byte_travels x q v t e =
    ap (λ (b : Bool). choose b (owed q) (held_cell q (oldest_of q x.tail))) t ∙ ap (held_cell q) e

pub owed_leaves_tail : (x : State) (q : ℕ) → is_owed x q ≡ true → tail_left x (some q) ≡ x.tail
owed_leaves_tail x q t = ap (λ (b : Bool). choose b x.tail (without 1 q x.tail)) t

-- 4. The two moves are made at phase b - 1 and at no other.
abbrev written : State → Bool → Option ℕ
written y t = choose t (fullest y.sizes.b (tail_bytes y) y.sizes.Q) none

abbrev read_from : State → Bool → Option ℕ
read_from y t = choose t (refill_queue (head_bytes y) y.cells) none

pub move_writes_fullest : (y : State) → moves y ≡ true
    → queue_to_write y ≡ fullest y.sizes.b (tail_bytes y) y.sizes.Q
move_writes_fullest y t = ap (written y) t

pub no_move_no_write : (y : State) → moves y ≡ false → queue_to_write y ≡ none
no_move_no_write y t = ap (written y) t

pub move_reads_scan : (y : State) → moves y ≡ true → queue_to_read y ≡ refill_queue (head_bytes y) y.cells
move_reads_scan y t = ap (read_from y) t

pub no_move_no_read : (y : State) → moves y ≡ false → queue_to_read y ≡ none
no_move_no_read y t = ap (read_from y) t

-- "The tail also just after the arrival joins it": its bytes as handed in, and the arriving one. (Of a slot that swaps
-- it is `swap_looked_at`, in proofs/one_slot/Swap.)
pub tail_looked_at : (x : State) (call : Call) → swaps x call.arrival call.request ≡ false
    → joined_fill_of 0 x call ≡ length x.tail + length (arriving call.arrival)
tail_looked_at x call t = rw t (length-append x.tail (arriving call.arrival))

-- So an arrival raises the tail's high mark, with the byte that joins, and no request has a part in it.
pub arrival-raises_mark : (arrival : Option Byte) (x : State)
    → (after_arrival arrival x).tail_mark ≡ max x.tail_mark (length (x.tail ++ arriving arrival))
arrival-raises_mark arrival x = refl

-- "The head also just after the read": nothing leaves it after that, so that it is the head as the slot ends.
pub head_looked_at : (x : State) (store : List ℕ) (call : Call)
    → read_fill_of 0 x store call ≡ length (carried_out 0 0 x store call).state.head
head_looked_at x store call = refl

-- Request 2.8: "On a handed-in state the mark is the greater of the old one and the new fill." (Of the tail it is
-- `tail_mark_rises`, in proofs/HighMarks.)
pub head_mark_rises : (x : State) (store : List ℕ) (call : Call)
    → (carried_out 0 0 x store call).state.head_mark ≡ max x.head_mark (read_fill_of 0 x store call)
head_mark_rises x store call = refl

-- 7 comes only where the request would be Held and its queue has no byte in the tail, this slot's arrival counted;
-- and there it does come.
pub seven_only : (x : State) (arrival : Option Byte) (q : ℕ) → nothing_to_take x arrival (some q) ≡ true
    → (is_owed x q ≡ false) × (count_of q (x.tail ++ arriving arrival) ≡ 0)
seven_only x arrival q e = (
  not-true (is_owed x q) (and_left (not (is_owed x q)) _ e),
  eqb-true (count_of q (x.tail ++ arriving arrival)) 0 (and_right (not (is_owed x q)) _ e),
)

pub seven_there : (x : State) (arrival : Option Byte) (q : ℕ) → is_owed x q ≡ false
    → count_of q (x.tail ++ arriving arrival) ≡ 0 → nothing_to_take x arrival (some q) ≡ true
seven_there x arrival q t e = rw t (eq-eqb (count_of q (x.tail ++ arriving arrival)) 0 e)

-- Request 2.5. A dropped arrival never came, and "7 is judged without a dropped arrival"; a dropped request never came.
pub dropped_arrival_gone : (x : State) (call : Call) → arrival_full x call.arrival call.request ≡ true
    → (halves_taken x call).arrival ≡ none
dropped_arrival_gone x call e = ap (λ (t : Bool). choose t none call.arrival) e

pub seven_without_it : (x : State) (call : Call) → arrival_full x call.arrival call.request ≡ true
    → request_drops x call ≡ nothing_to_take x none call.request
seven_without_it x call e = ap (λ (t : Bool). nothing_to_take x (choose t none call.arrival) call.request) e

pub dropped_request_gone : (x : State) (call : Call) → request_drops x call ≡ true → (halves_taken x call).request ≡ none
dropped_request_gone x call e = ap (λ (t : Bool). choose t none call.request) e

-- 4 and 6 look at the call as it came, 9 at what is left of it.
pub four_of_the_call : (design : Design) (x : State) (store : List ℕ) (call : Call)
    → get_or (refusals design x store call) 2 0 ≡ when (arrival_unknown x call.arrival) 4
four_of_the_call design x store call = refl

pub six_of_the_call : (design : Design) (x : State) (store : List ℕ) (call : Call)
    → get_or (refusals design x store call) 3 0 ≡ when (request_unknown x call.request) 6
six_of_the_call design x store call = refl

pub nine_of_what_is_left : (design : Design) (x : State) (store : List ℕ) (call : Call)
    → get_or (refusals design x store call) 5 0
    ≡ when (tail_full x (halves_taken x call).arrival (halves_taken x call).request) 9
nine_of_what_is_left design x store call = refl

-- 5 comes exactly where the queue has no space left for the byte, its tail bytes and its blocks filling its K blocks,
-- and the slot does not swap.
pub five_exactly : (x : State) (y : Byte) (request : Option ℕ)
    → tail_bytes x y.queue + x.sizes.b * blocks x y.queue ≤ x.sizes.K * x.sizes.b
    → arrival_full x (some y) request
    ≡ not (ltb (tail_bytes x y.queue + x.sizes.b * blocks x y.queue) (x.sizes.K * x.sizes.b))
    && not (swaps x (some y) request)
five_exactly x y request room = ap (λ (full : Bool). full && not (swaps x (some y) request)) full_is
  where
    used : ℕ
    used = tail_bytes x y.queue + x.sizes.b * blocks x y.queue

    all : ℕ
    all = x.sizes.K * x.sizes.b

    full_is : is_full x y.queue ≡ not (ltb used all)
    full_is =
        by_test (ltb used all)
        (λ t. rw t (ne_eqb used all (λ e. omega (arith, ltb-true used all t, e))))
        (λ t. rw t (eq-eqb used all (omega (arith, ltb-false used all t))))

-- 9 comes where the tail that it looks at has no place left.
pub nine_there : (x : State) (y : Byte) (request : Option ℕ)
    → tail_size x.sizes ≤ length (tail_found x (some y) request) → tail_full x (some y) request ≡ true
nine_there x y request full = le-leb (tail_size x.sizes) (length (tail_found x (some y) request)) full

-- Request 2.2: "the next queue, counting up from the last one asked and wrapping": queue 0 comes after the last, and
-- the queue after the last one asked is the first that is looked at.
pub queues_wrap : (Q q : ℕ) → suc q ≡ Q → queue_after Q q ≡ 0
queues_wrap Q q e = rw (le-ltb (suc q) Q (omega (arith, e)))

pub looks_after_the_last : (x : State) (arrival : Option Byte) (n : ℕ) → x.sizes.Q ≡ suc n
    → can_be_asked x arrival (queue_after x.sizes.Q x.last_asked) ≡ true
    → choice x arrival ≡ some (queue_after x.sizes.Q x.last_asked)
looks_after_the_last x arrival n e t =
    ap (λ (m : ℕ). first_from x.sizes.Q (can_be_asked x arrival) m (queue_after x.sizes.Q x.last_asked)) e ∙ rw t

-- The queue asked is noted; "a refused slot or a caller's own request leaves it unchanged".
pub handed_on : (x : State) (store : List ℕ) (call : Call)
    → (carried_out 0 0 x store call).state.last_asked ≡ x.last_asked
handed_on x store call = refl

pub noted-as_last : (last : ℕ) (a : Answer) → (noting last a).state.last_asked ≡ last
noted-as_last last a = refl

pub refused-leaves_last : (n : ℕ) (request : Option ℕ) (last : ℕ) → last_after (suc n) request last ≡ last
refused-leaves_last n request last = refl
