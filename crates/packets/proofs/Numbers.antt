-- What is left for the buffer's own slot to refuse, once the layer's tests let a call pass: 8, 9 and 10. For state and
-- record keep their rules, the store is long enough, and the byte and the byte request are of queues that there are.
-- `buffer_stops_high` says it.
use mathlib.Core.Path.{◌≡◌, refl, ap, ◌∙◌, subst, sym}
use mathlib.Core.Bool.{Bool, true, false, ◌&&◌, not}
use mathlib.Core.List.{List}
use mathlib.Core.Option.{some, none}
use Prim.Native.Nat.{ℕ, ◌≤◌}
use native.Mathlib.Omega.{arith}
use lib.Dec.{ltb}
use lib.ListN.{length, take, get_or}
use borrow.Author.Tests.{lt-leb, not-false}
use Rattle.model.specs.Basics.{choose, when, first_refusal}
use Rattle.model.specs.Sizes.{Design, store_bytes}
use Rattle.model.specs.State.{State, keeps}
use Rattle.model.specs.Slot.{Call, oldest_cell, wrote, queue_to_read, arrival_unknown, request_unknown, halves_taken}
use Rattle.model.specs.Slot.{leaves_uncovered, tail_full, head_full, refusals, slot}
use Rattle.packets.specs.Packets.{PacketRecord, record_keeps, PacketCall, byte_call, packet_refusals}
use Rattle.model.proofs.basics.Tests.{by_test, and_left, and_right, true_not_false}
use Rattle.model.proofs.basics.AllOf.{◌also◌}
use Rattle.model.proofs.basics.FirstRefusal.{no_refusal_at, when-zero, first_has, when-has}
use Rattle.model.proofs.one_slot.Accepted.{refusal-told}
use Rattle.packets.proofs.Slots.{RecordKeeps, record-facts}

-- A byte request is of a queue that there is.
pub byte-asked_known : (x : State) (r : PacketRecord) (call : PacketCall) → RecordKeeps x.sizes.Q r
    → request_unknown x (byte_call r call).request ≡ false
byte-asked_known x r call v =
    by_test (ltb 0 r.left)
    (λ t. ap (λ (b : Bool). request_unknown x (choose b (some r.asked) none)) t
    ∙ lt-leb x.sizes.Q r.asked v.asked-below)
    (λ t. ap (λ (b : Bool). request_unknown x (choose b (some r.asked) none)) t)

pub buffer_stops_high : (design : Design) (x : State) (store : List ℕ) (r : PacketRecord) (call : PacketCall)
    → first_refusal (take 7 (packet_refusals design x store r call)) ≡ 0
    → ((slot design x store (byte_call r call)).reply.number ≡ 0 → ⊥)
    → 8 ≤ (slot design x store (byte_call r call)).reply.number
buffer_stops_high design x store r call e =
    subst High (sym (refusal-told design x store bytes))
    (first_has High (refusals design x store bytes) (λ z. absurd (z refl)) (
    passed (not (keeps design x)) 3 (ap not (and_left (keeps design x) (record_keeps x.sizes.Q r) both))
    also passed (ltb (length store) (store_bytes x.sizes)) 2 (when-zero _ 1 (none_at 1))
    also passed (arrival_unknown x bytes.arrival) 4 (when-zero _ 3 (none_at 2))
    also passed (request_unknown x bytes.request) 6 (byte-asked_known x r call
    (record-facts x.sizes.Q r (and_right (keeps design x) (record_keeps x.sizes.Q r) both)))
    also high (leaves_uncovered (oldest_cell x.cells) x) 8 (omega arith)
    also high (tail_full x left.arrival left.request) 9 (omega arith)
    also high (head_full (wrote x left) (queue_to_read (wrote x left))) 10 (omega arith)
    also tt))
  where
    bytes : Call
    bytes = byte_call r call

    left : Call
    left = halves_taken x bytes

    High : ℕ → Type 0
    High n = (n ≡ 0 → ⊥) → 8 ≤ n

    none_at : (i : ℕ) → get_or (take 7 (packet_refusals design x store r call)) i 0 ≡ 0
    none_at i = no_refusal_at (take 7 (packet_refusals design x store r call)) i e

    both : (keeps design x && record_keeps x.sizes.Q r) ≡ true
    both = not-false _ (when-zero (not (keeps design x && record_keeps x.sizes.Q r)) 2 (none_at 0))

    passed : (t : Bool) (n : ℕ) → t ≡ false → High (when t n)
    passed t n f = when-has High t n (λ z. absurd (z refl)) (λ u. absurd (true_not_false t u f))

    high : (t : Bool) (n : ℕ) → 8 ≤ n → High (when t n)
    high t n h = when-has High t n (λ z. absurd (z refl)) (λ u z. h)
