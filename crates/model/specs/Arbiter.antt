-- Document 02, 2.2, "Round robin arbiter": "We want the model to choose requests when we have no arbiter yet." A slot
-- in which it chooses is a slot like any other; what is the arbiter's own is the choice, and the last one asked.
use Rattle.std.specs.Prelude.{Bool, List, ℕ, zero, suc, ◌+◌, ◌-◌, ◌*◌, ltb}
use Rattle.std.proofs.Math.Option.{Option, some, none}
use Rattle.model.specs.Basics.{choose}
use Rattle.model.specs.Sizes.{Design}
use Rattle.model.specs.State.{Byte, State, count_of, tail_bytes, head_bytes, owed_cells, blocks, with_last_asked}
use Rattle.model.specs.Slot.{Call, arriving, is_full, Answer, slot}

-- The bytes of a queue not yet asked for: those in head and slow store that no cell is owed, and those in the tail. The
-- slot's own delivery does not change it (`delivery-leaves_it`, Fairness): an Owed cell that leaves takes a head byte
-- with it.
abbrev pub unrequested : State → ℕ → ℕ
unrequested x q = head_bytes x q + x.sizes.b * blocks x q - owed_cells x q + tail_bytes x q

-- "After the arrival of the slot"; "an arrival to a full queue does not count in the choice".
abbrev pub counted_arrival : State → Option Byte → Option Byte
counted_arrival x none = none
counted_arrival x (some y) = choose (is_full x y.queue) none (some y)

-- A queue "that has an unrequested byte", this slot's arrival counted.
abbrev pub can_be_asked : State → Option Byte → ℕ → Bool
can_be_asked x arrival q = ltb 0 (unrequested x q + count_of q (arriving (counted_arrival x arrival)))

-- "The next queue, counting up from the last one asked and wrapping": the queue after q, and the first of the n queues
-- from q on of which a test holds.
abbrev pub queue_after : ℕ → ℕ → ℕ
queue_after Q q = choose (ltb (suc q) Q) (suc q) 0

abbrev pub first_from : ℕ → (ℕ → Bool) → ℕ → ℕ → Option ℕ
first_from Q test zero q = none
first_from Q test (suc n) q = choose (test q) (some q) (first_from Q test n (queue_after Q q))

-- ".. that has an unrequested byte. If none has, the slot has no request."
abbrev pub choice : State → Option Byte → Option ℕ
choice x arrival =
    first_from x.sizes.Q (can_be_asked x arrival) x.sizes.Q (queue_after x.sizes.Q x.last_asked)

abbrev pub arbiter_call : State → Option Byte → Call
arbiter_call x arrival = record { arrival = arrival; request = choice x arrival }

-- The last one asked after a slot that answered this number, with this request of the arbiter's: "a refused slot ..
-- leaves it unchanged", and so does one without a request.
abbrev pub last_after : ℕ → Option ℕ → ℕ → ℕ
last_after zero none last = last
last_after zero (some q) last = q
last_after (suc n) request last = last

-- An answer with this queue noted as the last one asked, and all else as it was.
abbrev pub noting : ℕ → Answer → Answer
noting last a = record { reply = a.reply; state = with_last_asked last a.state; store = a.store }

-- One slot in which the arbiter chooses: the slot of its call, and the last one asked.
abbrev pub arbiter_slot : Design → State → List ℕ → Option Byte → Answer
arbiter_slot design x store arrival =
    let a = slot design x store (arbiter_call x arrival) in
    noting (last_after a.reply.number (choice x arrival) x.last_asked) a
