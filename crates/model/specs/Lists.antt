-- Document 01, "Lists of slots": a list of slots with the refused ones in it, and what is due to each request.
use Rattle.std.specs.Prelude.{◌≡◌, List, [], ◌∷◌, ◌++◌, map, ℕ, zero, suc, ◌+◌, eqb, length, take}
use Rattle.std.proofs.Math.Option.{Option, some, none}
use Rattle.std.proofs.Math.ListN.{get_elem?}
use Rattle.model.specs.Basics.{choose, tabulate}
use Rattle.model.specs.Sizes.{Sizes, Design}
use Rattle.model.specs.State.{Byte, State, fresh, values_of}
use Rattle.model.specs.Slot.{Call, as_byte, arriving, swaps, joined, asked, refilled, halves_taken}
use Rattle.model.specs.Slot.{Reply, Answer, slot}

-- One slot of a list: what it told (0 or the number that stopped it, those of its halves, its delivery and its moves),
-- what it took of its arrival and its request, state and store as it ends, the tail's fill "just after the arrival
-- joins it" and the head's "just after the read".
pub record Step : Type 0 where
  pub reply : Reply
  pub arrival : Option Byte
  pub request : Option ℕ
  pub state : State
  pub store : List ℕ
  pub joined_fill : ℕ
  pub read_fill : ℕ

-- "An arrival or request is accepted when its slot is", unless it is dropped (2.5). A slot that was refused took
-- nothing, and moved nothing to look at.
abbrev pub taken : {A : Type 0} → ℕ → Option A → Option A
taken zero o = o
taken (suc n) o = none

-- "The tail is looked at just after the arrival joins it, which in a slot of 2.1 is after the request. The head is
-- looked at just after the read" (2.8).
abbrev pub joined_fill_of : ℕ → State → Call → ℕ
joined_fill_of zero x call =
    length (choose (swaps x call.arrival call.request) (asked x call).tail (joined x call).tail)
joined_fill_of (suc n) x call = length x.tail

abbrev pub read_fill_of : ℕ → State → List ℕ → Call → ℕ
read_fill_of zero x store call = length (refilled x store call).head
read_fill_of (suc n) x store call = length x.head

abbrev pub step_of : State → List ℕ → Call → Answer → Step
step_of x store call a = record {
  reply = a.reply;
  arrival = taken a.reply.number (halves_taken x call).arrival;
  request = taken a.reply.number (halves_taken x call).request;
  state = a.state;
  store = a.store;
  joined_fill = joined_fill_of a.reply.number x (halves_taken x call);
  read_fill = read_fill_of a.reply.number x store (halves_taken x call);
}

-- Demand 3: "each slot getting state and store exactly as the one before left them"; "a refused slot stays in the
-- list and passes on state and store as it got them".
abbrev pub run : Design → State → List ℕ → List Call → List Step
run design x store [] = []
run design x store (call ∷ calls) =
    step_of x store call (slot design x store call)
    ∷ run design (slot design x store call).state (slot design x store call).store calls

-- The state and the store that a list of slots leaves.
abbrev pub last_state : Design → State → List ℕ → List Call → State
last_state design x store [] = x
last_state design x store (call ∷ calls) =
    last_state design (slot design x store call).state (slot design x store call).store calls

abbrev pub last_store : Design → State → List ℕ → List Call → List ℕ
last_store design x store [] = store
last_store design x store (call ∷ calls) =
    last_store design (slot design x store call).state (slot design x store call).store calls

-- What a call of a slot promises: "its answer, the whole state and the whole store", and the two high marks "outright
-- too" (request 2.8). Nothing is free.
abbrev pub Promised : Design → State → List ℕ → Call → Answer → Type 0
Promised design x store call a = a ≡ slot design x store call

-- "The list of demand 3 is a fresh state of accepted sizes, a store with any bytes in it, then any number of slots,
-- none included."
abbrev pub list_of : Design → Sizes → List ℕ → List Call → List Step
list_of design s store calls = run design (fresh design s) store calls

-- "Accepted slots are numbered from 0 in their order, and a refused one has no number": slot t is place t here.
abbrev pub accepted : List Step → List Step
accepted [] = []
accepted (step ∷ steps) = choose (eqb step.reply.number 0) (step ∷ accepted steps) (accepted steps)

-- Of accepted slots: what each delivers, the arrivals of a queue in order, whether a request is of q (1) or not (0),
-- how many requests of a queue, the request of slot t.
abbrev pub deliveries : List Step → List (Option Byte)
deliveries slots = map (λ step. step.reply.delivered) slots

abbrev pub arrivals_of : ℕ → List Step → List ℕ
arrivals_of q [] = []
arrivals_of q (step ∷ slots) = values_of q (arriving step.arrival) ++ arrivals_of q slots

abbrev pub asks : ℕ → Option ℕ → ℕ
asks q none = 0
asks q (some p) = choose (eqb p q) 1 0

abbrev pub requests_of : ℕ → List Step → ℕ
requests_of q [] = 0
requests_of q (step ∷ slots) = asks q step.request + requests_of q slots

abbrev pub request_at : List Step → ℕ → Option ℕ
request_at [] t = none
request_at (step ∷ slots) zero = step.request
request_at (step ∷ slots) (suc t) = request_at slots t

-- "Where slot t has an accepted request, the nth of its queue, slot t + L delivers that queue and the byte of the nth
-- accepted arrival of it": what is due to slot t's request. The nth request of q has n - 1 requests of q before slot
-- t, and its byte is at place n - 1 of q's arrivals.
abbrev pub due_to : List Step → ℕ → Option ℕ → Option Byte
due_to slots t none = none
due_to slots t (some q) = as_byte q (get_elem? (arrivals_of q slots) (requests_of q (take t slots)))

abbrev pub due_at : List Step → ℕ → Option Byte
due_at slots t = due_to slots t (request_at slots t)

-- What is due to each of the slots 0, 1, .., in order.
abbrev pub due_to_all : List Step → List (Option Byte)
due_to_all slots = tabulate (length slots) (due_at slots)
