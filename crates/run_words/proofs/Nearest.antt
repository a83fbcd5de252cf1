-- A slot answers a call and the nearest call of 8-bit queues alike: they differ only in queues of 255 and more, which
-- no state that keeps the rules has (Q is at most 64), and each of these stops the slot, with 4 or with 6, before
-- anything looks at which queue it is. `near_slot` says it, and `near_arbiter` of the round robin arbiter.
use mathlib.Core.Path.{◌≡◌, refl, ap, sym, ◌∙◌}
use mathlib.Core.Bool.{true, false}
use mathlib.Core.List.{List}
use mathlib.Core.Option.{Option, some, none}
use Prim.Native.Nat.{ℕ, suc, ◌≤◌}
use native.Mathlib.Omega.{arith}
use lib.Dec.{ltb}
use lib.ListN.{length}
use borrow.Author.Tests.{leb-true, leb-false, le-leb}
use Rattle.model.specs.Sizes.{paper, paper_limits, store_bytes}
use Rattle.model.specs.State.{Byte, State, keeps}
use Rattle.model.specs.Slot.{Call, arrival_unknown, request_unknown, refusal, Answer, refuse, slot}
use Rattle.model.specs.Lists.{taken}
use Rattle.model.specs.Arbiter.{choice, arbiter_call, last_after, noting, arbiter_slot}
use Rattle.model.proofs.basics.Tests.{by_test}
use Rattle.model.proofs.basics.Limits.{within_limits}
use Rattle.model.proofs.one_slot.Rules.{keeps-facts}
use Rattle.run_words.specs.Words.{nearest, near_byte, near_queue, near_call}

-- What a queue's number is asked for is whether it is Q or more, and then it is its own nearest or above all queues.
module _ (x : State) (few : x.sizes.Q ≤ 255) where
  arrival-known : (arrival : Option Byte) → arrival_unknown x arrival ≡ false → near_byte arrival ≡ arrival
  arrival-known none e = refl
  arrival-known (some y) e =
      let same : nearest y.queue ≡ y.queue = omega (arith, leb-false x.sizes.Q y.queue e) in
      rw same

  arrival-above : (arrival : Option Byte) → arrival_unknown x arrival ≡ true → arrival_unknown x (near_byte arrival) ≡ true
  arrival-above none e = e
  arrival-above (some y) e =
      le-leb x.sizes.Q (nearest y.queue) (omega (arith, leb-true x.sizes.Q y.queue e))

  request-known : (request : Option ℕ) → request_unknown x request ≡ false → near_queue request ≡ request
  request-known none e = refl
  request-known (some q) e =
      let same : nearest q ≡ q = omega (arith, leb-false x.sizes.Q q e) in
      rw same

  request-above : (request : Option ℕ) → request_unknown x request ≡ true → request_unknown x (near_queue request) ≡ true
  request-above none e = e
  request-above (some q) e =
      le-leb x.sizes.Q (nearest q) (omega (arith, leb-true x.sizes.Q q e))

-- Each stop up to 6, in the order of judging.
module _ (x : State) (store : List ℕ) (call : Call) where
  three : keeps paper x ≡ false → slot paper x store call ≡ refuse 3 x store
  three kept = rw (kept, refusal)

  module _ (kept : keeps paper x ≡ true) where
    two : ltb (length store) (store_bytes x.sizes) ≡ true → slot paper x store call ≡ refuse 2 x store
    two short = rw (kept, short, refusal)

    module _ (long : ltb (length store) (store_bytes x.sizes) ≡ false) where
      four : arrival_unknown x call.arrival ≡ true → slot paper x store call ≡ refuse 4 x store
      four unknown = rw (kept, long, unknown, refusal)

      six : arrival_unknown x call.arrival ≡ false → request_unknown x call.request ≡ true
          → slot paper x store call ≡ refuse 6 x store
      six known unknown = rw (kept, long, known, unknown, refusal)

-- A state that keeps the rules, with a store that is long enough: the arrival first, and with it as it is the request.
module _ (x : State) (store : List ℕ) (call : Call) (kept : keeps paper x ≡ true)
    (long : ltb (length store) (store_bytes x.sizes) ≡ false) where
  few : x.sizes.Q ≤ 255
  few = omega (arith, (within_limits paper_limits x.sizes (keeps-facts paper x kept).sizes-ok).q_high)

  -- The call with this arrival and this request.
  abbrev with : Option Byte → Option ℕ → Call
  with arrival request = record { arrival = arrival; request = request }

  abbrev near_request : Call
  near_request = with call.arrival (near_queue call.request)

  by_request : arrival_unknown x call.arrival ≡ false → slot paper x store near_request ≡ slot paper x store call
  by_request known = by_test (request_unknown x call.request)
      (λ unknown. six x store near_request kept long known (request-above x few call.request unknown)
      ∙ sym (six x store call kept long known unknown))
      (λ fine. ap (λ (r : Option ℕ). slot paper x store (with call.arrival r))
      (request-known x few call.request fine))

  by_arrival : slot paper x store (near_call call) ≡ slot paper x store call
  by_arrival = by_test (arrival_unknown x call.arrival)
      (λ unknown. four x store (near_call call) kept long (arrival-above x few call.arrival unknown)
      ∙ sym (four x store call kept long unknown))
      (λ known. ap (λ (a : Option Byte). slot paper x store (with a (near_queue call.request)))
      (arrival-known x few call.arrival known)
      ∙ by_request known)

pub near_slot : (x : State) (store : List ℕ) (call : Call)
    → slot paper x store (near_call call) ≡ slot paper x store call
near_slot x store call = by_test (keeps paper x)
    (λ kept. by_test (ltb (length store) (store_bytes x.sizes))
    (λ short. two x store (near_call call) kept short ∙ sym (two x store call kept short))
    (λ long. by_arrival x store call kept long))
    (λ broken. three x store (near_call call) broken ∙ sym (three x store call broken))

-- The slot of a call's halves as the code reads them is the slot of the call.
pub read_slot : (x : State) (store : List ℕ) (call : Call) {arrival : Option Byte} {request : Option ℕ}
    → arrival ≡ near_byte call.arrival → request ≡ near_queue call.request
    → slot paper x store (record { arrival = arrival; request = request }) ≡ slot paper x store call
read_slot x store call {arrival} {request} ea er =
    ap (λ (a : Option Byte). slot paper x store (record { arrival = a; request = request })) ea
    ∙ ap (λ (q : Option ℕ). slot paper x store (record { arrival = near_byte call.arrival; request = q })) er
    ∙ near_slot x store call

-- And so does the round robin arbiter: an arrival of a queue that there is not is refused, whatever would be chosen.
pub record SameArbiter (x : State) (store : List ℕ) (arrival other : Option Byte) : Type 0 where
  pub same_slot : arbiter_slot paper x store arrival ≡ arbiter_slot paper x store other
  pub same_asked : taken (arbiter_slot paper x store arrival).reply.number (choice x arrival)
      ≡ taken (arbiter_slot paper x store other).reply.number (choice x other)

module _ (x : State) (store : List ℕ) (arrival other : Option Byte) where
  same-arrival : arrival ≡ other → SameArbiter x store arrival other
  same-arrival e = record {
    same_slot = ap (arbiter_slot paper x store) e;
    same_asked = ap (λ (a : Option Byte). taken (arbiter_slot paper x store a).reply.number (choice x a)) e;
  }

  both-refused : (n : ℕ) → slot paper x store (arbiter_call x arrival) ≡ refuse (suc n) x store
      → slot paper x store (arbiter_call x other) ≡ refuse (suc n) x store → SameArbiter x store arrival other
  both-refused n e f = record {
    same_slot =
        ap (λ (a : Answer). noting (last_after a.reply.number (choice x arrival) x.last_asked) a) e
        ∙ sym (ap (λ (a : Answer). noting (last_after a.reply.number (choice x other) x.last_asked) a) f);
    same_asked =
        ap (λ (a : Answer). taken a.reply.number (choice x arrival)) e
        ∙ sym (ap (λ (a : Answer). taken a.reply.number (choice x other)) f);
  }

pub near_arbiter : (x : State) (store : List ℕ) (arrival : Option Byte) → SameArbiter x store (near_byte arrival) arrival
near_arbiter x store arrival = by_test (keeps paper x)
    (λ kept. by_test (ltb (length store) (store_bytes x.sizes))
    (λ short. both-refused x store near arrival 1 (two x store (call near) kept short)
    (two x store (call arrival) kept short))
    (λ long. by_test (arrival_unknown x arrival)
    (λ unknown. both-refused x store near arrival 3
    (four x store (call near) kept long (arrival-above x (few x store (call arrival) kept long) arrival unknown))
    (four x store (call arrival) kept long unknown))
    (λ known. same-arrival x store near arrival
    (arrival-known x (few x store (call arrival) kept long) arrival known))))
    (λ broken. both-refused x store near arrival 2 (three x store (call near) broken)
    (three x store (call arrival) broken))
  where
    near : Option Byte
    near = near_byte arrival

    call : Option Byte → Call
    call = arbiter_call x
