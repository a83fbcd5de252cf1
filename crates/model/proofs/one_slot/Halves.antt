-- What is left of a call once its dropped halves are taken away (request 2.5) can be taken: its arrival finds room,
-- `left-not_full`, and its request a byte, `left-something`. Where neither half drops, all of the call is left:
-- `all_left`. So it is in a slot that swaps, `swap_left`: its arrival is taken, and its request finds a byte.
use mathlib.Core.Path.{◌≡◌, refl, ap, sym, ◌∙◌}
use mathlib.Core.Bool.{Bool, true, false, ◌&&◌, not}
use mathlib.Core.Option.{Option, some, none}
use Prim.Native.Nat.{ℕ}
use Rattle.model.specs.Basics.{choose}
use Rattle.model.specs.State.{Byte, State}
use Rattle.model.specs.Slot.{Call, is_full, swaps, arrival_unknown, arrival_full, request_unknown, nothing_to_take}
use Rattle.model.specs.Slot.{arrival_taken, request_drops, halves_taken}
use Rattle.model.proofs.basics.Tests.{by_test}
use Rattle.model.proofs.meaning.Steps.{dropped_arrival_gone}
use Rattle.model.proofs.one_slot.Swap.{swap_taken, swap_finds_a_byte}

-- What holds of both holds of the one that is chosen.
of_chosen : {A : Type 0} (P : A → Type 0) (t : Bool) (a b : A) → P a → P b → P (choose t a b)
of_chosen P true a b h k = h
of_chosen P false a b h k = k

and_true : (t : Bool) → t && true ≡ t
and_true true = refl
and_true false = refl

-- An arrival that is not full without a swap is not full, whatever is asked.
not-full_alone : (x : State) (arrival : Option Byte) (request other : Option ℕ) → swaps x arrival request ≡ false
    → arrival_full x arrival request ≡ false → arrival_full x arrival other ≡ false
not-full_alone x none request other s f = refl
not-full_alone x (some y) request other s f =
    ap (λ (t : Bool). t && not (swaps x (some y) other))
    (sym (and_true (is_full x y.queue)) ∙ ap (λ (t : Bool). is_full x y.queue && not t) (sym s) ∙ f)

module _ (x : State) (call : Call) where
  pub arrival-stays : arrival_full x call.arrival call.request ≡ false → arrival_taken x call ≡ call.arrival
  arrival-stays f = ap (λ (t : Bool). choose t none call.arrival) f

  pub all_left : arrival_full x call.arrival call.request ≡ false
      → nothing_to_take x call.arrival call.request ≡ false → halves_taken x call ≡ call
  all_left f g =
      ap (λ (a : Option Byte).
      record { arrival = a; request = choose (nothing_to_take x a call.request) none call.request })
      (arrival-stays f)
      ∙ ap (λ (t : Bool). record { arrival = call.arrival; request = choose t none call.request }) g

  pub swap_left : swaps x call.arrival call.request ≡ true → halves_taken x call ≡ call
  swap_left t = all_left (swap_taken x call t) (swap_finds_a_byte x call t)

  pub left-not_full : arrival_full x (halves_taken x call).arrival (halves_taken x call).request ≡ false
  left-not_full =
      by_test (swaps x call.arrival call.request)
      (λ t. ap (λ (c : Call). arrival_full x c.arrival c.request) (swap_left t) ∙ swap_taken x call t)
      (λ t. by_test (arrival_full x call.arrival call.request)
      (λ f. ap (λ (a : Option Byte). arrival_full x a (halves_taken x call).request) (dropped_arrival_gone x call f))
      (λ f. ap (λ (a : Option Byte). arrival_full x a (halves_taken x call).request) (arrival-stays f)
      ∙ not-full_alone x call.arrival call.request (halves_taken x call).request t f))

  pub left-something : nothing_to_take x (halves_taken x call).arrival (halves_taken x call).request ≡ false
  left-something =
      by_test (request_drops x call)
      (λ t. ap (λ (b : Bool). nothing_to_take x (arrival_taken x call) (choose b none call.request)) t)
      (λ t. ap (λ (b : Bool). nothing_to_take x (arrival_taken x call) (choose b none call.request)) t ∙ t)

  -- What is left swaps where the call does.
  pub left-swaps : swaps x (halves_taken x call).arrival (halves_taken x call).request
      ≡ swaps x call.arrival call.request
  left-swaps =
      by_test (swaps x call.arrival call.request)
      (λ t. ap (λ (c : Call). swaps x c.arrival c.request) (swap_left t))
      (λ t. of_chosen (λ (a : Option Byte). swaps x a (halves_taken x call).request ≡ false)
      (arrival_full x call.arrival call.request) none call.arrival refl
      (of_chosen (λ (r : Option ℕ). swaps x call.arrival r ≡ false) (request_drops x call) none call.request
      (none_asked call.arrival) t)
      ∙ sym t)
    where
      none_asked : (arrival : Option Byte) → swaps x arrival none ≡ false
      none_asked none = refl
      none_asked (some y) = refl

  -- A half that is left is of a queue that there is.
  pub left-arrival_known : arrival_unknown x call.arrival ≡ false
      → arrival_unknown x (halves_taken x call).arrival ≡ false
  left-arrival_known e =
      of_chosen (λ (a : Option Byte). arrival_unknown x a ≡ false) (arrival_full x call.arrival call.request) none
      call.arrival refl e

  pub left-request_known : request_unknown x call.request ≡ false
      → request_unknown x (halves_taken x call).request ≡ false
  left-request_known e =
      of_chosen (λ (r : Option ℕ). request_unknown x r ≡ false) (request_drops x call) none call.request refl e

-- Of what is left nothing more drops.
pub left-once : (x : State) (call : Call) → halves_taken x (halves_taken x call) ≡ halves_taken x call
left-once x call = all_left x (halves_taken x call) (left-not_full x call) (left-something x call)
