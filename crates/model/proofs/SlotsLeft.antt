-- Slots left at a read (request 2.6) are the place of the cell that the read is for, and so 1 to the number of cells:
-- `slots_left_say`. A chain's accepted slot that many slots later delivers a byte of that cell's queue, since the cell
-- keeps its place in the line, which every accepted slot shifts by one; and from a fresh state its request came L slots
-- before that: `leaves_then`.
use mathlib.Core.Path.{◌≡◌, refl, ap, sym, ◌∙◌, subst}
use mathlib.Core.Bool.{true}
use mathlib.Core.List.{List, [], ◌++◌}
use mathlib.Core.Option.{Option, some, none}
use Prim.Native.Nat.{ℕ, ◌+◌, ◌-◌, ◌<◌, ◌≤◌}
use native.Mathlib.Omega.{arith}
use lib.Dec.{leb}
use lib.ListN.{length, replicate, get_or, length-replicate, get_or-replicate, get_or-append}
use lib.Seq.{get_or-take, get_or-append-add}
use borrow.Author.Tests.{leb-true, leb-false}
use Rattle.model.specs.Sizes.{Sizes, Limits, Design, accepts, lookahead, full}
use Rattle.model.specs.State.{Byte, byte, State, fresh, head_bytes, keeps}
use Rattle.model.specs.Slot.{Call, wrote, halves_taken, Answer, slot}
use Rattle.model.specs.Lists.{Step, accepted, deliveries, request_at}
use Rattle.model.specs.Chains.{Chain}
use Rattle.model.specs.Ideal.{Ideal, stands_for}
use Rattle.model.specs.SlotsLeft.{FirstUncovered, SlotsLeftSay, ReadsAt, LeavesThen}
use Rattle.model.proofs.basics.Tests.{by_test, none_not_some}
use Rattle.model.proofs.meaning.Place.{place_of_the_queue, place_none, read_place, no_read_no_place}
use Rattle.model.proofs.one_slot.Rules.{keeps-facts, keeps-fresh}
use Rattle.model.proofs.one_slot.Accepted.{RefusedOrAccepted, was_refused, was_accepted, outcome}
use Rattle.model.proofs.one_slot.Kept.{rules-written}
use Rattle.model.proofs.one_slot.Chains.{links}
use Rattle.model.proofs.delay.Delay.{gives, chain_delays}
use Rattle.model.proofs.delay.Foretold.{comes, ByteOf, foretold, given-was_asked}
use Rattle.model.proofs.Demand.{stands_fresh}

-- Of one slot: a refused one reads nothing, and of an accepted one it is the law of its state when it reads.
module _ (design : Design) (x : State) (store : List ℕ) (call : Call) where
  abbrev Waits : ℕ → Answer → Type 0
  Waits q a = FirstUncovered (head_bytes (wrote x (halves_taken x call))) a.state.cells q a.reply.slots_left

  cell_that_waits : (q : ℕ) → (slot design x store call).reply.read ≡ some q → Waits q (slot design x store call)
  cell_that_waits q e = go (slot design x store call) (outcome design x store call) e
    where
      go : (a : Answer) → RefusedOrAccepted design x store call a → a.reply.read ≡ some q → Waits q a
      go a (was_refused n r) e = absurd (none_not_some q e)
      go a (was_accepted f) e = read_place (wrote x (halves_taken x call)) q e

  one_to_L : (q : ℕ) → 1 ≤ design.cell_count x.sizes → (slot design x store call).reply.read ≡ some q
      → (1 ≤ (slot design x store call).reply.slots_left)
      × ((slot design x store call).reply.slots_left ≤ design.cell_count x.sizes)
  one_to_L q h e = go (slot design x store call) (outcome design x store call) e
    where
      go : (a : Answer) → RefusedOrAccepted design x store call a → a.reply.read ≡ some q
          → (1 ≤ a.reply.slots_left) × (a.reply.slots_left ≤ design.cell_count x.sizes)
      go a (was_refused n r) e = absurd (none_not_some q e)
      go a (was_accepted f) e =
          let place = read_place (wrote x (halves_taken x call)) q e in
          let long = (rules-written design x store (halves_taken x call) h f.judged).cells_long in
          (place.at_least_1, omega (arith, place.within, long))

  zero_without_a_read : (slot design x store call).reply.read ≡ none → (slot design x store call).reply.slots_left ≡ 0
  zero_without_a_read e = go (slot design x store call) (outcome design x store call) e
    where
      go : (a : Answer) → RefusedOrAccepted design x store call a → a.reply.read ≡ none → a.reply.slots_left ≡ 0
      go a (was_refused n r) e = refl
      go a (was_accepted f) e = no_read_no_place (wrote x (halves_taken x call)) e

pub slots_left_say : (design : Design) → SlotsLeftSay design
slots_left_say design = record {
  place_of_the_queue = place_of_the_queue;
  no_place = place_none;
  cell_that_waits = cell_that_waits design;
  one_to_L = one_to_L design;
  zero_without_a_read = zero_without_a_read design;
}

-- Behind L places with nothing in them comes what is given.
behind_none : (L k q : ℕ) (later : List (Option Byte)) → ByteOf q (replicate L none ++ later) k
    → (L ≤ k) × ByteOf q later (k - L)
behind_none L k q later there =
    by_test (leb L k)
    (λ t. let e : k ≡ length nothing + (k - L) = omega (arith, leb-true L k t, long) in (
      leb-true L k t,
      (
        there.0,
        sym (ap (λ (i : ℕ). get_or (nothing ++ later) i none) e ∙ get_or-append-add nothing later (k - L) none)
            ∙ there.1,
      ),
    ))
    (λ t. absurd (none_not_some (byte q there.0)
    (sym (get_or-append nothing later none k (omega (arith, leb-false L k t, long))
    ∙ get_or-replicate L k none none (leb-false L k t))
    ∙ there.1)))
  where
    nothing : List (Option Byte)
    nothing = replicate L none

    long : length nothing ≡ L
    long = length-replicate L none

-- Of lists.
module _ (limits : Limits) where
  delivers_then : (x : State) (store : List ℕ) (steps : List Step) (last : State)
      → keeps (full limits) x ≡ true → Chain (full limits) x store steps last
      → (t q n : ℕ) → ReadsAt (accepted steps) t q n → t + n < length (accepted steps)
      → ByteOf q (deliveries (accepted steps)) (t + n)
  delivers_then x store steps last k c t q n r l =
      let v = keeps-facts (full limits) x k in
      let there = foretold (full limits) (omega arith) v (links (full limits) c) t q n r in (
        there.0,
        ap (λ (d : List (Option Byte)). get_or d (t + n) none)
            (chain_delays (full limits) (omega arith) v (links (full limits) c)).delivers
            ∙ get_or-take (length (accepted steps)) (comes (stands_for x store) (accepted steps)) (t + n) none l
            ∙ there.1,
      )

  asked-then : (s : Sizes) (store : List ℕ) (steps : List Step) (last : State)
      → accepts limits s ≡ true → Chain (full limits) (fresh (full limits) s) store steps last
      → (t q n : ℕ) → ReadsAt (accepted steps) t q n
      → (lookahead s ≤ t + n) × (request_at (accepted steps) (t + n - lookahead s) ≡ some q)
  asked-then s store steps last a c t q n r =
      let slots = accepted steps in
      let there = behind_none (lookahead s) (t + n) q (gives (λ p. []) slots)
      (subst (λ (i : Ideal). ByteOf q (comes i slots) (t + n)) (stands_fresh limits s store)
      (foretold (full limits) (omega arith) (keeps-fresh (full limits) s a) (links (full limits) c) t q n r)) in
      (there.0, given-was_asked (λ p. []) slots (t + n - lookahead s) q there.1)

pub leaves_then : (limits : Limits) → LeavesThen limits
leaves_then limits = record { delivers_then = delivers_then limits; asked-then = asked-then limits }
