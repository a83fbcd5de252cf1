-- One slot of a list that meets an 8, for the design with one lookahead cell fewer: a slot that answers 8 meets it at
-- once, and an accepted slot leaves it to the slots after it, with state and store as ready for them as it got them.
-- `meets-now` and `meets-later` say it.
use mathlib.Core.Path.{◌≡◌, ap, sym, ◌∙◌, subst}
use mathlib.Core.Bool.{Bool, true, false, not}
use mathlib.Core.List.{List, [], ◌∷◌, ◌++◌}
use Prim.Native.Nat.{ℕ, suc, ◌+◌, ◌-◌, ◌*◌, ◌≤◌}
use native.Mathlib.Omega.{arith}
use native.Mathlib.Nat.{mul-le-mul_left}
use lib.Dec.{ltb}
use lib.ListN.{length, replicate, replicate-append-replicate}
use borrow.Author.Tests.{le-ltb}
use Rattle.model.specs.Basics.{some_of, when, first_refusal}
use Rattle.model.specs.Sizes.{Sizes, Limits, span, store_bytes, one_fewer}
use Rattle.model.specs.State.{State, keeps}
use Rattle.model.specs.Slot.{Call, wrote, wrote_store, queue_to_read, head_full, halves_taken, refusal, carried_out}
use Rattle.model.specs.Lists.{run}
use Rattle.model.specs.Demand.{answers8}
use Rattle.model.proofs.basics.FirstRefusal.{last_refusal}
use Rattle.model.proofs.basics.Rings.{times_pred}
use Rattle.model.proofs.basics.Limits.{within_limits}
use Rattle.model.proofs.one_slot.Rules.{Rules, Keeps, keeps-holds}
use Rattle.model.proofs.one_slot.Accepted.{Judged, Accepted, early_refusals, judged_facts, accepted-facts}
use Rattle.model.proofs.one_slot.Kept.{Kept, carried_kept, rules-written, still_long}

-- Some slot of the list answers 8.
abbrev pub Meets8 : Limits → State → List ℕ → List Call → Type 0
Meets8 limits x store calls = some_of answers8 (run (one_fewer limits) x store calls) ≡ true

-- What keeps refusals 3 and 2 away, and blocks of two bytes or more.
pub record Runnable (limits : Limits) (x : State) (store : List ℕ) : Type 0 where
  pub kept : Keeps (one_fewer limits) x
  pub store_long : store_bytes x.sizes ≤ length store
  pub block_two : 2 ≤ x.sizes.b

-- State and store as an accepted slot leaves them of which no half is dropped.
abbrev pub state_after : State → List ℕ → Call → State
state_after x store call = (carried_out 0 0 x store call).state

abbrev pub store_after : State → List ℕ → Call → List ℕ
store_after x store call = (carried_out 0 0 x store call).store

-- Q(b - 1) is Q less than Q × b, and at least Q where b is at least 2.
pub span-and_queues : (s : Sizes) → 2 ≤ s.b → span s + s.Q ≡ s.Q * s.b
span-and_queues s two = times_pred s.Q s.b (omega (arith, two))

pub queues_in_span : (s : Sizes) → 2 ≤ s.b → s.Q ≤ span s
queues_in_span s two = omega (arith, mul-le-mul_left {m = 1} {n = s.b - 1} s.Q (omega (arith, two)))

-- One more of the same, at the end.
pub replicate-snoc : {A : Type 0} (n : ℕ) (a : A) → replicate n a ++ (a ∷ []) ≡ replicate (suc n) a
replicate-snoc n a =
    replicate-append-replicate n 1 a ∙ ap (λ (k : ℕ). replicate k a) (let e : n + 1 ≡ suc n = omega arith in e)

module _ {limits : Limits} {x : State} {store : List ℕ} (ready : Runnable limits x store) where
  pub cells_some : 1 ≤ span x.sizes
  cells_some =
      omega (
        arith,
        (within_limits limits x.sizes ready.kept.sizes-ok).q_low,
        queues_in_span x.sizes
            ready.block_two,
      )

  -- Refusals 3 and 2 do not come.
  pub not-3 : not (keeps (one_fewer limits) x) ≡ false
  not-3 = ap not (keeps-holds (one_fewer limits) x ready.kept)

  pub not-2 : ltb (length store) (store_bytes x.sizes) ≡ false
  not-2 = le-ltb (length store) (store_bytes x.sizes) ready.store_long

  module _ (call : Call) (calls : List Call) where
    pub meets-now : refusal (one_fewer limits) x store call ≡ 8 → Meets8 limits x store (call ∷ calls)
    meets-now e = rw e

    -- No half of the call is dropped.
    module _ (whole : halves_taken x call ≡ call)
        (early : first_refusal (early_refusals (one_fewer limits) x store call) ≡ 0) where
      judged : Judged (one_fewer limits) x store call
      judged = subst (Judged (one_fewer limits) x store) whole (judged_facts (one_fewer limits) x store call early)

      pub rules-to_read : Rules (span x.sizes) (wrote x call)
      rules-to_read = rules-written (one_fewer limits) x store call cells_some judged

      pub store_to_read : store_bytes x.sizes ≤ length (wrote_store x store call)
      store_to_read = still_long (one_fewer limits) x store call cells_some judged

      -- The slot is accepted if the head takes the block, and leaves the 8 to the rest of the list.
      pub meets-later : head_full (wrote x call) (queue_to_read (wrote x call)) ≡ false
          → (Runnable limits (state_after x store call) (store_after x store call)
          → Meets8 limits (state_after x store call) (store_after x store call) calls)
          → Meets8 limits x store (call ∷ calls)
      meets-later head_room rest =
          rw no_refusal
          (subst (λ (c : Call). Meets8 limits (state_after x store c) (store_after x store c) calls) (sym whole)
          (rest ready_after))
        where
          no_refusal : refusal (one_fewer limits) x store call ≡ 0
          no_refusal =
              last_refusal (early_refusals (one_fewer limits) x store call) _ early
              ∙ ap (λ (c : Call). when (head_full (wrote x c) (queue_to_read (wrote x c))) 10) whole
              ∙ ap (λ (t : Bool). when t 10) head_room

          kept_after : Kept (one_fewer limits) x store (carried_out 0 0 x store call)
          kept_after =
              carried_kept (one_fewer limits) x store call cells_some
              (subst (Accepted (one_fewer limits) x store) whole
              (accepted-facts (one_fewer limits) x store call no_refusal))

          ready_after : Runnable limits (state_after x store call) (store_after x store call)
          ready_after = record {
            kept = kept_after.kept;
            store_long = store_to_read;
            block_two = ready.block_two;
          }
