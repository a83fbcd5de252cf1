-- Demand 3. Every chain from a fresh state meets it, and so every list, with any store: its states keep the rules and
-- the invariant, so that 8, 9 and 10 never come; its accepted slots are slots of the ideal buffer, so that the delay is
-- fixed. With a store that is too short no slot is accepted, and the same argument holds. `demand_3` says it.
use mathlib.Core.Path.{◌≡◌, refl, ap, ◌∙◌, fun_ext, subst}
use mathlib.Core.Bool.{Bool, true, false, not}
use mathlib.Core.List.{List, [], ◌∷◌, ◌++◌, append-nil}
use mathlib.Core.Option.{Option, none}
use Prim.Native.Nat.{ℕ, zero, suc, ◌<◌, ◌≤◌}
use native.Mathlib.Omega.{arith}
use lib.Dec.{ltb}
use lib.ListN.{length, drop, take, replicate}
use lib.Seq.{drop-nil}
use borrow.Author.Tests.{le-leb, le-ltb}
use Rattle.model.specs.Basics.{tabulate, All, when}
use Rattle.model.specs.Sizes.{Sizes, Limits, accepts, span, lookahead, store_bytes, full}
use Rattle.model.specs.State.{Byte, empty, State, fresh, owed_of, keeps}
use Rattle.model.specs.Slot.{Call, oldest_cell, wrote, queue_to_read, arrival_unknown, request_unknown}
use Rattle.model.specs.Slot.{halves_taken, leaves_uncovered, tail_full, head_full, refusals, Answer, slot}
use Rattle.model.specs.Lists.{Step, step_of, list_of, accepted, request_at, due_to_all}
use Rattle.model.specs.Arbiter.{noting}
use Rattle.model.specs.Chains.{Chain}
use Rattle.model.specs.Ideal.{Ideal, line_of, stands_for}
use Rattle.model.specs.Demand.{CachesHold, NoMiss, RefusedSilent, ListMeets, Demand-3}
use Rattle.model.proofs.basics.AllOf.{◌also◌}
use Rattle.model.proofs.basics.Tests.{and_both, between-holds}
use Rattle.model.proofs.basics.FirstRefusal.{not_first, when-excluded}
use Rattle.model.proofs.basics.Rings.{ring-fresh}
use Rattle.model.proofs.meaning.Steps.{head_looked_at}
use Rattle.model.proofs.one_slot.Rules.{keeps-holds}
use Rattle.model.proofs.one_slot.Accepted.{RefusedOrAccepted, was_refused, was_accepted, outcome}
use Rattle.model.proofs.one_slot.Kept.{looked_at_fits, carried_kept}
use Rattle.model.proofs.one_slot.Chains.{Links, no_link, link, links, run-chain}
use Rattle.model.proofs.no_miss.Good.{Good, slot-good, good_fresh, good_noted}
use Rattle.model.proofs.delay.IdealSlot.{same-ideal}
use Rattle.model.proofs.delay.Delay.{Delays, gives, chain_delays, given-is_due, due_from_nothing}
use Rattle.model.proofs.delay.Delay.{arrived_since_fresh}
use Rattle.model.proofs.delay.Sentences.{sentences}
use Rattle.model.proofs.missing.Misses.{misses}

-- What holds of every slot on a good state, whatever queue it notes as the last one asked, holds all along a chain from
-- one: sizes and the store's length stay.
module _ (limits : Limits) where
  along : (P : Step → Type 0) (s : Sizes) (n : ℕ)
      → ((x : State) (store : List ℕ) (call : Call) (a : Answer) (noted : ℕ) → Good limits x → x.sizes ≡ s
      → length store ≡ n → RefusedOrAccepted (full limits) x store call a → P (step_of x store call (noting noted a)))
      → {x : State} {store : List ℕ} {steps : List Step} {last : State} → Links (full limits) x store steps last
      → Good limits x → x.sizes ≡ s → length store ≡ n → All P steps
  along P s n f no_link g e l = tt
  along P s n f (link {x = x} {store = store} call noted below c) g e l =
      let a = slot (full limits) x store call in
      let t = outcome (full limits) x store call in
      let k = slot-good limits x store call a g t in (
        f x store call a noted g e l t,
        along P s n f c
            (good_noted limits a.state noted
            (rw k.same-sizes (below g.kept.last_below)) k.good)
            (k.same-sizes ∙ e) (k.same_length ∙ l),
      )

  -- The caches hold, whether the slot is refused or accepted.
  call_caches : (x : State) (store : List ℕ) (call : Call) (a : Answer) (noted : ℕ) → Good limits x
      → RefusedOrAccepted (full limits) x store call a → CachesHold x.sizes (step_of x store call (noting noted a))
  call_caches x store call a noted g (was_refused n e) = record {
    tail_joined = g.kept.tail_fits;
    tail_ends = g.kept.tail_fits;
    head_read = g.kept.head_fits;
    head_ends = g.kept.head_fits;
  }
  call_caches x store call a noted g (was_accepted f) =
      let left = halves_taken x call in
      let k = (carried_kept (full limits) x store left (omega arith) {i = 0} {j = 0} f).kept in record {
        tail_joined =
            omega (arith, looked_at_fits (full limits) x store left (omega arith) f.judged, k.tail_fits);
        tail_ends = k.tail_fits;
        head_read = omega (arith, head_looked_at x store left, k.head_fits);
        head_ends = k.head_fits;
      }

  -- A refused slot delivers nothing and moves nothing: its answer is `refuse`.
  refused-silent : (x : State) (store : List ℕ) (call : Call) (a : Answer) (noted : ℕ)
      → RefusedOrAccepted (full limits) x store call a → RefusedSilent (step_of x store call (noting noted a))
  refused-silent x store call a noted (was_refused n e) = record {
    delivers_nothing = λ z. refl;
    writes_nothing = λ z. refl;
    reads_nothing = λ z. refl;
  }
  refused-silent x store call a noted (was_accepted f) = record {
    delivers_nothing = λ z. absurd (z refl);
    writes_nothing = λ z. absurd (z refl);
    reads_nothing = λ z. absurd (z refl);
  }

  -- 8, 9 and 10 never come, since every refusal is 6 or lower.
  no_miss : (x : State) (store : List ℕ) (call : Call) (a : Answer) (noted : ℕ) → Good limits x
      → RefusedOrAccepted (full limits) x store call a → NoMiss (step_of x store call (noting noted a))
  no_miss x store call a noted g t =
      let low = (slot-good limits x store call a g t).low in record {
        not-8 = λ e. omega (arith, e, low);
        not_9 = λ e. omega (arith, e, low);
        not_10 = λ e. omega (arith, e, low);
      }

  -- 3 never comes, since every state of the chain keeps the rules; and 2 does not where the store is long enough.
  never : (bad : ℕ) → 1 ≤ bad → bad ≤ 3 → (x : State) (store : List ℕ) (call : Call) (a : Answer)
      → (3 ≡ bad → not (keeps (full limits) x) ≡ false)
      → (2 ≡ bad → ltb (length store) (store_bytes x.sizes) ≡ false)
      → RefusedOrAccepted (full limits) x store call a → a.reply.number ≡ bad → ⊥
  never bad pos low x store call a three two (was_accepted f) e = omega (arith, e)
  never bad pos low x store call a three two (was_refused n f) e =
      not_first bad (refusals (full limits) x store call) pos (
      when-excluded bad (not (keeps (full limits) x)) 3 pos three
      also when-excluded bad (ltb (length store) (store_bytes x.sizes)) 2 pos two
      also later (arrival_unknown x call.arrival) 4 (omega arith)
      also later (request_unknown x call.request) 6 (omega arith)
      also later (leaves_uncovered (oldest_cell x.cells) x) 8 (omega arith)
      also later (tail_full x left.arrival left.request) 9 (omega arith)
      also later (head_full (wrote x left) (queue_to_read (wrote x left))) 10 (omega arith)
      also tt)
      (f ∙ e)
    where
      left : Call
      left = halves_taken x call

      later : (t : Bool) (k : ℕ) → 3 < k → when t k ≡ bad → ⊥
      later t k l = when-excluded bad t k pos (λ h. absurd (omega (arith, h)))

-- A fresh state stands for the ideal buffer in which nothing waits and nothing comes.
line_fresh : (streams : ℕ → List ℕ) (n : ℕ) → line_of streams (replicate n empty) ≡ replicate n none
line_fresh streams zero = refl
line_fresh streams (suc n) = ap (λ (l : List (Option Byte)). none ∷ l) (line_fresh streams n)

abbrev pub quiet : Sizes → Ideal
quiet s = record { waiting = λ q. []; line = replicate (lookahead s) none }

pub stands_fresh : (limits : Limits) (s : Sizes) (store : List ℕ) → stands_for (fresh (full limits) s) store ≡ quiet s
stands_fresh limits s store =
    same-ideal (stands_for (fresh (full limits) s) store) (quiet s)
    (λ q. rw (ring-fresh s.Q q) (append-nil (drop (owed_now q) []) ∙ drop-nil (owed_now q)))
    (line_fresh _ (lookahead s))
  where
    owed_now : ℕ → ℕ
    owed_now q = owed_of q (replicate (lookahead s) empty)

-- Every chain of slots.
pub every_chain : (limits : Limits) (s : Sizes) (store : List ℕ) (steps : List Step) (last : State)
    → accepts limits s ≡ true → Chain (full limits) (fresh (full limits) s) store steps last → ListMeets s store steps
every_chain limits s store steps last e c = record {
  bytes = record {
    delay = d.delivers ∙ ap
        (λ (l : List (Option Byte)). take (length slots) (replicate (lookahead s) none ++ l)) due;
    in_time = arrived_since_fresh slots d.finds;
  };
  refused = all RefusedSilent (λ y st call a noted g f l t. refused-silent limits y st call a noted t);
  caches = all (CachesHold s) (λ y st call a noted g f l t.
      subst (λ (z : Sizes). CachesHold z (step_of y st call (noting noted a))) f
      (call_caches limits y st call a noted g t));
  no_miss = all NoMiss (λ y st call a noted g f l t. no_miss limits y st call a noted g t);
  no_3 = all (λ (step : Step). step.reply.number ≡ 3 → ⊥) (λ y st call a noted g f l t.
      never limits 3 (omega arith) (omega arith) y st call a
      (λ h. ap not (keeps-holds (full limits) y g.kept)) (λ h. absurd (omega (arith, h))) t);
  no_2 = λ long. all (λ (step : Step). step.reply.number ≡ 2 → ⊥) (λ y st call a noted g f l t.
      never limits 2 (omega arith) (omega arith) y st call a (λ h. absurd (omega (arith, h)))
      (λ h. le-ltb (length st) (store_bytes y.sizes) (rw f (omega (arith, l)))) t);
}
  where
    x : State
    x = fresh (full limits) s

    good : Good limits x
    good = good_fresh limits s e

    all : (P : Step → Type 0)
        → ((y : State) (st : List ℕ) (call : Call) (a : Answer) (noted : ℕ) → Good limits y → y.sizes ≡ s
        → length st ≡ length store → RefusedOrAccepted (full limits) y st call a
        → P (step_of y st call (noting noted a)))
        → All P steps
    all P f = along limits P s (length store) f (links (full limits) c) good refl refl

    slots : List Step
    slots = accepted steps

    d : Delays (quiet s) slots
    d = subst (λ (i : Ideal). Delays i slots) (stands_fresh limits s store)
        (chain_delays (full limits) (omega arith) good.kept (links (full limits) c))

    due : gives (λ q. []) slots ≡ due_to_all slots
    due =
        given-is_due (λ q. []) slots d.finds
        ∙ ap (tabulate (length slots)) (fun_ext (λ t. due_from_nothing slots t (request_at slots t)))

-- Every list of slots is one.
pub every_list : (limits : Limits) (s : Sizes) (store : List ℕ) (calls : List Call) → accepts limits s ≡ true
    → ListMeets s store (list_of (full limits) s store calls)
every_list limits s store calls e =
    every_chain limits s store (list_of (full limits) s store calls) _ e
    (run-chain (full limits) (fresh (full limits) s) store calls)

-- And no slot of it is refused but with 6 or lower.
pub list_stops_low : (limits : Limits) (s : Sizes) (store : List ℕ) (calls : List Call) → accepts limits s ≡ true
    → All (λ (step : Step). step.reply.number ≤ 6) (list_of (full limits) s store calls)
list_stops_low limits s store calls e =
    along limits (λ (step : Step). step.reply.number ≤ 6) s (length store)
    (λ y st call a noted g f l t. (slot-good limits y st call a g t).low)
    (links (full limits) (run-chain (full limits) (fresh (full limits) s) store calls)) (good_fresh limits s e)
    refl refl

-- The whole of demand 3, under any limits; under the paper's it is demand 3 of the accepted sizes.
pub demand_3 : (limits : Limits) → Demand-3 limits
demand_3 limits = record {
  every_list = every_list limits;
  every_chain = every_chain limits;
  every_sentence = λ s store calls e.
      sentences s (accepted (list_of (full limits) s store calls)) (every_list limits s store calls e).bytes;
  one_cell_fewer = misses limits;
}

-- Any limits serve: for all sizes of 1 or more there are limits that accept them.
pub limits_for : Sizes → Limits
limits_for s = record { most_queues = s.Q; most_block_bytes = s.b; most_ring_blocks = s.K; most_span = span s }

pub accepts-any : (s : Sizes) → 1 ≤ s.Q → 1 ≤ s.b → 1 ≤ s.K → accepts (limits_for s) s ≡ true
unfolding limits_for
accepts-any s hq hb hk =
    and_both _ _ (between-holds 1 s.Q s.Q hq (omega arith))
    (and_both _ _ (between-holds 1 s.b s.b hb (omega arith))
    (and_both _ _ (between-holds 1 s.K s.K hk (omega arith))
    (and_both _ _ (le-leb (span s) (span s) (omega arith)) refl)))
