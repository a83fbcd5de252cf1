-- A chain of the layer's slots from a fresh state and record, slot by slot: each finds a good state, with the books in
-- order, and is stopped or accepted: `chain_runs`. So the accepted ones are a chain of the buffer's own slots,
-- `runs_chain`, and each takes its turn over the ideal buffer, `runs_take_turns`; and what holds of them and of the
-- stopped ones holds of all: `all_of_run`.
use mathlib.Core.Path.{◌≡◌, refl, ap, sym, ◌∙◌, subst}
use mathlib.Core.Bool.{Bool, true, false}
use mathlib.Core.List.{List, [], ◌∷◌, ◌++◌}
use Prim.Native.Nat.{ℕ, suc}
use native.Mathlib.Omega.{arith}
use lib.Dec.{eqb}
use lib.ListN.{length}
use borrow.Author.Tests.{eq-eqb, ne_eqb}
use Rattle.model.specs.Basics.{choose, All}
use Rattle.model.specs.Sizes.{Sizes, Limits, accepts, full}
use Rattle.model.specs.State.{State, fresh}
use Rattle.model.specs.Slot.{slot}
use Rattle.model.specs.Lists.{Step}
use Rattle.model.specs.Chains.{Chain, no_slot, own_slot}
use Rattle.model.specs.Ideal.{Ideal, stands_for}
use Rattle.packets.specs.Packets.{PacketRecord, fresh_record, PacketCall, byte_call, packet_refusal, PacketAnswer}
use Rattle.packets.specs.Packets.{packet_accept, packet_stop}
use Rattle.packets.specs.PacketLists.{PacketStep, packet_step, PacketChain, accepted_packets, byte_steps}
use Rattle.packets.specs.PacketLists as lists
use Rattle.model.proofs.basics.Tests.{none_not_some}
use Rattle.model.proofs.basics.Limits.{within_limits}
use Rattle.model.proofs.one_slot.Accepted.{outcome}
use Rattle.model.proofs.no_miss.Good.{Good, good_fresh, slot-good}
use Rattle.model.proofs.Demand.{stands_fresh}
use Rattle.packets.proofs.Slots.{PacketAccepted, StoppedOrAccepted, was_stopped, was_accepted, packet_outcome}
use Rattle.packets.proofs.Slots.{fresh-record_keeps}
use Rattle.packets.proofs.Layer.{Where, nowhere, where_after}
use Rattle.packets.proofs.Leaves.{TakeTurns, no_turn, one_turn}
use Rattle.packets.proofs.Books.{Books}
use Rattle.packets.proofs.BooksKept.{slot-turns, books_kept, waiting_left}

-- What a slot of such a chain finds, sizes and the store's length as they were at first.
pub record FindsOrder (limits : Limits) (s : Sizes) (n : ℕ) (x : State) (store : List ℕ) (r : PacketRecord) (g : Where)
    : Type 0 where
  pub good : Good limits x
  pub books : Books x store r g
  pub same-sizes : x.sizes ≡ s
  pub same_length : length store ≡ n

pub data Runs (limits : Limits) (s : Sizes) (n : ℕ)
    : State → List ℕ → PacketRecord → Where → List PacketStep → Type 0 where
  run_ends : {x : State} {store : List ℕ} {r : PacketRecord} {g : Where} → Runs limits s n x store r g []
  run-stops : {x : State} {store : List ℕ} {r : PacketRecord} {g : Where} {steps : List PacketStep}
      (call : PacketCall) (k : ℕ)
      → FindsOrder limits s n x store r g
      → packet_refusal (full limits) x store r call ≡ suc k
      → Runs limits s n x store r g steps
      → Runs limits s n x store r g (packet_step x store r call (packet_stop (suc k) x store r) ∷ steps)
  run-goes_on : {x : State} {store : List ℕ} {r : PacketRecord} {g : Where} {steps : List PacketStep}
      (call : PacketCall)
      → FindsOrder limits s n x store r g
      → PacketAccepted (full limits) x store r call
      → Runs limits s n (packet_accept (full limits) x store r call).answer.state
      (packet_accept (full limits) x store r call).answer.store (packet_accept (full limits) x store r call).packets
      (where_after g (packet_step x store r call (packet_accept (full limits) x store r call))) steps
      → Runs limits s n x store r g (packet_step x store r call (packet_accept (full limits) x store r call) ∷ steps)

-- The first slot finds nothing anywhere.
pub finds_order_fresh : (limits : Limits) (s : Sizes) (store : List ℕ) → accepts limits s ≡ true
    → FindsOrder limits s (length store) (fresh (full limits) s) store fresh_record nowhere
finds_order_fresh limits s store e = record {
  good = good_fresh limits s e;
  books = record {
    lengths_are = λ q. refl;
    left_is = refl;
    asked_is = refl;
    coming_is = refl;
    record_keeps = fresh-record_keeps s.Q (within_limits limits s e).q_low;
    waits = λ q. ap (λ (i : Ideal). i.waiting q) (stands_fresh limits s store) ∙ nothing (eqb 0 q);
    room = λ c f. absurd (none_not_some c f);
  };
  same-sizes = refl;
  same_length = refl;
}
  where
    nothing : (t : Bool) → ◌≡◌ {A = List ℕ} [] (choose t [] [] ++ ([] ++ []))
    nothing true = refl
    nothing false = refl

-- The next one finds what an accepted slot left.
finds_order_next : (limits : Limits) (s : Sizes) (n : ℕ) (x : State) (store : List ℕ) (r : PacketRecord) (g : Where)
    (call : PacketCall) → FindsOrder limits s n x store r g → PacketAccepted (full limits) x store r call
    → FindsOrder limits s n (slot (full limits) x store (byte_call r call)).state
    (slot (full limits) x store (byte_call r call)).store (packet_accept (full limits) x store r call).packets
    (where_after g (packet_step x store r call (packet_accept (full limits) x store r call)))
finds_order_next limits s n x store r g call h f =
    let k = slot-good limits x store (byte_call r call) (slot (full limits) x store (byte_call r call)) h.good
    (outcome (full limits) x store (byte_call r call)) in record {
      good = k.good;
      books = books_kept (full limits) x store r call g (omega arith) h.books f;
      same-sizes = k.same-sizes ∙ h.same-sizes;
      same_length = k.same_length ∙ h.same_length;
    }

pub chain_runs : (limits : Limits) (s : Sizes) (n : ℕ) {x : State} {store : List ℕ} {r : PacketRecord}
    {steps : List PacketStep} → PacketChain (full limits) x store r steps
    → (g : Where) → FindsOrder limits s n x store r g → Runs limits s n x store r g steps
chain_runs limits s n lists.no_slot g h = run_ends
chain_runs limits s n (lists.packets_slot {x = x} {store = store} {r = r} {a = a} {steps = steps} call e c) g h =
    go a (subst (StoppedOrAccepted (full limits) x store r call) (sym e) (packet_outcome (full limits) x store r call))
    (λ g' k. chain_runs limits s n c g' k)
  where
    go : (a : PacketAnswer) → StoppedOrAccepted (full limits) x store r call a
        → ((g' : Where) → FindsOrder limits s n a.answer.state a.answer.store a.packets g'
        → Runs limits s n a.answer.state a.answer.store a.packets g' steps)
        → Runs limits s n x store r g (packet_step x store r call a ∷ steps)
    go a (was_stopped k f) on = run-stops call k h f (on g h)
    go a (was_accepted f) on =
        run-goes_on call h f
        (on (where_after g (packet_step x store r call (packet_accept (full limits) x store r call)))
        (finds_order_next limits s n x store r g call h f))

-- The slots that were accepted.
pub accepted-joins : (p : PacketStep) (ps : List PacketStep) → p.step.reply.number ≡ 0
    → accepted_packets (p ∷ ps) ≡ p ∷ accepted_packets ps
accepted-joins p ps e =
    ap (λ (t : Bool). choose t (p ∷ accepted_packets ps) (accepted_packets ps)) (eq-eqb p.step.reply.number 0 e)

pub stopped_not : (p : PacketStep) (ps : List PacketStep) (k : ℕ) → p.step.reply.number ≡ suc k
    → accepted_packets (p ∷ ps) ≡ accepted_packets ps
stopped_not p ps k e =
    ap (λ (t : Bool). choose t (p ∷ accepted_packets ps) (accepted_packets ps))
    (ne_eqb p.step.reply.number 0 (λ z. omega (arith, z, e)))

module _ (limits : Limits) (s : Sizes) (n : ℕ) where
  -- They are a chain of the buffer's own slots.
  abbrev ChainOf : State → List ℕ → List PacketStep → Type 0
  ChainOf x store ps = (last : State) × Chain (full limits) x store (byte_steps ps) last

  pub runs_chain : {x : State} {store : List ℕ} {r : PacketRecord} {g : Where} {steps : List PacketStep}
      → Runs limits s n x store r g steps → ChainOf x store (accepted_packets steps)
  runs_chain (run_ends {x = x}) = (x, no_slot)
  runs_chain (run-stops {x = x} {store = store} {r = r} {steps = steps} call k h f on) =
      subst (ChainOf x store)
      (sym (stopped_not (packet_step x store r call (packet_stop (suc k) x store r)) steps k refl)) (runs_chain on)
  runs_chain (run-goes_on {x = x} {store = store} {r = r} {steps = steps} call h f on) =
      let c = runs_chain on in
      subst (ChainOf x store)
      (sym (accepted-joins (packet_step x store r call (packet_accept (full limits) x store r call)) steps
      f.buffer_accepts))
      (c.0, own_slot (byte_call r call) refl c.1)

  -- Each takes its turn.
  pub runs_take_turns : {x : State} {store : List ℕ} {r : PacketRecord} {g : Where} {steps : List PacketStep}
      → Runs limits s n x store r g steps → TakeTurns g (stands_for x store).waiting (accepted_packets steps)
  runs_take_turns run_ends = no_turn
  runs_take_turns (run-stops {x = x} {store = store} {r = r} {g = g} {steps = steps} call k h f on) =
      subst (TakeTurns g (stands_for x store).waiting)
      (sym (stopped_not (packet_step x store r call (packet_stop (suc k) x store r)) steps k refl)) (runs_take_turns on)
  runs_take_turns (run-goes_on {x = x} {store = store} {r = r} {g = g} {steps = steps} call h f on) =
      subst (TakeTurns g (stands_for x store).waiting) (sym (accepted-joins p steps f.buffer_accepts))
      (one_turn h.books.waits (slot-turns (full limits) x store r call g (omega arith) h.books f)
      (subst (λ (w : ℕ → List ℕ). TakeTurns (where_after g p) w (accepted_packets steps))
      (waiting_left (full limits) x store r call g (omega arith) h.books f) (runs_take_turns on)))
    where
      p : PacketStep
      p = packet_step x store r call (packet_accept (full limits) x store r call)

  -- What holds of them and of each slot that was stopped holds of all.
  pub all_of_run : (P : Step → Type 0)
      → ((x : State) (store : List ℕ) (r : PacketRecord) (g : Where) (call : PacketCall) (k : ℕ)
      → FindsOrder limits s n x store r g → packet_refusal (full limits) x store r call ≡ suc k
      → P (packet_step x store r call (packet_stop (suc k) x store r)).step)
      → {x : State} {store : List ℕ} {r : PacketRecord} {g : Where} {steps : List PacketStep}
      → Runs limits s n x store r g steps → All P (byte_steps (accepted_packets steps)) → All P (byte_steps steps)
  all_of_run P stops run_ends h = tt
  all_of_run P stops (run-stops {x = x} {store = store} {r = r} {g = g} {steps = steps} call k go f on) h = (
    stops x store r g call k go f,
    all_of_run P stops on (subst (λ (ps : List PacketStep). All P (byte_steps ps))
        (stopped_not (packet_step x store r call (packet_stop (suc k) x store r)) steps k refl) h),
  )
  all_of_run P stops (run-goes_on {x = x} {store = store} {r = r} {steps = steps} call go f on) h =
      let both = subst (λ (ps : List PacketStep). All P (byte_steps ps))
      (accepted-joins (packet_step x store r call (packet_accept (full limits) x store r call)) steps
      f.buffer_accepts) h in
      (both.0, all_of_run P stops on both.1)
