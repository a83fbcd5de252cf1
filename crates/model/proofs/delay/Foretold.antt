-- What a read foretells comes. The cell that it is for is in the line at the place that it tells, with a byte of its
-- queue, since an Owed cell's byte is in its queue's stream; and each accepted slot brings the line one place nearer.
-- It holds from every state that keeps the rules, for any number of cells: `foretold`. What comes behind the line is a
-- byte of the queue that was asked: `given-was_asked`.
use mathlib.Core.Path.{◌≡◌, ap, sym, ◌∙◌, subst}
use mathlib.Core.List.{List, [], ◌∷◌, ◌++◌}
use mathlib.Core.Option.{Option, some, none}
use Prim.Native.Nat.{ℕ, zero, suc, ◌+◌, ◌-◌, ◌<◌, ◌≤◌}
use native.Mathlib.Omega.{arith}
use lib.ListN.{length, drop, get_or, get_elem?, get_or-append}
use lib.Seq.{append_snoc}
use borrow.Author.Tests.{ne_eqb}
use Rattle.model.specs.Sizes.{Design}
use Rattle.model.specs.State.{Byte, byte, State}
use Rattle.model.specs.Slot.{Call, as_byte, queue_to_read, slots_to_refill, wrote, wrote_store, refilled, halves_taken}
use Rattle.model.specs.Slot.{Answer, accept, slot}
use Rattle.model.specs.Lists.{Step, step_of, accepted, request_at}
use Rattle.model.specs.Arbiter.{noting}
use Rattle.model.specs.Ideal.{Ideal, waiting_with, next_byte_of, ideal_slot, stands_for, stream, IsIdealSlot}
use Rattle.model.specs.SlotsLeft.{ReadsAt}
use Rattle.model.proofs.basics.Tests.{none_not_some, some_inj}
use Rattle.model.proofs.meaning.Place.{read_place}
use Rattle.model.proofs.one_slot.Rules.{Keeps, keeps-noted}
use Rattle.model.proofs.one_slot.Accepted.{Judged, RefusedOrAccepted, was_refused, was_accepted, outcome}
use Rattle.model.proofs.one_slot.Kept.{slot_kept, still_long, rules-refilled}
use Rattle.model.proofs.one_slot.Chains.{Links, no_link, link}
use Rattle.model.proofs.delay.Line.{line, line_length, line_at_owed}
use Rattle.model.proofs.delay.Request.{owed_in_stream}
use Rattle.model.proofs.delay.IdealSlot.{accepted-is_ideal}
use Rattle.model.proofs.delay.Delay.{left_waiting, gives, line_long}

-- What the coming slots of an ideal buffer deliver: its line, and behind it what it gives to their requests.
abbrev pub comes : Ideal → List Step → List (Option Byte)
comes i slots = i.line ++ gives i.waiting slots

-- A byte of q is at a place of what comes.
abbrev pub ByteOf : ℕ → List (Option Byte) → ℕ → Type 0
ByteOf q line k = (v : ℕ) × (get_or line k none ≡ some (byte q v))

-- Where slot t reads a block of q and says n, a byte of q is at place t + n of what comes.
abbrev pub Foretells : Ideal → List Step → Type 0
Foretells i slots = (t q n : ℕ) → ReadsAt slots t q n → ByteOf q (comes i slots) (t + n)

-- With a slot every place is one nearer.
one_nearer : (line : List (Option Byte)) (new : Option Byte) (later : List (Option Byte)) (k : ℕ) → 1 ≤ length line
    → get_or (line ++ new ∷ later) (suc k) none ≡ get_or ((drop 1 line ++ new ∷ []) ++ later) k none
one_nearer [] new later k h = absurd (omega arith)
one_nearer (o ∷ line) new later k h =
    ap (λ (l : List (Option Byte)). get_or l k none) (sym (append_snoc line new later))

comes-nearer : (i : Ideal) (step : Step) (slots : List Step) (q k m : ℕ) → 1 ≤ length i.line → m ≡ suc k
    → ByteOf q (comes (ideal_slot (record { arrival = step.arrival; request = step.request }) i) slots) k
    → ByteOf q (comes i (step ∷ slots)) m
comes-nearer i step slots q k m long e there = (
  there.0,
  ap (λ (n : ℕ). get_or (comes i (step ∷ slots)) n none) e
      ∙ one_nearer i.line (next_byte_of (waiting_with i.waiting step.arrival) step.request)
      (gives (left_waiting i.waiting step) slots) k long
      ∙ there.1,
)

module _ (design : Design) where
  -- The slot that reads: its cell has its byte, counted as the slot leaves the line.
  read_in_line : (x : State) (store : List ℕ) (call : Call) (q : ℕ) → 1 ≤ design.cell_count x.sizes
      → Judged design x store call → queue_to_read (wrote x call) ≡ some q → (later : List (Option Byte))
      → (1 ≤ slots_to_refill (wrote x call))
      × ByteOf q (line (refilled x store call) (wrote_store x store call) ++ later) (slots_to_refill (wrote x call) - 1)
  read_in_line x store call q h j e later =
      let f = read_place (wrote x call) q e in
      let y = refilled x store call in
      let store' = wrote_store x store call in
      let place = slots_to_refill (wrote x call) - 1 in
      let inside : place < length y.cells = omega (arith, f.at_least_1, f.within) in
      let there = line_at_owed (stream y store') y.cells
      (owed_in_stream _ y store' (still_long design x store call h j) (rules-refilled design x store call h j))
      place q inside f.is_owed_lem in (
        f.at_least_1,
        (
          there.0,
          get_or-append (line y store') later none place (omega (arith, line_length (stream y store') y.cells))
              ∙ there.1,
        ),
      )

  -- One slot, and then what the rest of the chain foretells.
  foretold_more : (x : State) (store : List ℕ) (call : Call) (a : Answer) (noted : ℕ) (rest : List Step)
      → 1 ≤ design.cell_count x.sizes → Keeps design x → RefusedOrAccepted design x store call a
      → Foretells (stands_for a.state a.store) (accepted rest)
      → Foretells (stands_for x store) (accepted (step_of x store call (noting noted a) ∷ rest))
  foretold_more x store call a noted rest h v (was_refused n e) d = rw (ne_eqb (suc n) 0 (λ z. omega arith)) d
  foretold_more x store call a noted rest h v (was_accepted f) d = go
    where
      step : Step
      step = step_of x store call (noting noted (accept x store call))

      ideal : IsIdealSlot x store (halves_taken x call) (accept x store call)
      ideal = accepted-is_ideal design x store (halves_taken x call) h f.judged

      nearer : (q k m : ℕ) → m ≡ suc k
          → ByteOf q (comes (stands_for (accept x store call).state (accept x store call).store) (accepted rest)) k
          → ByteOf q (comes (stands_for x store) (step ∷ accepted rest)) m
      nearer q k m e there =
          comes-nearer (stands_for x store) step (accepted rest) q k m (line_long design x store h v) e
          (subst (λ (i : Ideal). ByteOf q (comes i (accepted rest)) k) ideal.leaves there)

      go : Foretells (stands_for x store) (step ∷ accepted rest)
      go zero q n r =
          let same : step ≡ r.step = some_inj step r.step r.is_slot in
          let now = read_in_line x store (halves_taken x call) q h f.judged
          (ap (λ (s : Step). s.reply.read) same ∙ r.read_is) _ in
          nearer q (slots_to_refill (wrote x (halves_taken x call)) - 1) (0 + n)
          (omega (arith, now.0, ap (λ (s : Step). s.reply.slots_left) same, r.left_is)) now.1
      go (suc t) q n r =
          nearer q (t + n) (suc t + n) (omega arith)
          (d t q n (record { step = r.step; is_slot = r.is_slot; read_is = r.read_is; left_is = r.left_is }))

  pub foretold : {x : State} {store : List ℕ} {steps : List Step} {last : State}
      → 1 ≤ design.cell_count x.sizes → Keeps design x → Links design x store steps last
      → Foretells (stands_for x store) (accepted steps)
  foretold h v no_link = λ t q n r. absurd (none_not_some r.step r.is_slot)
  foretold h v (link {x = x} {store = store} {steps = steps} call noted below c) =
      let a = slot design x store call in
      let k = slot_kept design x store call h v in
      foretold_more x store call a noted steps h v (outcome design x store call)
      (foretold (rw k.same-sizes h)
      (keeps-noted design a.state noted (rw k.same-sizes (below v.last_below)) k.kept) c)

-- A byte that is given is of the queue that its slot asks.
byte_of : (p q v : ℕ) (o : Option ℕ) → as_byte p o ≡ some (byte q v) → p ≡ q
byte_of p q v none e = absurd (none_not_some (byte q v) e)
byte_of p q v (some u) e = ap (λ (y : Byte). y.queue) (some_inj (byte p u) (byte q v) e)

pub given-was_asked : (w : ℕ → List ℕ) (slots : List Step) (k q : ℕ) → ByteOf q (gives w slots) k
    → request_at slots k ≡ some q
given-was_asked w [] k q there = absurd (none_not_some (byte q there.0) there.1)
given-was_asked w (step ∷ slots) zero q there = go step.request there.1
  where
    go : (r : Option ℕ) → next_byte_of (waiting_with w step.arrival) r ≡ some (byte q there.0) → r ≡ some q
    go none e = absurd (none_not_some (byte q there.0) e)
    go (some p) e = ap some (byte_of p q there.0 (get_elem? (waiting_with w step.arrival p) 0) e)
given-was_asked w (step ∷ slots) (suc k) q there = given-was_asked (left_waiting w step) slots k q there
