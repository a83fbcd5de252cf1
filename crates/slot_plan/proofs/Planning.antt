-- The plan of a slot as the code makes it: stopped by 4, 6, 8 or 9, stopped by 10, or accepted with what was found.
use mathlib.Core.Path.{◌≡◌, refl, ap, sym, ◌∙◌, subst}
use mathlib.Core.Bool.{Bool, true, false}
use mathlib.Core.List.{List, [], ◌∷◌}
use mathlib.Core.Option as math
use mathlib.Core.Option.{some, none}
use Rattle.std.specs.Prelude.{Option, Result, Ok, Err, IsErrAnd}
use Rattle.std.proofs.lemmas.Result.{IfOk-weaker}
use Prim.Native.Nat.{ℕ, zero, suc, ◌≤◌, ◌<◌}
use native.Mathlib.Omega.{arith}
use lib.Dec.{eqb, leb}
use lib.ListN.{get_or}
use borrow.Author.Tests.{eqb-true, eqb-false, eq-eqb, leb-false}
use Rattle.model.specs.Basics.{choose, when, first_refusal}
use Rattle.model.specs.State.{Byte, Cell, owed, count_of}
use Rattle.model.specs.Slot.{Call, oldest_cell, Refill}
use Rattle.model.proofs.basics.Tests.{by_test, positive, none_not_some, true_not_false}
use Rattle.model.proofs.basics.FirstRefusal.{no_refusal_at, when-zero}
use Rattle.layout.specs.Counts.{by_queue}
use Rattle.model.proofs.basics.Bytes.{count_one_same}
use Rattle.layout.specs.declared.Refill as code
use Rattle.layout.specs.declared.Refusal.{Refusal}
use Rattle.layout.specs.declared.Refusal.TheVariants as because
use Rattle.layout.proofs.Refusals.{refusal_is_some}
use Rattle.layout.specs.Entries.{counts_in}
use Rattle.layout.specs.Calls.{chosen_in, arrival_in, request_in, refill_in, call_in}
use Rattle.layout.specs.declared.Regs.{Regs}
use Rattle.layout.specs.Views.{sizes_in}
use Rattle.layout.specs.Figures.{Figures, figures_in}
use Rattle.slot_counts.specs.Says.{arrival_counted, tails_asked}
use Rattle.slot_plan.specs.declared.Plan.{Plan}
use Rattle.slot_refusals.specs.declared.Verdict.{Verdict}
use Rattle.slot_refusals.specs.Says.{arrival_number, arrives_at, request_number, leaving_number, tail_number}
use Rattle.slot_refusals.specs.Says.{owes_now, swaps_now, arrival_left, request_left, arrival_found, request_found, left_now}
use Rattle.slot_refusals.specs.Says.{early_number, IsVerdict, EarlySays, full_now}
use Rattle.slot_plan.specs.Says.{write_now, read_now, left_of, PlanSays}

-- The first of a list that is a refusal.
first_here : (n : ℕ) (ns : List ℕ) → (n ≡ 0 → ⊥) → n ≡ first_refusal (n ∷ ns)
first_here zero ns h = absurd (h refl)
first_here (suc n) ns h = refl

-- A request that takes an Owed cell is of a queue below the last.
owes-below : (f : Figures) (q : ℕ) → owes_now f (some q) ≡ true → q < f.sizes.Q
owes-below f q e =
    by_test (leb f.sizes.Q q)
    (λ t. absurd (true_not_false (owes_now f (some q)) e (rw t)))
    (λ t. leb-false f.sizes.Q q t)

-- What is left of a half is the half, and it was not dropped.
arrival-came : (n : ℕ) (arrival : math.Option Byte) (y : Byte) → arrival_left n arrival ≡ some y → arrival ≡ some y
arrival-came n arrival y e =
    by_test (eqb n 5)
    (λ t. absurd (none_not_some y (sym (ap (λ (b : Bool). choose b none arrival) t) ∙ e)))
    (λ t. sym (ap (λ (b : Bool). choose b none arrival) t) ∙ e)

request-came : (n : ℕ) (request : math.Option ℕ) (q : ℕ) → request_left n request ≡ some q
    → (request ≡ some q) × (n ≡ 7 → ⊥)
request-came n request q e =
    by_test (eqb n 7)
    (λ t. absurd (none_not_some q (sym (ap (λ (b : Bool). choose b none request) t) ∙ e)))
    (λ t. (sym (ap (λ (b : Bool). choose b none request) t) ∙ e, eqb-false n 7 t))

-- 4 and 6 ruled out: the queue is below the last. 7 ruled out too: a request that takes a tail byte finds one, this
-- slot's arrival counted.
arrival-below : (f : Figures) (swapping : Bool) (y : Byte) → (arrival_number f swapping (some y) ≡ 4 → ⊥)
    → y.queue < f.sizes.Q
arrival-below f swapping y n =
    by_test (leb f.sizes.Q y.queue)
    (λ t. absurd (n (rw t)))
    (λ t. leb-false f.sizes.Q y.queue t)

found-or_arrives : (arrival : math.Option Byte) (tails : ℕ → ℕ) (q : ℕ)
    → (choose (arrives_at arrival q) 0 (when (eqb (tails q) 0) 7) ≡ 7 → ⊥) → 1 ≤ arrival_counted arrival tails q
found-or_arrives none tails q n =
    omega (
      arith,
      positive (tails q) (λ z. n (ap (λ (t : Bool). when t 7) (eq-eqb (tails q) 0 z))),
    )
found-or_arrives (some y) tails q n =
    by_test (eqb y.queue q)
    (λ t. omega (arith, count_one_same y, ap (λ (p : ℕ). count_of p (y ∷ [])) (eqb-true y.queue q t)))
    (λ t. omega (
      arith,
      positive (tails q) (λ z. n (rw (t, eq-eqb (tails q) 0 z))),
    ))

request-finds : (f : Figures) (arrival : math.Option Byte) (q : ℕ) → (request_number f false arrival (some q) ≡ 6 → ⊥)
    → (request_number f false arrival (some q) ≡ 7 → ⊥)
    → (q < f.sizes.Q) × (1 ≤ arrival_counted arrival f.tails q)
request-finds f arrival q six seven =
    by_test (leb f.sizes.Q q)
    (λ t. absurd (six (rw t)))
    (λ t. (
      leb-false f.sizes.Q q t,
      found-or_arrives arrival f.tails q (λ e. seven (rw t e)),
    ))

-- Whether a request takes an Owed cell needs no tail bytes.
owes-without_tails : (regs : Regs) (tails heads owing stored : List ℕ) (request : math.Option ℕ)
    → owes_now (figures_in regs (by_queue [] heads owing) stored) request
    ≡ owes_now (figures_in regs (by_queue tails heads owing) stored) request
owes-without_tails regs tails heads owing stored none = refl
owes-without_tails regs tails heads owing stored (some q) = refl

-- Where it is known whether the request takes an Owed cell, nothing else that is judged early needs the Owed cells.
module _ (regs : Regs) (tails heads owing stored : List ℕ) (owes : Bool) (cell : Cell) where
  abbrev few : Figures
  few = figures_in regs (by_queue tails heads []) stored

  abbrev all : Figures
  all = figures_in regs (by_queue tails heads owing) stored

  abbrev with : math.Option Byte → math.Option ℕ → Call
  with arrival request = record { arrival = arrival; request = request }

  early_alike : (arrival : math.Option Byte) (request : math.Option ℕ)
      → early_number few owes cell (with arrival request) ≡ early_number all owes cell (with arrival request)
  early_alike none none = refl
  early_alike none (some q) = refl
  early_alike (some y) none = refl
  early_alike (some y) (some q) = refl

  arrival-alike : (arrival : math.Option Byte) (request : math.Option ℕ)
      → arrival_found few owes (with arrival request) ≡ arrival_found all owes (with arrival request)
  arrival-alike none request = refl
  arrival-alike (some y) request = refl

  request-alike : (arrival : math.Option Byte) (request : math.Option ℕ)
      → request_found few owes (with arrival request) ≡ request_found all owes (with arrival request)
  request-alike none none = refl
  request-alike none (some q) = refl
  request-alike (some y) none = refl
  request-alike (some y) (some q) = refl

  swaps-alike : (arrival : math.Option Byte) (request : math.Option ℕ)
      → swaps_now few owes arrival request ≡ swaps_now all owes arrival request
  swaps-alike none request = refl
  swaps-alike (some y) request = refl

  verdict_alike : (call : Call) (v : Verdict) → IsVerdict few owes call v → IsVerdict all owes call v
  verdict_alike call v judged = record {
    arrival-number_is = judged.arrival-number_is ∙ arrival-alike call.arrival call.request;
    request-number_is = judged.request-number_is ∙ request-alike call.arrival call.request;
    left_is =
        judged.left_is
        ∙ ap (λ (n : ℕ).
        with (arrival_left n call.arrival) (request_left (request_found few owes call) call.request))
        (arrival-alike call.arrival call.request)
        ∙ ap (λ (n : ℕ).
        with (arrival_left (arrival_found all owes call) call.arrival) (request_left n call.request))
        (request-alike call.arrival call.request);
    swaps-is = judged.swaps-is ∙ swaps-alike call.arrival call.request;
  }

  judged_alike : (call : Call) {r : Result Verdict Refusal} → EarlySays few owes cell call r
      → EarlySays all owes cell call r
  judged_alike call {r} judged = record {
    number_is = judged.number_is ∙ early_alike call.arrival call.request;
    verdict_is = IfOk-weaker r (IsVerdict few owes call) (IsVerdict all owes call) (verdict_alike call) judged.verdict_is;
  }

-- What the code has found: the oldest cell, whether the request takes an Owed cell, and what is judged early.
module _ (regs : Regs) (tails heads owing stored : List ℕ) (cells : List Cell) (call : Call)
    {cell : Cell} (cell_is : oldest_cell cells ≡ cell)
    {owes : Bool} (owes_is : owes ≡ owes_now (figures_in regs (by_queue [] heads owing) stored) call.request) where
  abbrev f : Figures
  f = figures_in regs (by_queue tails heads owing) stored

  owes-found : owes ≡ owes_now f call.request
  owes-found = owes_is ∙ owes-without_tails regs tails heads owing stored call.request

  owes-known : (q : ℕ) → call.request ≡ some q → owes ≡ true → q < regs.queues
  owes-known q e t =
      owes-below (figures_in regs (by_queue [] heads owing) stored) q
      (ap (owes_now (figures_in regs (by_queue [] heads owing) stored)) (sym e) ∙ sym owes_is ∙ t)

  -- The same by whether the request is Owed in all figures, and the oldest cell.
  by_all : {r : Result Verdict Refusal}
      → EarlySays (figures_in regs (by_queue tails heads []) stored) owes cell call r
      → EarlySays f (owes_now f call.request) (oldest_cell cells) call r
  by_all {r} judged =
      subst (λ (o : Bool). EarlySays f o (oldest_cell cells) call r) owes-found
      (subst (λ (c : Cell). EarlySays f owes c call r) (sym cell_is)
      (judged_alike regs tails heads owing stored owes cell call judged))

  abbrev to_read : Refill
  to_read =
      read_now regs.phase (sizes_in regs) (counts_in heads) cells (owes_now f call.request) (left_of f call).request

  abbrev early : ℕ
  early = early_number f (owes_now f call.request) (oldest_cell cells) call

  -- The three outcomes.
  abbrev Says : Result Plan Refusal → Type 0
  Says r = PlanSays f regs.phase regs.head_fill cells call r

  -- 4, 6, 8 or 9, as it is passed up.
  pub refused-early : {refusal : Refusal}
      → EarlySays (figures_in regs (by_queue tails heads []) stored) owes cell call (Err refusal)
      → (r : Result Plan Refusal) → IsErrAnd r (λ e. e ≡ refusal) → Says r
  refused-early judged (Ok p) told = absurd told
  refused-early {refusal} judged (Err e) told =
      subst (λ (k : Refusal). Says (Err k)) (sym told) (record {
        number_is =
            (by_all judged).number_is
            ∙ first_here early
            (when (full_now (sizes_in regs) regs.head_fill (oldest_cell cells) to_read.queue) 10 ∷ [])
            (λ z. refusal_is_some refusal ((by_all judged).number_is ∙ z));
        plan_is = tt;
      })

  -- Of a slot that goes on.
  module _ (v : Verdict)
      (judged : EarlySays (figures_in regs (by_queue tails heads []) stored) owes cell call (Ok v)) where
    -- By whether the request is Owed as the code has it.
    found : EarlySays f owes cell call (Ok v)
    found = judged_alike regs tails heads owing stored owes cell call judged

    abbrev stops : List ℕ
    stops =
        when (eqb (arrival_found f owes call) 4) 4 ∷
        when (eqb (request_found f owes call) 6) 6 ∷
        leaving_number (counts_in heads) cell ∷
        tail_number (sizes_in regs) regs.tail_fill (swaps_now f owes call.arrival call.request)
        (left_now f owes call).arrival ∷ []

    none_at : (i : ℕ) → get_or stops i 0 ≡ 0
    none_at i = no_refusal_at stops i (sym found.number_is)

    not-4 : arrival_found f owes call ≡ 4 → ⊥
    not-4 = eqb-false (arrival_found f owes call) 4 (when-zero _ 3 (none_at 0))

    not-6 : request_found f owes call ≡ 6 → ⊥
    not-6 = eqb-false (request_found f owes call) 6 (when-zero _ 5 (none_at 1))

    left-arrival : arrival_in v.call.arrival ≡ (left_now f owes call).arrival
    left-arrival = ap (λ (c : Call). c.arrival) found.verdict_is.left_is

    left-request : request_in v.call.request ≡ (left_now f owes call).request
    left-request = ap (λ (c : Call). c.request) found.verdict_is.left_is

    -- A leaving Owed cell has a head byte.
    pub leaving_has_byte : (q : ℕ) → cell ≡ owed q → 1 ≤ counts_in heads q
    leaving_has_byte q is =
        positive (counts_in heads q)
        (eqb-false (counts_in heads q) 0
        (when-zero _ 7 (ap (leaving_number (counts_in heads)) (sym is) ∙ none_at 2)))

    -- What is left of the arrival is of a queue below the last, and so is a request that is Owed; one that takes a tail
    -- byte finds one.
    pub arrival-known : (y : Byte) → arrival_in v.call.arrival ≡ some y → y.queue < regs.queues
    arrival-known y e =
        arrival-below f (swaps_now f owes call.arrival call.request) y
        (λ z. not-4 (ap (arrival_number f (swaps_now f owes call.arrival call.request))
        (arrival-came (arrival_found f owes call) call.arrival y (sym left-arrival ∙ e)) ∙ z))

    came : (q : ℕ) → request_in v.call.request ≡ some q
        → (call.request ≡ some q) × (request_found f owes call ≡ 7 → ⊥)
    came q e = request-came (request_found f owes call) call.request q (sym left-request ∙ e)

    pub owed_known : (q : ℕ) → request_in v.call.request ≡ some q → owes ≡ true → q < regs.queues
    owed_known q e t = owes-known q (came q e).0 t

    pub byte-known : (q : ℕ) → request_in v.call.request ≡ some q → owes ≡ false
        → (q < regs.queues) × (1 ≤ arrival_counted (arrival_in v.call.arrival) (counts_in tails) q)
    byte-known q e t =
        rw left-arrival
        (request-finds f (left_now f owes call).arrival q
        (λ z. not-6 (number_is ∙ z)) (λ z. (came q e).1 (number_is ∙ z)))
      where
        number_is : request_found f owes call ≡ request_number f false (left_now f owes call).arrival (some q)
        number_is =
            ap (request_number f owes (left_now f owes call).arrival) (came q e).0
            ∙ ap (λ (o : Bool). request_number f o (left_now f owes call).arrival (some q)) t

    verdict : IsVerdict f (owes_now f call.request) call v
    verdict = (by_all judged).verdict_is

    no_early : early ≡ 0
    no_early = sym (by_all judged).number_is

    module _ (refill : Option code.Refill)
        (read_is : refill_in refill
        ≡ read_now regs.phase (sizes_in regs) (counts_in heads) cells owes (request_in v.call.request))
        (read : Option ℕ) (queue_is : chosen_in read ≡ (refill_in refill).queue)
        {full : Bool} (Full-is : full ≡ full_now (sizes_in regs) regs.head_fill cell (chosen_in read)) where
      read_found : refill_in refill ≡ to_read
      read_found =
          read_is
          ∙ ap (λ (o : Bool). read_now regs.phase (sizes_in regs) (counts_in heads) cells o (request_in v.call.request))
          owes-found
          ∙ ap (λ (c : Call). read_now regs.phase (sizes_in regs) (counts_in heads) cells (owes_now f call.request)
          c.request) verdict.left_is

      full-found : full ≡ full_now (sizes_in regs) regs.head_fill (oldest_cell cells) to_read.queue
      full-found =
          Full-is
          ∙ ap (λ (c : Cell). full_now (sizes_in regs) regs.head_fill c (chosen_in read)) (sym cell_is)
          ∙ ap (full_now (sizes_in regs) regs.head_fill (oldest_cell cells)) queue_is
          ∙ ap (λ (r : Refill). full_now (sizes_in regs) regs.head_fill (oldest_cell cells) r.queue) read_found

      pub refused_full : full ≡ true → Says (Err because.HeadFull)
      refused_full t = record { number_is = rw (no_early, ← full-found, t); plan_is = tt }

      pub plan_accepted : full ≡ false → (written : Option ℕ)
          → chosen_in written
          ≡ write_now regs.phase (sizes_in regs) (tails_asked owes (call_in v.call) (counts_in tails))
          → Says (Ok (record {
            arrival_dropped = v.arrival_dropped;
            request_dropped = v.request_dropped;
            call = v.call;
            owes = owes;
            swaps = v.swaps;
            written = written;
            refill = refill;
          }))
      plan_accepted t written written_is = record {
        number_is = rw (no_early, ← full-found, t);
        plan_is = record {
          arrival-number_is = verdict.arrival-number_is;
          request-number_is = verdict.request-number_is;
          left_is = verdict.left_is;
          owes_is = owes-found;
          swaps-is = verdict.swaps-is;
          written_is =
              written_is
              ∙ ap (λ (o : Bool). write_now regs.phase (sizes_in regs)
              (tails_asked o (call_in v.call) (counts_in tails))) owes-found
              ∙ ap (λ (c : Call). write_now regs.phase (sizes_in regs)
              (tails_asked (owes_now f call.request) c (counts_in tails))) verdict.left_is;
          read_is = read_found;
        };
      }
