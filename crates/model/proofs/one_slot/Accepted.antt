-- A slot is refused whole, or accepted with none of the refusals, since it answers the first of them and 0 where
-- there is none: `outcome`. And what it tells of state, store and what is left of the call that none of them holds:
-- `accepted-facts`. Whatever is proved of an accepted slot is proved of a call that is `Judged`.
use mathlib.Core.Path.{◌≡◌, refl, ap, sym, ◌∙◌, subst}
use mathlib.Core.Bool.{false, not}
use mathlib.Core.List.{List, [], ◌∷◌, ◌++◌}
use mathlib.Core.Option.{Option, some}
use Prim.Native.Nat.{ℕ, zero, suc, ◌+◌, ◌*◌, ◌<◌, ◌≤◌}
use native.Mathlib.Omega.{arith}
use lib.Dec.{ltb, leb}
use lib.ListN.{length, take, get_or}
use borrow.Author.Tests.{eqb-false, ne_eqb, leb-false, ltb-false, not-false}
use Rattle.model.specs.Basics.{when, first_refusal}
use Rattle.model.specs.Sizes.{Design, tail_size, store_bytes}
use Rattle.model.specs.State.{Byte, State, count_of, tail_bytes, blocks, keeps}
use Rattle.model.specs.Slot.{Call, arriving, is_owed, oldest_cell, is_full, swaps, early_arrival, wrote, queue_to_read}
use Rattle.model.specs.Slot.{arrival_unknown, arrival_full, request_unknown, nothing_to_take, leaves_uncovered}
use Rattle.model.specs.Slot.{tail_found, tail_full, head_full, refusals, refusal, Answer, accept, refuse, answer}
use Rattle.model.specs.Slot.{halves_taken, slot}
use Rattle.model.specs.Lists.{Step, step_of, run, last_state, last_store, accepted}
use Rattle.model.proofs.basics.Bytes.{count_append}
use Rattle.model.proofs.basics.Tests.{by_test, by_zero, some_inj, true_not_false}
use Rattle.model.proofs.basics.FirstRefusal.{no_refusal_at, when-zero}
use Rattle.model.proofs.meaning.Steps.{seven_there}
use Rattle.model.proofs.one_slot.Rules.{Rules, Keeps, keeps-facts}
use Rattle.model.proofs.one_slot.StepsKeepRules.{ArrivalTaken}
use Rattle.model.proofs.one_slot.Halves.{left-not_full, left-something, left-arrival_known, left-request_known}
use Rattle.model.proofs.one_slot.Halves.{left-once}
use Rattle.model.proofs.one_slot.Swap.{swap_facts, early_is, early_swaps_not, five_as_before, nine_as_before}

-- All refusals but 10.
abbrev pub early_refusals : Design → State → List ℕ → Call → List ℕ
early_refusals design x store call = take 6 (refusals design x store call)

-- None of those: the state keeps the rules, the store is long enough, and arrival, request and delivery can be had. The
-- arrival that finds room at once is the early one; the late one's room is the request's to make (`late_taken`).
pub record Judged (design : Design) (x : State) (store : List ℕ) (call : Call) : Type 0 where
  pub kept : Keeps design x
  pub store_long : store_bytes x.sizes ≤ length store
  pub arrival-known : (y : Byte) → call.arrival ≡ some y → y.queue < x.sizes.Q
  pub arrival_ok : ArrivalTaken x (early_arrival x call)
  pub request_ok : (q : ℕ) → call.request ≡ some q → q < x.sizes.Q
  pub byte-there : (q : ℕ) → call.request ≡ some q → is_owed x q ≡ false → 1 ≤ count_of q
      (x.tail ++ arriving (early_arrival x call))
  pub covered : leaves_uncovered (oldest_cell x.cells) x ≡ false
  pub tail_room : (y : Byte) → early_arrival x call ≡ some y → length x.tail < tail_size x.sizes

-- And the head takes the block: the slot is accepted.
pub record Accepted (design : Design) (x : State) (store : List ℕ) (call : Call) : Type 0 where
  pub judged : Judged design x store call
  pub head_room : head_full (wrote x call) (queue_to_read (wrote x call)) ≡ false

known_arrival : (x : State) (arrival : Option Byte) → arrival_unknown x arrival ≡ false
    → (y : Byte) → arrival ≡ some y → y.queue < x.sizes.Q
known_arrival x arrival e y s = leb-false x.sizes.Q y.queue (ap (arrival_unknown x) (sym s) ∙ e)

-- A byte that joins early is the call's own, in a slot that does not swap.
early_comes : (x : State) (call : Call) (y : Byte) → early_arrival x call ≡ some y → call.arrival ≡ some y
early_comes x call y s = sym (early_is x call (early_swaps_not x call y s)) ∙ s

arrival-taken : (x : State) (call : Call) → arrival_unknown x call.arrival ≡ false
    → arrival_full x call.arrival call.request ≡ false
    → (n : ℕ) → Rules n x → ArrivalTaken x (early_arrival x call)
arrival-taken x call e f n v y s = (below, omega (arith, v.room y.queue below, eqb-false used all not_full))
  where
    used : ℕ
    used = tail_bytes x y.queue + x.sizes.b * blocks x y.queue

    all : ℕ
    all = x.sizes.K * x.sizes.b

    below : y.queue < x.sizes.Q
    below = known_arrival x call.arrival e y (early_comes x call y s)

    not_full : is_full x y.queue ≡ false
    not_full = sym (five_as_before x call (early_swaps_not x call y s) y (early_comes x call y s)) ∙ f

request-known : (x : State) (request : Option ℕ) → request_unknown x request ≡ false
    → (q : ℕ) → request ≡ some q → q < x.sizes.Q
request-known x request e q s = leb-false x.sizes.Q q (ap (request_unknown x) (sym s) ∙ e)

something_to_take : (x : State) (arrival : Option Byte) (request : Option ℕ) → nothing_to_take x arrival request ≡ false
    → (q : ℕ) → request ≡ some q → is_owed x q ≡ false → 1 ≤ count_of q (x.tail ++ arriving arrival)
something_to_take x arrival request e q s t =
    by_zero (count_of q (x.tail ++ arriving arrival))
    (λ z. absurd (true_not_false (nothing_to_take x arrival (some q)) (seven_there x arrival q t z)
    (ap (nothing_to_take x arrival) (sym s) ∙ e)))
    (λ u. u)

-- In a slot that swaps the byte is an old one.
early_to_take : (x : State) (call : Call) → nothing_to_take x call.arrival call.request ≡ false
    → (q : ℕ) → call.request ≡ some q → is_owed x q ≡ false → 1 ≤ count_of q (x.tail ++ arriving (early_arrival x call))
early_to_take x call e q s f =
    by_test (swaps x call.arrival call.request)
    (λ t. let w = swap_facts x call t in
    omega (
      arith,
      count_append q x.tail (arriving (early_arrival x call)),
      subst (λ (p : ℕ). 1 ≤ tail_bytes x p) (some_inj w.comes.queue q (sym w.request-is ∙ s)) w.byte-there,
    ))
    (λ t. subst (λ (a : Option Byte). 1 ≤ count_of q (x.tail ++ arriving a)) (sym (early_is x call t))
    (something_to_take x call.arrival call.request e q s f))

tail_takes : (x : State) (call : Call) → tail_full x call.arrival call.request ≡ false
    → (y : Byte) → early_arrival x call ≡ some y → length x.tail < tail_size x.sizes
tail_takes x call e y s =
    leb-false (tail_size x.sizes) (length x.tail)
    (ap (λ (l : List Byte). leb (tail_size x.sizes) (length l)) (sym (nine_as_before x call no_swap))
    ∙ ap (λ (a : Option Byte). leb (tail_size x.sizes) (length (tail_found x a call.request))) comes
    ∙ ap (λ (a : Option Byte). tail_full x a call.request) (sym comes)
    ∙ e)
  where
    no_swap : swaps x call.arrival call.request ≡ false
    no_swap = early_swaps_not x call y s

    comes : call.arrival ≡ some y
    comes = early_comes x call y s

module _ (design : Design) (x : State) (store : List ℕ) (call : Call) where
  -- Of a call what is left of it.
  abbrev left : Call
  left = halves_taken x call

  pub judged_facts : first_refusal (early_refusals design x store call) ≡ 0 → Judged design x store left
  judged_facts e = record {
    kept = rules-kept;
    store_long = ltb-false (length store) (store_bytes x.sizes) (when-zero _ 1 (none_at 1));
    arrival-known = known_arrival x left.arrival known;
    arrival_ok = arrival-taken x left known (left-not_full x call) _ rules-kept.within;
    request_ok = request-known x left.request (left-request_known x call (when-zero _ 5 (none_at 3)));
    byte-there = early_to_take x left (left-something x call);
    covered = when-zero _ 7 (none_at 4);
    tail_room = tail_takes x left (when-zero _ 8 (none_at 5));
  }
    where
      none_at : (i : ℕ) → get_or (early_refusals design x store call) i 0 ≡ 0
      none_at i = no_refusal_at (early_refusals design x store call) i e

      known : arrival_unknown x left.arrival ≡ false
      known = left-arrival_known x call (when-zero _ 3 (none_at 2))

      rules-kept : Keeps design x
      rules-kept = keeps-facts design x (not-false (keeps design x) (when-zero (not (keeps design x)) 2 (none_at 0)))

  pub early_none : refusal design x store call ≡ 0 → first_refusal (early_refusals design x store call) ≡ 0
  early_none e = go (early_refusals design x store call)
      (when (head_full (wrote x left) (queue_to_read (wrote x left))) 10) e
    where
      go : (ns : List ℕ) (n : ℕ) → first_refusal (ns ++ n ∷ []) ≡ 0 → first_refusal ns ≡ 0
      go [] n e = refl
      go (zero ∷ ns) n e = go ns n e
      go (suc m ∷ ns) n e = absurd (omega (arith, e))

  pub accepted-facts : refusal design x store call ≡ 0 → Accepted design x store left
  accepted-facts e = record {
    judged = judged_facts (early_none e);
    head_room = when-zero _ 9 (no_refusal_at (refusals design x store call) 6 e);
  }

-- The number that a slot answers is its first refusal.
pub refusal-told : (design : Design) (x : State) (store : List ℕ) (call : Call)
    → (slot design x store call).reply.number ≡ refusal design x store call
refusal-told design x store call = go (refusal design x store call)
  where
    go : (n : ℕ) → (answer n x store call).reply.number ≡ n
    go zero = refl
    go (suc n) = refl

-- What is left of an accepted call is accepted.
pub left-accepted : (design : Design) (x : State) (store : List ℕ) (call : Call) → refusal design x store call ≡ 0
    → refusal design x store (halves_taken x call) ≡ 0
left-accepted design x store call e =
    ap (λ (c : Call). first_refusal (judged_by c)) (left-once x call)
    ∙ rw (
      not-false (keeps design x) (when-zero (not (keeps design x)) 2 (none_at 0)),
      when-zero (ltb (length store) (store_bytes x.sizes)) 1 (none_at 1),
      left-arrival_known x call (when-zero _ 3 (none_at 2)),
      left-request_known x call (when-zero _ 5 (none_at 3)),
      when-zero (leaves_uncovered (oldest_cell x.cells) x) 7 (none_at 4),
      when-zero (tail_full x left.arrival left.request) 8 (none_at 5),
      when-zero (head_full (wrote x left) (queue_to_read (wrote x left))) 9 (none_at 6),
    )
  where
    left : Call
    left = halves_taken x call

    none_at : (i : ℕ) → get_or (refusals design x store call) i 0 ≡ 0
    none_at i = no_refusal_at (refusals design x store call) i e

    -- The refusals of what is left, of which this is left.
    judged_by : Call → List ℕ
    judged_by c =
        when (not (keeps design x)) 3 ∷
        when (ltb (length store) (store_bytes x.sizes)) 2 ∷
        when (arrival_unknown x (halves_taken x call).arrival) 4 ∷
        when (request_unknown x (halves_taken x call).request) 6 ∷
        when (leaves_uncovered (oldest_cell x.cells) x) 8 ∷
        when (tail_full x c.arrival c.request) 9 ∷
        when (head_full (wrote x c) (queue_to_read (wrote x c))) 10 ∷ []

-- A slot is one of the two.
pub data RefusedOrAccepted (design : Design) (x : State) (store : List ℕ) (call : Call) : Answer → Type 0 where
  was_refused : (n : ℕ) → refusal design x store call ≡ suc n → RefusedOrAccepted design x store call
      (refuse (suc n) x store)
  was_accepted : Accepted design x store (halves_taken x call)
      → RefusedOrAccepted design x store call (accept x store call)

pub outcome : (design : Design) (x : State) (store : List ℕ) (call : Call)
    → RefusedOrAccepted design x store call (slot design x store call)
outcome design x store call = go (refusal design x store call) refl
  where
    go : (n : ℕ) → refusal design x store call ≡ n → RefusedOrAccepted design x store call (answer n x store call)
    go zero e = was_accepted (accepted-facts design x store call e)
    go (suc n) e = was_refused n e

-- A list of which no slot is accepted leaves state and store as they came.
abbrev LeftAsGiven : Design → State → List ℕ → State → List ℕ → List Call → Type 0
LeftAsGiven design x store y left calls =
    (last_state design y left calls ≡ x) × (last_store design y left calls ≡ store)

pub none_accepted : (design : Design) (x : State) (store : List ℕ) (calls : List Call)
    → accepted (run design x store calls) ≡ [] → LeftAsGiven design x store x store calls
none_accepted design x store [] e = (refl, refl)
none_accepted design x store (call ∷ calls) e =
    go (slot design x store call) (outcome design x store call) (none_accepted design x store calls) e
  where
    go : (a : Answer) → RefusedOrAccepted design x store call a
        → (accepted (run design x store calls) ≡ [] → LeftAsGiven design x store x store calls)
        → accepted (step_of x store call a ∷ run design a.state a.store calls) ≡ []
        → LeftAsGiven design x store a.state a.store calls
    go a (was_refused n r) rest e = rest (rw (ne_eqb (suc n) 0 (λ z. omega arith)) at e)
    go a (was_accepted f) rest e = absurd (let z : suc _ ≡ 0 = ap (length {A = Step}) e in omega (arith, z))
