-- A script prints at most 11 bytes for each of its own, and 11 more (`text-fits`). A line of a slot has at most 21
-- bytes, and each half of a call has at most one such line: an arrival its 5 or, taken, a read, a request its 7 or,
-- taken, its delivery, and a slot that is stopped one line for its halves. A command has two bytes or more for each
-- half. The last line has at most 13 bytes, for which the end's own byte is there too. A fault's line has at most 11.
use mathlib.Core.Path.{◌≡◌, refl, ap}
use mathlib.Core.Bool.{Bool, true, false, not}
use mathlib.Core.List.{List, [], ◌∷◌, ◌++◌}
use mathlib.Core.Option.{Option, some, none}
use Prim.Native.Nat.{ℕ, zero, suc, ◌+◌, ◌*◌, ◌≤◌, ◌<◌}
use native.Mathlib.Omega.{arith}
use lib.Dec.{eqb, ltb}
use lib.ListN.{length, replicate, length-append}
use borrow.Author.Tests.{eqb-true, ltb-true, ltb-false, not-false}
use Rattle.model.specs.Basics.{choose, All, when, first_refusal}
use Rattle.model.specs.Sizes.{Sizes, accepts, lookahead, paper, paper_limits, store_bytes}
use Rattle.model.specs.State.{Byte, fresh}
use Rattle.model.specs.Slot.{Reply}
use Rattle.model.specs.Lists.{Step, accepted, deliveries}
use Rattle.model.specs.Demand.{NoMiss, ListMeets}
use Rattle.model.proofs.basics.Tests.{by_test}
use Rattle.model.proofs.basics.AllOf.{all_of_facts}
use Rattle.model.proofs.basics.FirstRefusal.{no_refusal_at, when-zero}
use Rattle.model.proofs.basics.Limits.{within_limits}
use Rattle.model.proofs.basics.Present.{one, present}
use Rattle.model.proofs.one_slot.Lists.{run_length, accepted-few}
use Rattle.model.proofs.one_slot.Stored.{reads, reads_few}
use Rattle.model.proofs.Demand.{every_list}
use Rattle.script_commands.specs.Commands as of
use Rattle.script_commands.specs.Scripts.{Script, judge}
use Rattle.script_lines.specs.Lines.{Line, delivery, refusal, refill, ending, fault, line_text, text}
use Rattle.script_text.specs.Run.{most_bytes, slots_of_all, sizes_of, delivery_lines, half_lines, refill_lines}
use Rattle.script_text.specs.Run.{running_lines, count_on, slot_lines, list_lines, start_number, script_steps}
use Rattle.script_text.specs.Run.{started_lines, judged_lines, script_lines, output_bound}
use Rattle.script_text.proofs.Examples.{listing, prints}
use Rattle.script_text.proofs.Append.{text-append, text-length_append, refused-test}
use Rattle.script_text.proofs.Lengths.{most_slots, delivery-length, refusal-length, refill_length, ending_length}
use Rattle.script_text.proofs.Lengths.{fault_length, one_line_length, start_lines_length}
use Rattle.script_text.proofs.Delivered.{IfAny, SmallByte, deliveries-small, deliveries-few}
use Rattle.script_text.proofs.SlotCharges.{halves_of, told, told_of, NoneOfIdle, NumbersLow, ReadSmall, InRange}
use Rattle.script_text.proofs.SlotCharges.{ArrivalBelow, run-says, run-pays}
use Rattle.script_text.proofs.ScriptCharges.{Bytes, ScriptPays, judged_pays}

-- Properties of all slots of a list.
all_map : {A : Type 0} (P R : A → Type 0) → ((x : A) → P x → R x) → (xs : List A) → All P xs → All R xs
all_map P R f [] h = tt
all_map P R f (x ∷ xs) h = (f x h.0, all_map P R f xs h.1)

all_accepted : (P : Step → Type 0) (steps : List Step) → All P steps → All P (accepted steps)
all_accepted P [] h = tt
all_accepted P (step ∷ steps) h = by_test (eqb step.reply.number 0)
    (λ t. rw t (h.0, all_accepted P steps h.1))
    (λ t. rw t (all_accepted P steps h.1))

-- The lines of slots: 21 bytes for each refusal that is told, for each delivery and for each read.
abbrev line_count : List Step → ℕ
line_count steps = told_of steps + (present (deliveries (accepted steps)) + present (reads (accepted steps)))

half_short : (t n : ℕ) → t < most_slots → n ≤ 10 → length (text (half_lines t n)) ≤ 21 * told n
half_short t zero l low = omega arith
half_short t (suc n) l low =
    omega (arith, one_line_length (refusal t (suc n)), refusal-length t (suc n) l (omega (arith, low)))

module _ (queues values cells : ℕ) (two : queues ≤ 100) (three : values ≤ 1000) (four : cells < 10_000) where
  abbrev Regs : Option Byte → Type 0
  Regs o = IfAny (SmallByte queues values) o

  delivery-short : (t : ℕ) (o : Option Byte) → t < most_slots → Regs o
      → length (text (delivery_lines t o)) ≤ 21 * one o
  delivery-short t none l h = omega arith
  delivery-short t (some y) l h =
      omega (
        arith,
        one_line_length (delivery t y.queue y.value),
        delivery-length t y.queue y.value l (omega (arith, two, h.queue_small))
            (omega (arith, three, h.value_small)),
      )

  refill_short : (t : ℕ) (o : Option ℕ) (n : ℕ) → t < most_slots → IfAny (λ (q : ℕ). q < queues) o → n ≤ cells
      → length (text (refill_lines t o n)) ≤ 21 * one o
  refill_short t none n l h m = omega arith
  refill_short t (some q) n l h m =
      omega (
        arith,
        one_line_length (refill t q n),
        refill_length t q n l (omega (arith, two, h)) (omega (arith, four, m)),
      )

  -- The lines of a slot that runs.
  running_short : (t : ℕ) (r : Reply) → t < most_slots → NumbersLow r → ReadSmall queues cells r → Regs r.delivered
      → length (text (running_lines t r))
      ≤ 21 * (one r.delivered + (told r.arrival_number + (told r.request_number + one r.read)))
  running_short t r l low read regs =
      omega (
        arith,
        text-length_append (delivery_lines t r.delivered) (half_lines t r.arrival_number ++ behind),
        text-length_append (half_lines t r.arrival_number) behind,
        text-length_append (half_lines t r.request_number) (refill_lines t r.read r.slots_left),
        delivery-short t r.delivered l regs,
        half_short t r.arrival_number l low.arrival_low,
        half_short t r.request_number l low.request_low,
        refill_short t r.read r.slots_left l read.queue_below read.left_within,
      )
    where
      behind : List Line
      behind = half_lines t r.request_number ++ refill_lines t r.read r.slots_left

  slot-lines_short : (t : ℕ) (steps : List Step) → t + length steps ≤ most_slots
      → All (InRange queues values cells) steps → All Regs (deliveries (accepted steps))
      → length (text (slot_lines t steps)) ≤ 21 * line_count steps
  slot-lines_short t [] l low regs = omega arith
  slot-lines_short t (step ∷ steps) l low regs =
      by_number step.reply.number low.0.numbers.number_low regs
      (λ u m h. slot-lines_short u steps m low.1 h)
    where
      r : Reply
      r = step.reply

      taken-with : ℕ → List Step
      taken-with n = choose (eqb n 0) (step ∷ accepted steps) (accepted steps)

      by_number : (n : ℕ) → n ≤ 10 → All Regs (deliveries (taken-with n))
          → ((u : ℕ) → u + length steps ≤ most_slots → All Regs (deliveries (accepted steps))
          → length (text (slot_lines u steps)) ≤ 21 * line_count steps)
          → length (text (choose (eqb n 0) (running_lines t r) (refusal t n ∷ []) ++ slot_lines (count_on t n) steps))
          ≤ 21 * (((told n + (told r.arrival_number + told r.request_number)) + told_of steps)
          + (present (deliveries (taken-with n)) + present (reads (taken-with n))))
      by_number zero small regs later =
          omega (
            arith,
            text-length_append (running_lines t r) (slot_lines (suc t) steps),
            running_short t r (omega (arith, l)) low.0.numbers low.0.reads regs.0,
            later (suc t) (omega (arith, l)) regs.1,
          )
      by_number (suc n) small regs later =
          let others : All Regs (deliveries (accepted steps)) = rw (refused-test n) at regs in
          rw (refused-test n) (omega (
            arith,
            length-append (line_text (refusal t (suc n))) (text (slot_lines t steps)),
            refusal-length t (suc n) (omega (arith, l)) (omega (arith, small)),
            later t (omega (arith, l)) others,
          ))

-- The number with which a script starts is 2 at most; where it is 0, sizes and store are good.
two_tests_low : (t u : Bool) → first_refusal (when t 1 ∷ when u 2 ∷ []) ≤ 2
two_tests_low true u = omega arith
two_tests_low false true = omega arith
two_tests_low false false = omega arith

pub start_low : (s : Sizes) (store : List ℕ) → start_number s store ≤ 2
start_low s store = two_tests_low (not (accepts paper_limits s)) (ltb (length store) (store_bytes s))

module _ (s : Sizes) (store : List ℕ) (e : start_number s store ≡ 0) where
  abbrev tests : List ℕ
  tests = when (not (accepts paper_limits s)) 1 ∷ when (ltb (length store) (store_bytes s)) 2 ∷ []

  pub sizes-accepted : accepts paper_limits s ≡ true
  sizes-accepted =
      not-false (accepts paper_limits s) (when-zero (not (accepts paper_limits s)) 0 (no_refusal_at tests 0 e))

  store_long : store_bytes s ≤ length store
  store_long =
      ltb-false (length store) (store_bytes s)
      (when-zero (ltb (length store) (store_bytes s)) 1 (no_refusal_at tests 1 e))

-- Demand 3 rules out every refusal that an idle slot could have.
none_of_idle : (steps : List Step) → All NoMiss steps → All (λ (step : Step). step.reply.number ≡ 3 → ⊥) steps
    → All (λ (step : Step). step.reply.number ≡ 2 → ⊥) steps
    → All (λ (step : Step). NoneOfIdle step.reply.number) steps
none_of_idle [] miss three two = tt
none_of_idle (step ∷ steps) miss three two = (
  record { not-2 = two.0; not-3 = three.0; not-8 = miss.0.not-8; not_10 = miss.0.not_10 },
  none_of_idle steps miss.1 three.1 two.1,
)

-- A script that reads well and starts.
module _ (cs : List of.Command) (store : List ℕ) (e : start_number (sizes_of cs) store ≡ 0)
    (values_small : All (ArrivalBelow 256) (slots_of_all cs)) (few : length (slots_of_all cs) < most_slots) where
  abbrev steps : List Step
  steps = script_steps cs store

  meets : ListMeets (sizes_of cs) store steps
  meets = every_list paper_limits (sizes_of cs) store (slots_of_all cs) (sizes-accepted (sizes_of cs) store e)

  says : All (InRange (sizes_of cs).Q 256 (lookahead (sizes_of cs))) steps
  says =
      run-says paper 256 (sizes_of cs) (fresh paper (sizes_of cs)) store (slots_of_all cs) (omega arith) refl values_small

  lines_paid : line_count steps ≤ halves_of (slots_of_all cs)
  lines_paid =
      omega (
        arith,
        deliveries-few (sizes_of cs) (accepted steps) meets.bytes,
        reads_few paper_limits (sizes_of cs) store (slots_of_all cs) (sizes-accepted (sizes_of cs) store e),
        run-pays paper (fresh paper (sizes_of cs)) store (slots_of_all cs)
            (none_of_idle steps meets.no_miss meets.no_3 (meets.no_2 (store_long (sizes_of cs) store e))),
      )

  list_short : length (text (list_lines steps)) ≤ 21 * halves_of (slots_of_all cs) + 13
  list_short =
      omega (
        arith,
        lines_paid,
        ap length (text-append (slot_lines 0 steps) (ending (length (accepted steps)) ∷ [])),
        length-append (text (slot_lines 0 steps)) (text (ending (length (accepted steps)) ∷ [])),
        slot-lines_short (sizes_of cs).Q 256 (lookahead (sizes_of cs)) two_digits (omega arith) four_digits 0 steps
            (omega (arith, few, as_many)) says
            (deliveries-small (sizes_of cs).Q 256 (sizes_of cs) (accepted steps) meets.bytes
            (all_accepted _ steps (all_map _ _ (λ step h. h.takes) steps says))),
        one_line_length (ending (length (accepted steps))),
        ending_length (length (accepted steps)) (omega (arith, few, as_many, accepted-few steps)),
      )
    where
      two_digits : (sizes_of cs).Q ≤ 100
      two_digits = omega (arith, (within_limits paper_limits (sizes_of cs) (sizes-accepted (sizes_of cs) store e)).q_high)

      four_digits : lookahead (sizes_of cs) < 10_000
      four_digits =
          omega (arith, (within_limits paper_limits (sizes_of cs) (sizes-accepted (sizes_of cs) store e)).span_high)

      as_many : length steps ≡ length (slots_of_all cs)
      as_many = run_length paper (fresh paper (sizes_of cs)) store (slots_of_all cs)

started_fits : (start n : ℕ) (cs : List of.Command) (store : List ℕ) → start_number (sizes_of cs) store ≡ start
    → All (ArrivalBelow 256) (slots_of_all cs) → length (slots_of_all cs) < most_slots
    → 2 * halves_of (slots_of_all cs) + 1 ≤ n
    → length (text (started_lines start cs store)) ≤ 11 * n + 11
started_fits zero n cs store e values_small few paid = omega (arith, paid, list_short cs store e values_small few)
started_fits (suc k) n cs store e values_small few paid =
    omega (arith, start_lines_length (suc k) (omega (arith, e, start_low (sizes_of cs) store)))

judged_fits : (s : Script) (n : ℕ) (store : List ℕ) → ScriptPays 1 0 n s → n ≤ most_bytes
    → length (text (judged_lines s store)) ≤ 11 * n + 11
judged_fits s n store pays l = by_test (eqb s.number 0)
    (λ t. rw t (started_fits (start_number (sizes_of s.commands) store) n s.commands store refl pays.values_small
    (omega (arith, pays.slots_few, l)) (pays.halves_paid (eqb-true s.number 0 t))))
    (λ t. rw t (omega (
      arith,
      one_line_length (fault s.number s.offset),
      fault_length s.number s.offset pays.number_small (omega (arith, l, pays.offset_within)),
    )))

pub text-fits : (bytes store : List ℕ) → Bytes bytes
    → length (text (script_lines bytes store)) ≤ output_bound (length bytes)
unfolding script_lines
text-fits bytes store h = by_test (ltb most_bytes (length bytes))
    (λ t. rw t (omega (
      arith,
      ltb-true most_bytes (length bytes) t,
      one_line_length (fault 15 most_bytes),
      fault_length 15 most_bytes (omega arith) (omega arith),
    )))
    (λ t. rw t (omega (
      arith,
      ltb-false most_bytes (length bytes) t,
      judged_fits (judge bytes) (length bytes) store (judged_pays bytes h) (ltb-false most_bytes (length bytes) t),
    )))

-- The bound at work: what the listing prints is within it.
listing_fits : length (prints listing) ≤ output_bound (length listing.script)
listing_fits =
    text-fits listing.script (replicate listing.store_length 0)
    (all_of_facts (λ (x : ℕ). ltb x 256) (λ (x : ℕ). x < 256) (λ x e. ltb-true x 256 e) listing.script refl)
