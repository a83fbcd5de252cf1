-- No script prints R t 3, R t 8, R t 9 or R t 10, whatever its bytes are and its store holds (`never_printed`). Its
-- slots are a list of demand 3, where none of these comes, a half that is dropped has 5 or 7, and a script that does
-- not start prints R 0 1 or R 0 2.
use mathlib.Core.Path.{◌≡◌, refl, ap}
use mathlib.Core.List.{List, [], ◌∷◌, ◌++◌}
use mathlib.Core.Option.{Option, some, none}
use Prim.Native.Nat.{ℕ, zero, suc, ◌≤◌}
use native.Mathlib.Omega.{arith}
use lib.Dec.{eqb, ltb}
use lib.ListN.{length}
use Rattle.model.specs.Basics.{All}
use Rattle.model.specs.Sizes.{paper, paper_limits}
use Rattle.model.specs.State.{Byte, fresh}
use Rattle.model.specs.Slot.{Reply}
use Rattle.model.specs.Lists.{Step, accepted}
use Rattle.model.specs.Demand.{NoMiss, ListMeets}
use Rattle.model.proofs.basics.Tests.{by_test}
use Rattle.model.proofs.basics.AllOf.{all_append}
use Rattle.model.proofs.Demand.{every_list}
use Rattle.script_commands.specs.Commands as of
use Rattle.script_commands.specs.Scripts.{Script, judge}
use Rattle.script_lines.specs.Lines.{Line, delivery, refusal, refill, ending, fault}
use Rattle.script_text.specs.Run.{most_bytes, slots_of_all, sizes_of, delivery_lines, half_lines, refill_lines}
use Rattle.script_text.specs.Run.{running_lines, answer_lines, count_on, slot_lines, start_number, script_steps}
use Rattle.script_text.specs.Run.{started_lines, judged_lines, script_lines}
use Rattle.script_text.proofs.HalfNumbers.{ZeroOr, is_zero, is_it, HalfNumbers, run-halves}
use Rattle.script_text.proofs.Bound.{start_low, sizes-accepted}

-- A line that is none of these refusals, in whatever slot.
pub record NoneOfThese (line : Line) : Type 0 where
  pub not-3 : (t : ℕ) → line ≡ refusal t 3 → ⊥
  pub not-8 : (t : ℕ) → line ≡ refusal t 8 → ⊥
  pub not_9 : (t : ℕ) → line ≡ refusal t 9 → ⊥
  pub not_10 : (t : ℕ) → line ≡ refusal t 10 → ⊥

-- Lines of another kind, and refusals with another number.
abbrev refused_with : Line → ℕ
refused_with (delivery t q v) = 0
refused_with (refusal t n) = n
refused_with (refill t q n) = 0
refused_with (ending t) = 0
refused_with (fault n offset) = 0

by_refused_with : (line : Line) → (refused_with line ≡ 3 → ⊥) → (refused_with line ≡ 8 → ⊥) → (refused_with line ≡ 9 → ⊥)
    → (refused_with line ≡ 10 → ⊥) → NoneOfThese line
by_refused_with line three eight nine ten = record {
  not-3 = λ t e. three (ap refused_with e);
  not-8 = λ t e. eight (ap refused_with e);
  not_9 = λ t e. nine (ap refused_with e);
  not_10 = λ t e. ten (ap refused_with e);
}

low_number : (line : Line) → refused_with line ≤ 2 → NoneOfThese line
low_number line low =
    by_refused_with line
    (λ e. omega (arith, low, e)) (λ e. omega (arith, low, e)) (λ e. omega (arith, low, e)) (λ e. omega (arith, low, e))

middle_number : (line : Line) → 4 ≤ refused_with line → refused_with line ≤ 7 → NoneOfThese line
middle_number line least most =
    by_refused_with line
    (λ e. omega (arith, least, e)) (λ e. omega (arith, most, e)) (λ e. omega (arith, most, e))
    (λ e. omega (arith, most, e))

-- The lines of slots of which none was refused so.
delivery-lines : (t : ℕ) (o : Option Byte) → All NoneOfThese (delivery_lines t o)
delivery-lines t none = tt
delivery-lines t (some y) = (low_number (delivery t y.queue y.value) (omega arith), tt)

-- A half's 5 or 7.
arrival-lines : (t : ℕ) {n : ℕ} → ZeroOr 5 n → All NoneOfThese (half_lines t n)
arrival-lines t is_zero = tt
arrival-lines t is_it = (middle_number (refusal t 5) (omega arith) (omega arith), tt)

request-lines : (t : ℕ) {n : ℕ} → ZeroOr 7 n → All NoneOfThese (half_lines t n)
request-lines t is_zero = tt
request-lines t is_it = (middle_number (refusal t 7) (omega arith) (omega arith), tt)

refill_lines_lem : (t : ℕ) (read : Option ℕ) (n : ℕ) → All NoneOfThese (refill_lines t read n)
refill_lines_lem t none n = tt
refill_lines_lem t (some q) n = (low_number (refill t q n) (omega arith), tt)

running_lines_lem : (t : ℕ) (r : Reply) → HalfNumbers r → All NoneOfThese (running_lines t r)
running_lines_lem t r halves =
    all_append NoneOfThese (delivery_lines t r.delivered)
    (half_lines t r.arrival_number ++ (half_lines t r.request_number ++ refill_lines t r.read r.slots_left))
    (delivery-lines t r.delivered)
    (all_append NoneOfThese (half_lines t r.arrival_number)
    (half_lines t r.request_number ++ refill_lines t r.read r.slots_left)
    (arrival-lines t halves.arrival_5)
    (all_append NoneOfThese (half_lines t r.request_number) (refill_lines t r.read r.slots_left)
    (request-lines t halves.request_7) (refill_lines_lem t r.read r.slots_left)))

answer-lines : (t : ℕ) (r : Reply) → HalfNumbers r → (r.number ≡ 3 → ⊥) → (r.number ≡ 8 → ⊥)
    → (r.number ≡ 9 → ⊥) → (r.number ≡ 10 → ⊥) → All NoneOfThese (answer_lines t r)
answer-lines t r halves three eight nine ten = by_test (eqb r.number 0)
    (λ e. rw e (running_lines_lem t r halves))
    (λ e. rw e (by_refused_with (refusal t r.number) three eight nine ten, tt))

slot-lines : (t : ℕ) (steps : List Step) → All (λ (step : Step). HalfNumbers step.reply) steps → All NoMiss steps
    → All (λ (step : Step). step.reply.number ≡ 3 → ⊥) steps → All NoneOfThese (slot_lines t steps)
slot-lines t [] halves miss three = tt
slot-lines t (step ∷ steps) halves miss three =
    all_append NoneOfThese (answer_lines t step.reply) (slot_lines (count_on t step.reply.number) steps)
    (answer-lines t step.reply halves.0 three.0 miss.0.not-8 miss.0.not_9 miss.0.not_10)
    (slot-lines (count_on t step.reply.number) steps halves.1 miss.1 three.1)

-- A script that starts, or not.
started_lines_lem : (start : ℕ) (cs : List of.Command) (store : List ℕ) → start_number (sizes_of cs) store ≡ start
    → All NoneOfThese (started_lines start cs store)
started_lines_lem zero cs store e =
    let meets : ListMeets (sizes_of cs) store (script_steps cs store) =
    every_list paper_limits (sizes_of cs) store (slots_of_all cs) (sizes-accepted (sizes_of cs) store e) in
    let last : Line = ending (length (accepted (script_steps cs store))) in
    all_append NoneOfThese (slot_lines 0 (script_steps cs store)) (last ∷ [])
    (slot-lines 0 (script_steps cs store) (run-halves paper (fresh paper (sizes_of cs)) store (slots_of_all cs))
    meets.no_miss meets.no_3)
    (low_number last (omega arith), tt)
started_lines_lem (suc n) cs store e = (
  low_number (refusal 0 (suc n)) (omega (arith, e, start_low (sizes_of cs) store)),
  (low_number (ending 0) (omega arith), tt),
)

judged_lines_lem : (s : Script) (store : List ℕ) → All NoneOfThese (judged_lines s store)
judged_lines_lem s store = by_test (eqb s.number 0)
    (λ t. rw t (started_lines_lem (start_number (sizes_of s.commands) store) s.commands store refl))
    (λ t. rw t (low_number (fault s.number s.offset) (omega arith), tt))

pub never_printed : (bytes store : List ℕ) → All NoneOfThese (script_lines bytes store)
unfolding script_lines
never_printed bytes store = by_test (ltb most_bytes (length bytes))
    (λ t. rw t (low_number (fault 15 most_bytes) (omega arith), tt))
    (λ t. rw t (judged_lines_lem (judge bytes) store))
