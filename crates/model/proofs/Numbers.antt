-- The paper's numbers at the ends of their ranges, computed: its limits, its sizes and its sizing rule; that the rule
-- by the formula of request 2.4 is the rule by document 01's table; and the order of the refusals. The rows are of the
-- kinds of the table of examples, which has C1 to C12.
use mathlib.Core.Path.{◌≡◌, refl}
use mathlib.Core.Bool.{true, not}
use mathlib.Core.List.{List, [], ◌∷◌, ◌++◌}
use mathlib.Core.Option.{Option, some, none}
use Prim.Native.Nat.{ℕ, ◌+◌, ◌*◌, ◌/◌, ◌<◌}
use native.Mathlib.Omega.{arith}
use lib.Dec.{eqb, leb}
use lib.ListN.{length, get_or, replicate}
use borrow.Author.Tests.{eqb-true, leb-true}
use Rattle.model.specs.Basics.{choose, between, all_true, all_of, when}
use Rattle.model.specs.Sizes.{sizes, paper, cycle_time, sizing_number, sized_block}
use Rattle.model.specs.State.{byte, empty, owed, fresh}
use Rattle.model.specs.Slot.{refusal}
use Rattle.model.specs.Calls.{arrival, request, both, idle}
use Rattle.model.specs.Examples.{taken, drops, refused, reads, ◌delivering◌, ◌⇒◌}
use Rattle.model.specs.Examples.{made◌phase◌tail◌head◌cells◌blocks◌, slots, holds, sizes_taken, sizes_refused}
use Rattle.model.specs.Examples.{sizes_are, block_is, no_block}
use Rattle.model.proofs.basics.Tests.{by_test}
use Rattle.model.proofs.basics.AllOf.{all_below_facts}

-- The least and the greatest Q, b and K, and one beyond. Q(b - 1) is 2,016 in the last sizes taken and 2,020, the next
-- that the other limits allow, in the last refused.
pub limits_are : all_of holds (
    sizes_taken 1 1 1 1 ∷
    sizes_taken 64 1 255 1 ∷
    sizes_taken 1 128 255 128 ∷
    sizes_taken 16 127 1 2_017 ∷
    sizes_refused 0 1 1 1 ∷
    sizes_refused 1 0 1 1 ∷
    sizes_refused 1 1 0 1 ∷
    sizes_refused 65 1 1 1 ∷
    sizes_refused 1 129 1 1 ∷
    sizes_refused 1 1 256 1 ∷
    sizes_refused 20 102 1 1 ∷ []) ≡ true
limits_are = refl

-- The sizes where Q(b - 1) is 2,016.
pub sizes-are : all_of holds (sizes_are 63 33 2_017 2_049 4_033 ∷ sizes_are 16 127 2_017 2_143 4_033 ∷ []) ≡ true
sizes-are = refl

-- The least and the greatest rate and grade, and one beyond.
pub sizing_is : all_of holds (
    block_is 1 0 2 ∷
    block_is 100 0 125 ∷
    block_is 1 15 20 ∷
    no_block 0 0 11 ∷
    no_block 101 0 11 ∷
    no_block 1 16 11 ∷ []) ≡ true
sizing_is = refl

-- Request 2.4, "nothing a caller can see changes". Document 01: "The grades are a table of sixteen cycle times, 5 ns to
-- 80 ns in steps of 5, grade 0 first."
abbrev cycle_table : List ℕ
cycle_table = 5 ∷ 10 ∷ 15 ∷ 20 ∷ 25 ∷ 30 ∷ 35 ∷ 40 ∷ 45 ∷ 50 ∷ 55 ∷ 60 ∷ 65 ∷ 70 ∷ 75 ∷ 80 ∷ []

pub sixteen_grades : length cycle_table ≡ 16
sixteen_grades = refl

pub table_as_before : (g : ℕ) → g < 16 → get_or cycle_table g 0 ≡ cycle_time g
table_as_before g l =
    eqb-true (get_or cycle_table g 0) (cycle_time g)
    (all_below_facts 16 (λ n. eqb (get_or cycle_table n 0) (cycle_time n)) refl g l)

-- The sizing rule by the table. Its limits are written out, so that it stays the rule as it was.
abbrev block_by_table : ℕ → ℕ → ℕ
block_by_table R g = (R * get_or cycle_table g 0 + 3) / 4

abbrev number_by_table : ℕ → ℕ → ℕ
number_by_table R g = when (not (all_true (between 1 R 100 ∷ leb g 15 ∷ leb (block_by_table R g) 128 ∷ []))) 11

abbrev sized_by_table : ℕ → ℕ → Option ℕ
sized_by_table R g = choose (eqb (number_by_table R g) 0) (some (block_by_table R g)) none

-- Of every rate and grade, refused ones too, the formula gives the number and the block that the table gave. Past grade
-- 15 the two cycle times differ, and the grade's limit refuses both.
pub number_as_before : (R g : ℕ) → sizing_number R g ≡ number_by_table R g
number_as_before R g =
    by_test (leb g 15) (λ t. rw (table_as_before g (omega (arith, leb-true g 15 t)))) (λ t. rw t)

pub block_as_before : (R g : ℕ) → sized_block R g ≡ sized_by_table R g
block_as_before R g =
    by_test (leb g 15)
    (λ t. rw (table_as_before g (omega (arith, leb-true g 15 t))))
    (λ t. by_test (between 1 R 100) (λ u. rw (u, t)) (λ u. rw u))

-- "3 is judged before 2 .. then the rest by number": slots that have cause for two refusals, and answer the first.
-- 3 and 2: phase 2 with b 2, and no store. 2 and 4: no store, and an unknown queue.
pub first_judged : all_true (
    eqb (refusal paper
    (made (sizes 1 2 1) phase 2 tail [] head [] cells (replicate 2 empty) blocks (0 ∷ [])) [] idle) 3 ∷
    eqb (refusal paper (fresh paper (sizes 1 1 1)) [] (arrival 1 65)) 2 ∷ []) ≡ true
first_judged = refl

pub then_by_number : all_of holds (
    -- 4 and 6: both queues unknown.
    slots paper (fresh paper (sizes 1 1 1)) (both 1 65 1 ⇒ refused 4 ∷ []) ∷
    -- 5 and 6: a full queue, and an unknown one. The stop is the only answer.
    slots paper (made (sizes 1 1 1) phase 0 tail [] head [] cells (empty ∷ []) blocks (1 ∷ []))
    (both 0 65 1 ⇒ refused 6 ∷ []) ∷
    -- 5 and 7, which come together: queue 0 full, queue 1 with nothing to take.
    slots paper (made (sizes 2 1 1) phase 0 tail [] head [] cells (empty ∷ []) blocks (1 ∷ 0 ∷ []))
    (both 0 65 1 ⇒ drops 5 7 taken ∷ []) ∷
    -- 6 and 8: an unknown queue, and an Owed cell that leaves uncovered.
    slots paper (made (sizes 1 2 1) phase 0 tail [] head [] cells (owed 0 ∷ empty ∷ []) blocks (1 ∷ []))
    (request 1 ⇒ refused 6 ∷ []) ∷
    -- 7 and 8: the same cell, and nothing to take in queue 1.
    slots paper (made (sizes 2 2 1) phase 0 tail [] head [] cells (owed 0 ∷ replicate 2 empty) blocks (1 ∷ 0 ∷ []))
    (request 1 ⇒ refused 8 ∷ []) ∷
    -- 8 and 9: the same cell, and a full tail.
    slots paper
    (made (sizes 1 2 3) phase 0 tail (replicate 3 (byte 0 65)) head [] cells (owed 0 ∷ empty ∷ []) blocks (1 ∷ []))
    (arrival 0 66 ⇒ refused 8 ∷ []) ∷
    -- 9 and 10: a full tail, and a head that cannot take the block of queue 0.
    slots paper
    (made (sizes 2 2 3) phase 1 tail (replicate 3 (byte 1 65) ++ byte 0 65 ∷ []) head (replicate 4 (byte 1 65))
    cells (replicate 2 empty ++ owed 0 ∷ []) blocks (1 ∷ 0 ∷ []))
    (arrival 0 66 ⇒ refused 9 ∷ []) ∷ []) ≡ true
then_by_number = refl

-- "10 is judged as step 4 finds the head": the byte that leaves in this slot makes room for the block.
pub ten_as_step_4_finds : all_of holds (
    slots paper (made (sizes 2 2 1) phase 1 tail [] head (replicate 4 (byte 1 65))
    cells (owed 1 ∷ empty ∷ owed 0 ∷ []) blocks (1 ∷ 0 ∷ []))
    (idle ⇒ reads 0 2 delivering byte 1 65 ∷ []) ∷ []) ≡ true
ten_as_step_4_finds = refl
