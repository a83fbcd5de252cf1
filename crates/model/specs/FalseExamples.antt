-- Rows that do not hold. Each says one thing otherwise than the slot or the size that it names, so that `holds` and its
-- tests must look at all that a row of the table of examples says.
use Rattle.std.specs.Prelude.{List, [], ◌∷◌, replicate}
use Rattle.std.proofs.Math.Option.{some, none}
use Rattle.model.specs.Sizes.{sizes, paper}
use Rattle.model.specs.State.{byte, empty, owed, State, fresh}
use Rattle.model.specs.Calls.{arrival, request, both, idle}
use Rattle.model.specs.Examples.{Expected, ◌⇒◌, arbiter◌then◌asks◌last◌, taken, writes, reads, taken_held, refused}
use Rattle.model.specs.Examples.{drops, misses, ◌delivering◌}
use Rattle.model.specs.Examples.{Example, sizes_taken, sizes_refused, sizes_are, block_is, no_block, slots, chooses}
use Rattle.model.specs.Examples.{◌fills◌and◌marks◌and◌, made◌phase◌tail◌head◌cells◌blocks◌}

-- Slots from a fresh state with b 1, so that L is 1 and each slot may move, and with b 2.
abbrev with_b1 : List Expected → Example
with_b1 expected = slots paper (fresh paper (sizes 1 1 1)) expected

abbrev with_b2 : List Expected → Example
with_b2 expected = slots paper (fresh paper (sizes 1 2 1)) expected

-- A block of queue 0 in the store, the head empty, and an Owed cell about to leave.
abbrev uncovered : State
uncovered = made (sizes 2 2 1) phase 0 tail [] head [] cells (owed 0 ∷ replicate 2 empty) blocks (1 ∷ 0 ∷ [])

abbrev pub false_examples : List Example
false_examples =
    -- Another L; sizes that are refused; sizes that are taken; another number.
    sizes_taken 63 33 1 2_016 ∷
    sizes_taken 64 33 1 2_049 ∷
    sizes_refused 63 33 1 1 ∷
    sizes_refused 64 33 1 2 ∷
    -- Another L, another tail, another head.
    sizes_are 4 3 8 11 17 ∷
    sizes_are 4 3 9 10 17 ∷
    sizes_are 4 3 9 11 16 ∷
    -- Another block; one over 128; one of grade 16; another number; a block where none is said to be.
    block_is 10 9 124 ∷
    block_is 52 1 130 ∷
    block_is 4 16 85 ∷
    no_block 52 1 12 ∷
    no_block 51 1 0 ∷
    -- A stop for taken, taken for a stop, another number, a half's number that is not named.
    with_b2 (arrival 0 65 ⇒ refused 4 ∷ []) ∷
    with_b2 (arrival 1 65 ⇒ taken ∷ []) ∷
    with_b2 (arrival 1 65 ⇒ refused 6 ∷ []) ∷
    with_b2 (request 1 ⇒ refused 4 ∷ []) ∷
    with_b2 (request 0 ⇒ taken ∷ []) ∷
    -- A stop for a dropped half, a dropped half for a stop; another half's number, one that is not named, one that was
    -- not.
    with_b2 (request 0 ⇒ refused 7 ∷ []) ∷
    with_b2 (arrival 1 65 ⇒ drops 5 0 taken ∷ []) ∷
    with_b2 (request 0 ⇒ drops 7 0 taken ∷ []) ∷
    with_b2 (request 0 ⇒ drops 0 5 taken ∷ []) ∷
    with_b2 (request 0 ⇒ drops 5 7 taken ∷ []) ∷
    with_b2 (arrival 0 65 ⇒ drops 5 0 taken ∷ []) ∷
    with_b2 (arrival 0 65 ⇒ drops 0 7 taken ∷ []) ∷
    -- A write that is not named, one of another queue, one that was not. The first is also in the second slot, which
    -- gets the state that the first one left.
    with_b2 (arrival 0 65 ⇒ taken ∷ arrival 0 66 ⇒ taken ∷ []) ∷
    with_b2 (arrival 0 65 ⇒ taken ∷ arrival 0 66 ⇒ writes 1 ∷ []) ∷
    with_b2 (arrival 0 65 ⇒ writes 0 ∷ []) ∷
    -- The same of a read.
    with_b1 (arrival 0 65 ⇒ writes 0 ∷ request 0 ⇒ taken ∷ []) ∷
    with_b1 (arrival 0 65 ⇒ writes 0 ∷ request 0 ⇒ reads 1 1 ∷ []) ∷
    with_b2 (arrival 0 65 ⇒ reads 0 0 ∷ []) ∷
    -- Another number of slots left at a read.
    with_b1 (arrival 0 65 ⇒ writes 0 ∷ request 0 ⇒ reads 0 0 ∷ []) ∷
    with_b1 (arrival 0 65 ⇒ writes 0 ∷ request 0 ⇒ reads 0 2 ∷ []) ∷
    -- The same of a delivery, of which the queue and the value may be another.
    with_b1 (both 0 65 0 ⇒ taken ∷ idle ⇒ taken ∷ []) ∷
    with_b1 (both 0 65 0 ⇒ taken ∷ idle ⇒ taken delivering byte 1 65 ∷ []) ∷
    with_b1 (both 0 65 0 ⇒ taken ∷ idle ⇒ taken delivering byte 0 66 ∷ []) ∷
    with_b1 (both 0 65 0 ⇒ taken delivering byte 0 65 ∷ []) ∷
    -- A refused slot that delivers; one that writes and one that reads have no row.
    with_b1 (both 0 65 0 ⇒ taken ∷ arrival 1 65 ⇒ refused 4 delivering byte 0 65 ∷ []) ∷
    -- Held of another queue, with another value; the youngest cell Owed, or empty.
    with_b1 (both 0 65 0 ⇒ taken_held 1 65 ∷ []) ∷
    with_b1 (both 0 65 0 ⇒ taken_held 0 66 ∷ []) ∷
    with_b2 (arrival 0 65 ⇒ taken ∷ arrival 0 66 ⇒ writes 0 ∷ request 0 ⇒ taken_held 0 65 ∷ []) ∷
    with_b2 (arrival 0 65 ⇒ taken_held 0 65 ∷ []) ∷
    -- A miss of another queue, and one that is none.
    slots paper uncovered (idle ⇒ misses 1 ∷ []) ∷
    with_b2 (idle ⇒ misses 0 ∷ []) ∷
    -- Another outcome; another fill of the tail, of the head; another mark of the tail, of the head.
    with_b2 (arrival 0 65 ⇒ refused 4 fills 1 and 0 marks 1 and 0 ∷ []) ∷
    with_b2 (arrival 0 65 ⇒ taken fills 0 and 0 marks 1 and 0 ∷ []) ∷
    with_b2 (arrival 0 65 ⇒ taken fills 1 and 1 marks 1 and 0 ∷ []) ∷
    with_b2 (arrival 0 65 ⇒ taken fills 1 and 0 marks 2 and 0 ∷ []) ∷
    with_b2 (arrival 0 65 ⇒ taken fills 1 and 0 marks 1 and 1 ∷ []) ∷
    -- Of the arbiter's slots: another outcome, another queue asked, none asked, another last one; and the slot after
    -- one gets the state that it left.
    slots paper (fresh paper (sizes 2 2 1)) ((arbiter some (byte 1 65) then taken_held 1 66 asks some 1 last 1) ∷ []) ∷
    slots paper (fresh paper (sizes 2 2 1)) ((arbiter some (byte 1 65) then taken_held 1 65 asks some 0 last 1) ∷ []) ∷
    slots paper (fresh paper (sizes 2 2 1)) ((arbiter some (byte 1 65) then taken_held 1 65 asks none last 1) ∷ []) ∷
    slots paper (fresh paper (sizes 2 2 1)) ((arbiter some (byte 0 65) then taken_held 0 65 asks some 0 last 1) ∷ []) ∷
    slots paper (fresh paper (sizes 2 2 1))
    ((arbiter some (byte 0 65) then taken_held 0 65 asks some 0 last 0) ∷
    (arbiter none then taken asks none last 1) ∷ []) ∷
    -- A choice that is none, and one of another queue.
    chooses (fresh paper (sizes 2 2 1)) none (some 0) ∷
    chooses (fresh paper (sizes 2 2 1)) (some (byte 1 65)) none ∷
    chooses (fresh paper (sizes 2 2 1)) (some (byte 1 65)) (some 0) ∷ []
