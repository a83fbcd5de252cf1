-- The worked cases of the requests of document 02, as a second table beside C1 to C12: rows of the same kinds, under
-- the request and the sentence that they render.
use Rattle.std.specs.Prelude.{List, [], ◌∷◌, replicate}
use Rattle.std.proofs.Math.Option.{some, none}
use Rattle.model.specs.Sizes.{sizes, paper}
use Rattle.model.specs.State.{byte, empty, held, owed, State, fresh, with_tail_mark, with_head_mark}
use Rattle.model.specs.State.{with_last_asked}
use Rattle.model.specs.Calls.{arrival, request, both, idle}
use Rattle.model.specs.Examples.{◌⇒◌, arbiter◌then◌asks◌last◌, taken, writes, reads, taken_held, drops}
use Rattle.model.specs.Examples.{refused, misses, ◌delivering◌, ◌fills◌and◌marks◌and◌, Example, block_is, no_block}
use Rattle.model.specs.Examples.{slots, chooses, made◌phase◌tail◌head◌cells◌blocks◌}

-- Q 1, b 2, K 2: one tail byte, and so a tail mark of 1.
abbrev one_tail_byte : State
one_tail_byte =
    made (sizes 1 2 2) phase 0 tail (byte 0 65 ∷ []) head [] cells (replicate 2 empty) blocks (0 ∷ [])

-- Q 2, b 2, in the phase of the moves: three head bytes of queue 0, and so a head mark of 3. The oldest cell takes
-- one of them, and the next cell waits for the block of queue 1.
abbrev read_due : State
read_due =
    made (sizes 2 2 1) phase 1 tail [] head (replicate 3 (byte 0 65)) cells (owed 0 ∷ owed 1 ∷ empty ∷ [])
    blocks (0 ∷ 1 ∷ [])

-- Q 2, b 2, K 1: both queues are full, and so is the tail.
abbrev tail_of_full_queues : State
tail_of_full_queues =
    made (sizes 2 2 1) phase 0 tail (byte 0 65 ∷ byte 1 66 ∷ byte 0 67 ∷ byte 1 68 ∷ []) head []
    cells (replicate 3 empty) blocks (0 ∷ 0 ∷ [])

-- Q 3, b 2, K 1: a tail byte of each queue.
abbrev one_byte_each : State
one_byte_each =
    made (sizes 3 2 1) phase 0 tail (byte 0 65 ∷ byte 1 66 ∷ byte 2 67 ∷ []) head [] cells (replicate 4 empty)
    blocks (0 ∷ 0 ∷ 0 ∷ [])

-- Q 2, b 2, K 1, in the phase of the moves: queue 0 is full with its block, the head has one byte of it more, and all
-- of them are owed, so that a cell leaves with its byte and the next waits for the block.
abbrev all_owed : State
all_owed =
    made (sizes 2 2 1) phase 1 tail [] head (byte 0 65 ∷ []) cells (replicate 3 (owed 0)) blocks (1 ∷ 0 ∷ [])

abbrev pub request_examples : List Example
request_examples =
    -- 2.1, "where the arrival's queue is full, the request is for that queue, the request would be Held, and the tail
    -- already has a byte of it, take the request before the arrival": 65 goes with its cell, 66 and 67 to slow store.
    slots paper (fresh paper (sizes 1 2 1))
    (idle ⇒ taken ∷ arrival 0 65 ⇒ taken ∷ arrival 0 66 ⇒ taken ∷ both 0 67 0 ⇒ writes 0 ∷
    idle ⇒ taken ∷ idle ⇒ taken delivering byte 0 65 ∷ idle ⇒ taken ∷ idle ⇒ taken ∷ []) ∷
    -- Where it would be Owed, 5 comes as before: the block is in store. By request 2.5 the request goes on.
    slots paper (fresh paper (sizes 1 2 1))
    (arrival 0 65 ⇒ taken ∷ arrival 0 66 ⇒ writes 0 ∷ both 0 67 0 ⇒ drops 5 0 taken ∷
    idle ⇒ reads 0 1 ∷ idle ⇒ taken delivering byte 0 65 ∷ idle ⇒ taken ∷ []) ∷
    -- Where another queue is asked, too.
    slots paper tail_of_full_queues
    (both 0 69 1 ⇒ drops 5 0 (taken_held 1 66) fills 3 and 0 marks 4 and 0 ∷ []) ∷
    -- "9 looks at the tail after the request": a full tail takes the byte, here and where the queue is then written.
    slots paper tail_of_full_queues
    (both 1 69 1 ⇒ taken_held 1 66 fills 4 and 0 marks 4 and 0 ∷ []) ∷
    slots paper (made (sizes 1 1 1) phase 0 tail (byte 0 65 ∷ []) head [] cells (empty ∷ []) blocks (0 ∷ []))
    (both 0 66 0 ⇒ writes 0 fills 0 and 0 marks 1 and 0 ∷ idle ⇒ taken delivering byte 0 65 ∷ []) ∷
    -- "Such a slot is accepted if nothing else refuses it": 8 does.
    slots paper (made (sizes 1 2 2) phase 0 tail (byte 0 65 ∷ byte 0 66 ∷ []) head [] cells (replicate 2 (owed 0))
    blocks (1 ∷ []))
    (both 0 67 0 ⇒ misses 0 ∷ []) ∷
    -- The tail "is looked at just after the arrival joins it, which in a slot of 2.1 is after the request" (2.8): its
    -- mark is 2 and never 3.
    slots paper (made (sizes 1 2 1) phase 0 tail (byte 0 65 ∷ byte 0 66 ∷ []) head [] cells (replicate 2 empty)
    blocks (0 ∷ []))
    (both 0 67 0 ⇒ taken_held 0 65 fills 2 and 0 marks 2 and 0 ∷ []) ∷
    -- 2.2, "the last one asked joins the state (below Q, fresh Q - 1)"; "if none has, the slot has no request".
    slots paper (fresh paper (sizes 3 2 1))
    ((arbiter none then taken asks none last 2) ∷ []) ∷
    slots paper (with_last_asked 2 (fresh paper (sizes 2 2 1)))
    (idle ⇒ refused 3 ∷ (arbiter none then refused 3 asks none last 2) ∷ []) ∷
    -- "After the arrival of the slot, it asks for the next queue, counting up from the last one asked and wrapping,
    -- that has an unrequested byte": the byte that arrives is one, and so is a byte in slow store.
    slots paper (fresh paper (sizes 3 2 1))
    ((arbiter some (byte 1 65) then taken_held 1 65 asks some 1 last 1) ∷
    (arbiter none then taken asks none last 1) ∷
    (arbiter some (byte 0 66) then taken_held 0 66 asks some 0 last 0) ∷ []) ∷
    slots paper (made (sizes 3 2 1) phase 0 tail [] head [] cells (replicate 4 empty) blocks (0 ∷ 1 ∷ 0 ∷ []))
    ((arbiter none then taken asks some 1 last 1) ∷
    (arbiter none then reads 1 3 asks some 1 last 1) ∷
    (arbiter none then taken asks none last 1) ∷ []) ∷
    -- Queue 0 was the last one asked: it waits for Q - 1 further slots, and its byte leaves Q - 1 + L slots later.
    slots paper (with_last_asked 0 one_byte_each)
    ((arbiter none then taken_held 1 66 asks some 1 last 1) ∷
    (arbiter none then taken_held 2 67 asks some 2 last 2) ∷
    (arbiter none then taken_held 0 65 asks some 0 last 0) ∷
    (arbiter none then taken asks none last 0) ∷
    (arbiter none then taken delivering byte 1 66 asks none last 0) ∷
    (arbiter none then taken delivering byte 2 67 asks none last 0) ∷
    (arbiter none then taken delivering byte 0 65 asks none last 0) ∷ []) ∷
    -- "A refused slot or a caller's own request leaves it unchanged": 4 comes, whatever would be chosen.
    slots paper (with_last_asked 0 one_byte_each)
    ((arbiter some (byte 3 68) then refused 4 asks none last 0) ∷
    request 2 ⇒ taken_held 2 67 ∷
    (arbiter none then taken_held 1 66 asks some 1 last 1) ∷ []) ∷
    -- "An arrival to a full queue does not count in the choice": all bytes of the queue are owed, and 5 comes, also
    -- where another queue is asked. A full queue is asked for its older bytes; the slot is then one of 2.1.
    slots paper all_owed
    ((arbiter some (byte 0 67) then drops 5 0 (reads 0 1) delivering byte 0 65 asks none last 1) ∷ []) ∷
    chooses all_owed (some (byte 0 67)) none ∷
    slots paper one_byte_each
    ((arbiter some (byte 0 68) then taken_held 0 65 asks some 0 last 0) ∷
    (arbiter some (byte 0 69) then writes 0 asks some 1 last 1) ∷
    (arbiter some (byte 0 70) then drops 5 0 (taken_held 2 67) asks some 2 last 2) ∷ []) ∷
    slots paper (made (sizes 1 2 1) phase 0 tail (byte 0 65 ∷ byte 0 66 ∷ []) head [] cells (replicate 2 empty)
    blocks (0 ∷ []))
    ((arbiter some (byte 0 67) then taken_held 0 65 asks some 0 last 0) ∷ []) ∷
    -- 2.4, "work the cycle time out as 5 × (g + 1)". At 4 Gb/s a block has as many bytes as a cycle has ns, so a caller
    -- sees document 01's sixteen, "5 ns to 80 ns in steps of 5, grade 0 first"; there is no grade 16.
    block_is 4 0 5 ∷
    block_is 4 1 10 ∷
    block_is 4 2 15 ∷
    block_is 4 3 20 ∷
    block_is 4 4 25 ∷
    block_is 4 5 30 ∷
    block_is 4 6 35 ∷
    block_is 4 7 40 ∷
    block_is 4 8 45 ∷
    block_is 4 9 50 ∷
    block_is 4 10 55 ∷
    block_is 4 11 60 ∷
    block_is 4 12 65 ∷
    block_is 4 13 70 ∷
    block_is 4 14 75 ∷
    block_is 4 15 80 ∷
    no_block 4 16 11 ∷
    -- 2.5, "5 and 7 refuse their half of the slot only. The slot runs without that half, and each half has its own
    -- answer": 5 alone, with a delivery and a read in the same slot; 7 alone, with an arrival that is taken.
    slots paper all_owed
    (arrival 0 67 ⇒ drops 5 0 (reads 0 1) delivering byte 0 65 fills 0 and 2 marks 0 and 2 ∷ []) ∷
    slots paper (fresh paper (sizes 2 2 1))
    (both 0 65 1 ⇒ drops 0 7 taken fills 1 and 0 marks 1 and 0 ∷ []) ∷
    -- "So both numbers may come together. A dropped half is absent for every later test, so 7 is judged without a
    -- dropped arrival": the queue is full, all its bytes are owed, and the arriving byte is none to take.
    slots paper all_owed
    (both 0 67 0 ⇒ drops 5 7 (reads 0 1) delivering byte 0 65 ∷ []) ∷
    -- 9 is not judged once the arrival is dropped: queue 0 is full, and so is the tail. With room in the queue 9 comes.
    slots paper tail_of_full_queues
    (arrival 0 69 ⇒ drops 5 0 taken fills 4 and 0 marks 4 and 0 ∷ []) ∷
    slots paper (made (sizes 2 2 2) phase 0 tail (byte 0 65 ∷ byte 1 66 ∷ byte 0 67 ∷ byte 1 68 ∷ []) head []
    cells (replicate 3 empty) blocks (0 ∷ 0 ∷ []))
    (arrival 0 69 ⇒ refused 9 ∷ []) ∷
    -- "Every other refusal still stops the slot and is then its only answer": 4 and 6 look at the call as it came, so
    -- that a 5 hides behind a 6; and behind an 8 and a 10 both hide.
    slots paper (made (sizes 1 1 1) phase 0 tail [] head [] cells (empty ∷ []) blocks (1 ∷ []))
    (both 1 65 1 ⇒ refused 4 ∷ both 0 65 1 ⇒ refused 6 ∷ []) ∷
    slots paper (made (sizes 2 2 1) phase 0 tail [] head [] cells (owed 0 ∷ replicate 2 empty) blocks (1 ∷ 0 ∷ []))
    (both 0 65 1 ⇒ misses 0 ∷ []) ∷
    slots paper (made (sizes 2 2 1) phase 1 tail [] head (replicate 4 (byte 1 65)) cells (empty ∷ empty ∷ owed 0 ∷ [])
    blocks (1 ∷ 0 ∷ []))
    (both 0 65 1 ⇒ refused 10 ∷ []) ∷
    -- A request that is dropped leaves an empty cell, so that nothing is read for it; one that was taken is read for in
    -- a slot of which both halves drop.
    slots paper (made (sizes 2 2 1) phase 1 tail [] head [] cells (replicate 3 empty) blocks (1 ∷ 0 ∷ []))
    (both 0 67 1 ⇒ drops 5 7 taken ∷ request 0 ⇒ taken ∷ both 0 67 1 ⇒ drops 5 7 (reads 0 2) ∷ []) ∷
    -- 2.6, "in how many slots the uncovered cell leaves, counted after the slot's own delivery, so 1 to L": the listing
    -- of document 01, whose read is for the slot's own request, and so for a cell that leaves L slots later.
    slots paper (fresh paper (sizes 1 2 2))
    (both 0 65 0 ⇒ taken_held 0 65 ∷ arrival 0 66 ⇒ taken ∷ request 0 ⇒ taken_held 0 66 delivering byte 0 65 ∷
    request 0 ⇒ drops 0 7 taken ∷ arrival 0 67 ⇒ taken delivering byte 0 66 ∷ arrival 0 68 ⇒ writes 0 ∷
    idle ⇒ taken ∷ request 0 ⇒ reads 0 2 ∷ idle ⇒ taken ∷ idle ⇒ taken delivering byte 0 67 ∷ []) ∷
    -- Q 2, b 3, so that L is 5, a block of each queue stored: the first cell that lacks its byte leaves in 4 slots, and
    -- the next one, when it is read for, in 2.
    slots paper (made (sizes 2 3 1) phase 1 tail [] head [] cells (replicate 5 empty) blocks (1 ∷ 1 ∷ []))
    (request 1 ⇒ taken ∷ request 0 ⇒ reads 1 4 ∷ idle ⇒ taken ∷ idle ⇒ taken ∷ idle ⇒ reads 0 2 ∷
    idle ⇒ taken delivering byte 1 0 ∷ idle ⇒ taken delivering byte 0 0 ∷ []) ∷
    -- A cell that its head byte covers is passed: the read is for the second of queue 0, which leaves two slots after it
    -- and so in 3.
    slots paper (made (sizes 2 2 1) phase 1 tail [] head (byte 0 65 ∷ []) cells (held 1 66 ∷ owed 0 ∷ empty ∷ [])
    blocks (1 ∷ 0 ∷ []))
    (request 0 ⇒ reads 0 3 delivering byte 1 66 ∷ idle ⇒ taken delivering byte 0 65 ∷ idle ⇒ taken ∷
    idle ⇒ taken delivering byte 0 0 ∷ []) ∷
    -- With b 1 it is always 1: L is.
    slots paper (fresh paper (sizes 3 1 1))
    (arrival 2 65 ⇒ writes 2 ∷ request 2 ⇒ reads 2 1 ∷ idle ⇒ taken delivering byte 2 65 ∷ []) ∷
    -- "And 0 where nothing is read": before the phase of the moves, and in a refused slot; and where each cell is
    -- covered.
    slots paper (made (sizes 1 2 1) phase 0 tail [] head [] cells (empty ∷ owed 0 ∷ []) blocks (1 ∷ []))
    (idle ⇒ taken ∷ idle ⇒ misses 0 ∷ []) ∷
    slots paper (made (sizes 1 2 1) phase 1 tail [] head (byte 0 65 ∷ []) cells (empty ∷ owed 0 ∷ []) blocks (0 ∷ []))
    (idle ⇒ taken ∷ []) ∷
    -- 2.8, "the tail is looked at just after the arrival joins it": before the request takes the byte, and before it is
    -- written with its block. What was reached stays.
    slots paper (fresh paper (sizes 1 2 2))
    (both 0 65 0 ⇒ taken_held 0 65 fills 0 and 0 marks 1 and 0 ∷ []) ∷
    slots paper (fresh paper (sizes 1 2 2))
    (arrival 0 65 ⇒ taken fills 1 and 0 marks 1 and 0 ∷
    arrival 0 66 ⇒ writes 0 fills 0 and 0 marks 2 and 0 ∷
    arrival 0 67 ⇒ taken fills 1 and 0 marks 2 and 0 ∷ []) ∷
    -- "The head is looked at just after the read": the fills are 3, 2 and 4, and never 5.
    slots paper read_due
    (idle ⇒ reads 1 1 delivering byte 0 65 fills 0 and 4 marks 0 and 4 ∷ []) ∷
    -- "On a handed-in state the mark is the greater of the old one and the new fill."
    slots paper one_tail_byte
    (arrival 0 66 ⇒ taken fills 2 and 0 marks 2 and 0 ∷ []) ∷
    slots paper (with_tail_mark 3 one_tail_byte)
    (arrival 0 66 ⇒ taken fills 2 and 0 marks 3 and 0 ∷ []) ∷
    slots paper (with_head_mark 5 read_due)
    (idle ⇒ reads 1 1 delivering byte 0 65 fills 0 and 4 marks 0 and 5 ∷ []) ∷
    -- No arrival and no read change nothing, and neither does a refused slot.
    slots paper (with_tail_mark 2 (with_head_mark 3 one_tail_byte))
    (idle ⇒ taken fills 1 and 0 marks 2 and 3 ∷
    arrival 1 66 ⇒ refused 4 fills 1 and 0 marks 2 and 3 ∷ []) ∷ []
