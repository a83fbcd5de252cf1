-- Idle slots, which have no arrival and no request. A quiet one delivers nothing and moves no block: its cells shift
-- by one, its phase turns, and all else stays. So many quiet slots are one shift and one turn, whatever their number.
use Rattle.std.specs.Prelude.{◌≡◌, Bool, true, false, List, [], ◌∷◌, ◌++◌, ℕ, zero, suc, ◌+◌, ◌-◌, ◌%◌, ◌≤◌, ◌<◌, min, eqb, length, drop, replicate, get_or}
use Rattle.std.proofs.Math.Option.{Option, some, none}
use Rattle.model.specs.Basics.{choose}
use Rattle.model.specs.Sizes.{Sizes, Design, lookahead}
use Rattle.model.specs.State.{Cell, empty, held, owed, State, with_phase, with_cells, tail_bytes, head_bytes}
use Rattle.model.specs.Slot.{fullest, refill_queue, refusal, number_alone, Answer, slot}
use Rattle.model.specs.Calls.{idle, idles}
use Rattle.model.specs.Lists.{Step, last_state, last_store}

-- The state after m slots that only turn the phase.
abbrev pub turned : ℕ → State → State
turned m x = with_phase ((x.phase + m) % x.sizes.b) x

-- The state after m quiet slots, m being at most the number of cells: m cells have left, and as many empty ones have
-- come.
abbrev pub quietly : ℕ → State → State
quietly m x = with_cells (drop m x.cells ++ replicate m empty) (turned m x)

-- A move would find nothing: no queue has a block of tail bytes, and the head bytes cover every Owed cell.
pub record NothingToMove (x : State) : Type 0 where
  pub none_to_write : fullest x.sizes.b (tail_bytes x) x.sizes.Q ≡ none
  pub none_to_read : refill_queue (head_bytes x) x.cells ≡ none

-- The next m slots are quiet if they are idle. `within` and `empties`: m cells are there, and they are empty. `still`:
-- no block moves, since the m slots end before the phase b - 1 has passed or since a move would find nothing.
pub record Quiet (m : ℕ) (x : State) : Type 0 where
  pub within : m ≤ length x.cells
  pub empties : (i : ℕ) → i < m → get_or x.cells i empty ≡ empty
  pub still : x.sizes.b ≤ x.phase + m → NothingToMove x

-- Every idle slot from here on is quiet: all cells are empty, and no queue has a block of tail bytes.
pub record AllQuiet (x : State) : Type 0 where
  pub all_empty : (i : ℕ) → i < length x.cells → get_or x.cells i empty ≡ empty
  pub none_to_write : fullest x.sizes.b (tail_bytes x) x.sizes.Q ≡ none

-- A slot of a list that was accepted, dropped nothing, delivered nothing and moved nothing.
abbrev pub QuietStep : Step → Type 0
QuietStep step = step.reply ≡ number_alone 0

-- How many cells are empty before the first that is not.
abbrev pub leading_empties : List Cell → ℕ
leading_empties [] = 0
leading_empties (empty ∷ cells) = suc (leading_empties cells)
leading_empties (held q v ∷ cells) = 0
leading_empties (owed q ∷ cells) = 0

-- Whether a move would find something: a queue to write or a queue to read, by the sizes, each queue's tail bytes and
-- head bytes, and the cells.
abbrev pub some_queue : Option ℕ → Bool
some_queue none = false
some_queue (some q) = true

abbrev pub move_due : Sizes → (ℕ → ℕ) → (ℕ → ℕ) → List Cell → Bool
move_due s tails heads cells =
    choose (some_queue (fullest s.b tails s.Q)) true (some_queue (refill_queue heads cells))

-- Of n idle slots, how many first ones are surely quiet: `empties` cells lead, and `due` says whether a move may find
-- something. Where it may, those that end before the next phase b - 1 has passed. No more than lead, unless all cells
-- are empty. (Where a move is due, b - 1 is less than the number of cells.)
abbrev pub quiet_of : Sizes → ℕ → ℕ → Bool → ℕ → ℕ
quiet_of s phase empties true n = min n (min empties (s.b - 1 - phase))
quiet_of s phase empties false n = choose (eqb empties (lookahead s)) n (min n empties)

-- The same by the state's own sizes, phase, cells and counts; none, where the first of the slots is refused. (With 3 or
-- 2, that is: where 8 or 10 would come, none is counted anyhow.)
abbrev pub quiet_first : Design → State → List ℕ → ℕ → ℕ
quiet_first design x store n =
    choose (eqb (refusal design x store idle) 0)
    (quiet_of x.sizes x.phase (leading_empties x.cells)
    (move_due x.sizes (tail_bytes x) (head_bytes x) x.cells) n)
    0

-- How many slots a stretch of at most n idle slots has: the quiet ones at its start, and one more if n is not used up.
-- That one may deliver, move a block or be refused.
abbrev pub stretch_length : Design → State → List ℕ → ℕ → ℕ
stretch_length design x store n = min n (quiet_first design x store n + 1)

-- What the last of n idle slots answers. No slot at all answers 0 and nothing else, and leaves all as it was.
abbrev pub last_answer : Design → State → List ℕ → ℕ → Answer
last_answer design x store zero = record { reply = number_alone 0; state = x; store = store }
last_answer design x store (suc n) =
    slot design (last_state design x store (idles n)) (last_store design x store (idles n)) idle
