-- A run from a fresh state: the list of demand 3, an answer for each of its slots, its store and its high marks; or
-- 1, and all as it was.
use Rattle.std.specs.Prelude.{◌≡◌, true, false, List, ◌++◌, map, ℕ, drop}
use Rattle.model.specs.Sizes.{sizes, paper_limits, accepts, paper}
use Rattle.model.specs.State.{fresh}
use Rattle.model.specs.Lists.{list_of, last_state, last_store}
use Rattle.run_in_place.specs.Says.{word_of}
use Rattle.run_checked.specs.Says.{run_length, calls_run}
use Rattle.by_value.specs.declared.Driven.{Driven}

-- An answer has this number and these high marks.
pub record DrivenIs (number tail_mark head_mark : ℕ) (r : Driven) : Type 0 where
  pub number_is : r.number ≡ number
  pub tail_mark_is : r.tail_mark ≡ tail_mark
  pub head_mark_is : r.head_mark ≡ head_mark

pub record DroveSays (q b k : ℕ) (calls answers answers' store store' : List ℕ) (r : Driven) : Type 0 where
  pub refused : accepts paper_limits (sizes q b k) ≡ false
      → DrivenIs 1 0 0 r × (answers' ≡ answers) × (store' ≡ store)
  pub ran : accepts paper_limits (sizes q b k) ≡ true
      → DrivenIs 0 (last_state paper (fresh paper (sizes q b k)) store (calls_run calls answers)).tail_mark
      (last_state paper (fresh paper (sizes q b k)) store (calls_run calls answers)).head_mark r
      × (answers'
      ≡ map word_of (list_of paper (sizes q b k) store (calls_run calls answers)) ++ drop (run_length calls answers)
      answers)
      × (store' ≡ last_store paper (fresh paper (sizes q b k)) store (calls_run calls answers))
