-- What lists of slots on lent arrays promise, whatever the arrays and the store hold, by the model's own lists.
use Rattle.std.specs.Prelude.{◌≡◌, true, List, ◌++◌, map, ℕ, min, length, take, drop}
use Rattle.model.specs.Sizes.{paper}
use Rattle.model.specs.State.{State, keeps}
use Rattle.model.specs.Slot.{Call}
use Rattle.model.specs.Calls.{idles}
use Rattle.model.specs.Lists.{run, last_state, last_store}
use Rattle.run_words.specs.Words.{call_of}
use Rattle.idle_in_place.specs.declared.Passed.{Passed}
use Rattle.idle_in_place.specs.Says.{StretchPassed}
use Rattle.run_in_place.specs.Says.{word_of}

-- A run takes as many calls as there are places for their answers.
abbrev pub run_length : List ℕ → List ℕ → ℕ
run_length calls answers = min (length calls) (length answers)

abbrev pub calls_run : List ℕ → List ℕ → List Call
calls_run calls answers = map call_of (take (run_length calls answers) calls)

-- The whole list: an answer for each of its slots, refused ones included, what lies behind them as it was; the whole
-- store and the whole state as the list leaves them. What a run leaves of a state that keeps the rules keeps them.
pub record RunCheckedSays (x : State) (calls answers store : List ℕ) (x' : State)
    (answers' store' : List ℕ) : Type 0 where
  pub answers_are : answers'
      ≡ map word_of (run paper x store (calls_run calls answers)) ++ drop (run_length calls answers) answers
  pub store_is : store' ≡ last_store paper x store (calls_run calls answers)
  pub state_is : x' ≡ last_state paper x store (calls_run calls answers)
  pub kept : keeps paper x ≡ true → keeps paper x' ≡ true

-- One stretch of at most n idle slots: what its slots answer, the whole state and the whole store as they leave them.
pub record IdleCheckedSays (x : State) (store : List ℕ) (n : ℕ) (r : Passed) (x' : State)
    (store' : List ℕ) : Type 0 where
  pub stretch : StretchPassed x store n r
  pub state_is : x' ≡ last_state paper x store (idles r.passed)
  pub store_is : store' ≡ last_store paper x store (idles r.passed)
  pub kept : keeps paper x ≡ true → keeps paper x' ≡ true
