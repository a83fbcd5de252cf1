-- A run keeps its promise: where each slot is refused alike, the answers are one word and nothing changes; and a run in
-- place over the calls that have a place for their answer is the model's own list.
use mathlib.Core.Path.{◌≡◌, refl, ap, sym, ◌∙◌, subst}
use mathlib.Core.Bool.{true}
use mathlib.Core.List.{List, [], ◌∷◌, ◌++◌, map}
use Prim.Native.Nat.{ℕ, ◌≤◌}
use native.Mathlib.Nat.{min-le_left, min-le_right}
use native.Mathlib.Omega.{arith}
use lib.ListN.{length, take, drop, replicate, length-map}
use lib.Seq.{length-take-le}
use Rattle.model.specs.Sizes.{paper}
use Rattle.model.specs.State.{State, keeps}
use Rattle.model.specs.Slot.{Call, number_alone, Answer, refuse, slot}
use Rattle.model.specs.Lists.{step_of, run, last_state, last_store}
use Rattle.run_words.specs.Words.{call_of, answer_word}
use Rattle.run_in_place.specs.Says.{word_of, RunInPlaceSays}
use Rattle.slot_checked.specs.Says.{JudgeStateSays}
use Rattle.run_checked.specs.Says.{run_length, calls_run, RunCheckedSays}

-- The word of a refusal.
abbrev pub refusal_word : ℕ → ℕ
refusal_word n = answer_word (number_alone n)

-- A run each of whose slots is refused alike.
pub record RefusedRun (n : ℕ) (x : State) (store : List ℕ) (calls : List Call) : Type 0 where
  pub answers_are : map word_of (run paper x store calls) ≡ replicate (length calls) (refusal_word n)
  pub same-state : last_state paper x store calls ≡ x
  pub same_store : last_store paper x store calls ≡ store

refused-run : (n : ℕ) (x : State) (store : List ℕ) (calls : List Call)
    → ((call : Call) → slot paper x store call ≡ refuse n x store) → RefusedRun n x store calls
refused-run n x store [] f = record { answers_are = refl; same-state = refl; same_store = refl }
refused-run n x store (call ∷ calls) f =
    let r = refused-run n x store calls f in record {
      answers_are = ap
          (λ (a : Answer). word_of (step_of x store call a) ∷ map word_of (run paper a.state a.store calls)) (f call)
          ∙ ap (λ (l : List ℕ). refusal_word n ∷ l) r.answers_are;
      same-state = ap (λ (a : Answer). last_state paper a.state a.store calls) (f call) ∙ r.same-state;
      same_store = ap (λ (a : Answer). last_store paper a.state a.store calls) (f call) ∙ r.same_store;
    }

-- The calls that are run: as many as a run takes, each with a place for its answer.
pub part_long : (calls answers : List ℕ) (n : ℕ) → n ≡ run_length calls answers → length (take n calls) ≡ n
part_long calls answers n e =
    length-take-le n calls (omega (arith, e, min-le_left (length calls) (length answers)))

pub part_fits : (calls answers : List ℕ) (n : ℕ) → n ≡ run_length calls answers → length (take n calls) ≤ length answers
part_fits calls answers n e =
    omega (arith, e, part_long calls answers n e, min-le_right (length calls) (length answers))

calls_long : (calls answers : List ℕ) → length (calls_run calls answers) ≡ run_length calls answers
calls_long calls answers =
    length-map (take (run_length calls answers) calls) call_of
    ∙ part_long calls answers (run_length calls answers) refl

module _ (x : State) (calls answers store : List ℕ) {count : ℕ} (counted : count ≡ run_length calls answers) where
  -- A run that answers 3 or 2 throughout.
  pub ran_refused : {n word : ℕ} {answers' : List ℕ} → JudgeStateSays x (length store) n → (n ≡ 0 → ⊥)
      → word ≡ refusal_word n → answers' ≡ replicate count word ++ drop count answers
      → RunCheckedSays x calls answers store x answers' store
  ran_refused {n} {word} says f ew ea = record {
    answers_are = ea
        ∙ ap (λ (k : ℕ). replicate k word ++ drop k answers) counted
        ∙ ap (λ (w : ℕ). replicate (run_length calls answers) w ++ drop (run_length calls answers) answers) ew
        ∙ ap (λ (k : ℕ). replicate k (refusal_word n) ++ drop (run_length calls answers) answers)
        (sym (calls_long calls answers))
        ∙ ap (λ (l : List ℕ). l ++ drop (run_length calls answers) answers) (sym r.answers_are);
    store_is = sym r.same_store;
    state_is = sym r.same-state;
    kept = λ e. e;
  }
    where
      r : RefusedRun n x store (calls_run calls answers)
      r = refused-run n x store (calls_run calls answers) (λ call. says.refused f store call refl)

  -- A run in place.
  pub ran_in_place : {x' : State} {answers' store' : List ℕ}
      → RunInPlaceSays x store (map call_of (take count calls)) answers answers' x' store' → keeps paper x' ≡ true
      → RunCheckedSays x calls answers store x' answers' store'
  ran_in_place {x'} {answers'} {store'} v kept = record {
    answers_are = w.answers_are
        ∙ ap (λ (k : ℕ). map word_of (run paper x store (calls_run calls answers)) ++ drop k answers)
        (calls_long calls answers);
    store_is = w.store_is;
    state_is = w.state_is;
    kept = λ e. kept;
  }
    where
      w : RunInPlaceSays x store (calls_run calls answers) answers answers' x' store'
      w = subst (λ (k : ℕ). RunInPlaceSays x store (map call_of (take k calls)) answers answers' x' store') counted v
