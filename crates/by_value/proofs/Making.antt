-- A list of slots from a made state is the list of demand 3, and leaves the marks that it leaves.
use mathlib.Core.Path.{◌≡◌, ap, sym, ◌∙◌}
use mathlib.Core.Bool.{true}
use mathlib.Core.List.{List, ◌++◌, map}
use Prim.Native.Nat.{ℕ, ◌<◌}
use native.Mathlib.Omega.{arith}
use lib.ListN.{take, drop}
use Rattle.std.specs.Prelude.{Ok}
use Rattle.std.proofs.lemmas.List.{take-map}
use Rattle.model.specs.Sizes.{sizes, paper_limits, accepts, paper}
use Rattle.model.specs.State.{State, fresh}
use Rattle.model.specs.Slot.{Call, Answer}
use Rattle.model.specs.Lists.{run, last_state, last_store}
use Rattle.model.proofs.basics.Tests.{true_not_false}
use Rattle.model.proofs.one_slot.Rules.{made_accepted}
use Rattle.layout.specs.Calls.{reply_in}
use Rattle.run_words.specs.Words.{answer_slots, call_of}
use Rattle.run_words.proofs.SlotsLeft.{slots_left_fit}
use Rattle.run_in_place.specs.Says.{word_of}
use Rattle.run_in_place.proofs.Turns.{RunTo}
use Rattle.run_checked.specs.Says.{run_length, calls_run}
use Rattle.buffer.specs.declared.State as code
use Rattle.buffer.specs.declared.Slotted.{Slotted}
use Rattle.buffer.specs.Says.{state_of, MakeSays, SlotSays}
use Rattle.by_value.specs.Says.{DrivenIs, DroveSays}
use Rattle.by_value.specs.declared.Driven.{Driven}

-- What a slot by value tells fits a word.
pub word_fits : {s : code.State} {store : List ℕ} {call : Call} {r : Slotted} {store' : List ℕ}
    → SlotSays s store call r store' → (reply_in r.reply).slots_left < answer_slots
word_fits {s} {store} {call} says =
    omega (arith, ap (λ (a : Answer). a.reply.slots_left) says.promised, slots_left_fit (state_of s) store call)

pub drove : {q b k : ℕ} {calls answers answers' store store' : List ℕ} {first : code.State} {x : State} {r : Driven}
    {n : ℕ} → MakeSays q b k (Ok first) → n ≡ run_length calls answers
    → RunTo n (state_of first) store (map call_of calls) answers answers' x store'
    → DrivenIs 0 x.tail_mark x.head_mark r
    → DroveSays q b k calls answers answers' store store' r
drove {q} {b} {k} {calls} {answers} {store = store} {first} {x} {n = n} says all ran left = record {
  refused = λ f. absurd (true_not_false (accepts paper_limits (sizes q b k)) ok f);
  ran = λ e. (
    record {
      number_is = left.number_is;
      tail_mark_is = left.tail_mark_is ∙ ap (λ (y : State). y.tail_mark) last_is;
      head_mark_is = left.head_mark_is ∙ ap (λ (y : State). y.head_mark) last_is;
    },
    ran.answers_are
        ∙ ap (λ (y : State). map word_of (run paper y store (take n (map call_of calls))) ++ drop n answers) fresh-is
        ∙ ap (λ (l : List Call). map word_of (run paper (fresh paper (sizes q b k)) store l) ++ drop n answers) calls_are
        ∙ ap (λ (i : ℕ). map word_of (run paper (fresh paper (sizes q b k)) store (calls_run calls answers)) ++ drop i
        answers) all,
    ran.store_is
        ∙ ap (λ (y : State). last_store paper y store (take n (map call_of calls))) fresh-is
        ∙ ap (last_store paper (fresh paper (sizes q b k)) store) calls_are,
  );
}
  where
    ok : accepts paper_limits (sizes q b k) ≡ true
    ok = made_accepted paper (sizes q b k) (sym says.number_is)

    fresh-is : state_of first ≡ fresh paper (sizes q b k)
    fresh-is = says.made_is.fresh-is

    calls_are : take n (map call_of calls) ≡ calls_run calls answers
    calls_are = take-map call_of n calls ∙ ap (λ (i : ℕ). map call_of (take i calls)) all

    last_is : x ≡ last_state paper (fresh paper (sizes q b k)) store (calls_run calls answers)
    last_is =
        ran.state_is
        ∙ ap (λ (y : State). last_state paper y store (take n (map call_of calls))) fresh-is
        ∙ ap (last_state paper (fresh paper (sizes q b k)) store) calls_are
