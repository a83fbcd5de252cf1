-- A run before call i has run the first i calls as the model's list: their answers stand, what lies behind them is as
-- it was, and state and store are as those calls leave them. One call more is one slot more.
use mathlib.Core.Path.{◌≡◌, refl, ap, sym, ◌∙◌, subst}
use mathlib.Core.List.{List, [], ◌∷◌, ◌++◌, map, map-append}
use Rattle.std.specs.Prelude.{Result}
use Prim.Native.Nat.{ℕ, ◌+◌, ◌<◌, ◌≤◌}
use native.Mathlib.Omega.{arith}
use native.Mathlib.Numerals.{add-one}
use lib.ListN.{length, take, drop, set, get_or, length-map, length-drop, get_or-map}
use lib.Seq.{take-length, take-suc, length-take-le, drop-drop}
use Rattle.model.specs.Sizes.{paper}
use Rattle.model.specs.State.{State}
use Rattle.model.specs.Slot.{Call, Answer, slot}
use Rattle.model.specs.Lists.{step_of, run, last_state, last_store}
use Rattle.model.proofs.one_slot.Rules.{keeps-facts}
use Rattle.model.proofs.one_slot.Kept.{slot_kept}
use Rattle.model.proofs.one_slot.Lists.{last_append, last_store_append, run-append, run_length}
use Rattle.layout.specs.Counts.{ByQueue}
use Rattle.layout.specs.Calls.{reply_in}
use Rattle.layout.specs.declared.Regs.{Regs}
use Rattle.layout.specs.declared.Outcome.{Outcome}
use Rattle.layout.specs.declared.Refusal.{Refusal}
use Rattle.layout.specs.Views.{Arrays, state_in}
use Rattle.slot_in_place.specs.Says.{Ready, answer_in, AdvanceSays, AsGiven}
use Rattle.run_words.specs.Words.{answer_slots, call_of, answer_word, near_call}
use Rattle.run_words.proofs.Nearest.{near_slot}
use Rattle.run_words.proofs.SlotsLeft.{slots_left_fit}
use Rattle.slot_in_place.specs.declared.Advanced.{Advanced}
use Rattle.run_in_place.specs.declared.Called.{Called}
use Rattle.run_in_place.specs.Says.{word_of, advanced_in, advanced_to, CalledSays, OneSlotSays}
use Rattle.run_in_place.specs.Says.{OneCallSays, RunInPlaceSays}

-- What a slot in place tells fits a word.
pub word_fits : {x : State} {store : List ℕ} {call : Call} {r : Advanced} {m : Arrays} {counts : ByQueue}
    {store' : List ℕ}
    → AdvanceSays x store call r m counts store' → (reply_in r.reply).slots_left < answer_slots
word_fits {x} {store} {call} says =
    omega (arith, ap (λ (a : Answer). a.reply.slots_left) says.answer-is, slots_left_fit x store call)

-- The run before call i.
pub record RunTo (i : ℕ) (x : State) (store : List ℕ) (calls : List Call) (before after : List ℕ) (state : State)
    (store' : List ℕ) : Type 0 where
  pub within : i ≤ length calls
  pub answers_are : after ≡ map word_of (run paper x store (take i calls)) ++ drop i before
  pub state_is : state ≡ last_state paper x store (take i calls)
  pub store_is : store' ≡ last_store paper x store (take i calls)

pub run-starts : {x : State} (store : List ℕ) (calls : List Call) (before : List ℕ) {state : State} → state ≡ x
    → RunTo 0 x store calls before before state store
run-starts store calls before same = record { within = omega arith; answers_are = refl; state_is = same; store_is = refl }

-- An element stored right behind a front.
set-behind : (front back : List ℕ) (v : ℕ) → 1 ≤ length back
    → set (front ++ back) (length front) v ≡ (front ++ v ∷ []) ++ drop 1 back
set-behind [] [] v h = absurd (omega arith)
set-behind [] (y ∷ back) v h = refl
set-behind (f ∷ front) back v h = ap (λ (l : List ℕ). f ∷ l) (set-behind front back v h)

module _ {i : ℕ} {x : State} {store : List ℕ} {calls : List Call} {before after : List ℕ} {state : State}
    {store' : List ℕ} (w : RunTo i x store calls before after state store') where
  pub run_ends : length calls ≤ i → {end : State} → end ≡ state → RunInPlaceSays x store calls before after end store'
  run_ends last same =
      let all : i ≡ length calls = omega (arith, w.within) in
      let whole : take i calls ≡ calls = ap (λ (n : ℕ). take n calls) all ∙ take-length calls in
      record {
        answers_are = w.answers_are
            ∙ ap (λ (l : List Call). map word_of (run paper x store l) ++ drop i before) whole
            ∙ ap (λ (n : ℕ). map word_of (run paper x store calls) ++ drop n before) all;
        state_is = same ∙ w.state_is ∙ ap (last_state paper x store) whole;
        store_is = w.store_is ∙ ap (last_store paper x store) whole;
      }

  module _ (d : Call) {call : Call} (is_call : get_or calls i d ≡ call) (more : i < length calls)
      (room : i < length before) {a : Answer} (is_slot : a ≡ slot paper state store' call) {told : ℕ}
      (is_IsWord : told ≡ word_of (step_of state store' call (slot paper state store' call))) where
    answer : a ≡ slot paper state store' (get_or calls i d)
    answer = is_slot ∙ ap (slot paper state store') (sym is_call)

    one_more : take (i + 1) calls ≡ take i calls ++ get_or calls i d ∷ []
    one_more = rw add-one (take-suc calls i d more)

    abbrev y : State
    y = last_state paper x store (take i calls)

    abbrev z : List ℕ
    z = last_store paper x store (take i calls)

    abbrev word : State → List ℕ → ℕ
    word s t = word_of (step_of s t (get_or calls i d) (slot paper s t (get_or calls i d)))

    abbrev front : List ℕ
    front = map word_of (run paper x store (take i calls))

    front_long : length front ≡ i
    front_long =
        length-map (run paper x store (take i calls)) word_of
        ∙ run_length paper x store (take i calls)
        ∙ length-take-le i calls w.within

    word_now : told ≡ word y z
    word_now =
        is_IsWord
        ∙ ap (λ (c : Call). word_of (step_of state store' c (slot paper state store' c))) (sym is_call)
        ∙ ap (λ (s : State). word s store') w.state_is
        ∙ ap (λ (t : List ℕ). word y t) w.store_is

    front_now : map word_of (run paper x store (take (i + 1) calls)) ≡ front ++ word y z ∷ []
    front_now =
        ap (λ (l : List Call). map word_of (run paper x store l)) one_more
        ∙ ap (map word_of) (run-append paper x store (take i calls) (get_or calls i d ∷ []))
        ∙ map-append word_of (run paper x store (take i calls)) (run paper y z (get_or calls i d ∷ []))

    stored : set after i told ≡ (front ++ told ∷ []) ++ drop (i + 1) before
    stored =
        ap (λ (l : List ℕ). set l i told) w.answers_are
        ∙ ap (λ (n : ℕ). set (front ++ drop i before) n told) (sym front_long)
        ∙ set-behind front (drop i before) told (omega (arith, length-drop i before))
        ∙ ap (λ (l : List ℕ). (front ++ told ∷ []) ++ l) (drop-drop 1 i before)

    pub run-turn : RunTo (i + 1) x store calls before (set after i told) a.state a.store
    run-turn = record {
      within = omega arith;
      answers_are = stored
          ∙ ap (λ (n : ℕ). (front ++ n ∷ []) ++ drop (i + 1) before) word_now
          ∙ ap (λ (l : List ℕ). l ++ drop (i + 1) before) (sym front_now);
      state_is = ap (λ (b : Answer). b.state) answer
          ∙ ap (λ (s : State). (slot paper s store' (get_or calls i d)).state) w.state_is
          ∙ ap (λ (t : List ℕ). (slot paper y t (get_or calls i d)).state) w.store_is
          ∙ sym (last_append paper x store (take i calls) (get_or calls i d ∷ []))
          ∙ ap (last_state paper x store) (sym one_more);
      store_is = ap (λ (b : Answer). b.store) answer
          ∙ ap (λ (s : State). (slot paper s store' (get_or calls i d)).store) w.state_is
          ∙ ap (λ (t : List ℕ). (slot paper y t (get_or calls i d)).store) w.store_is
          ∙ sym (last_store_append paper x store (take i calls) (get_or calls i d ∷ []))
          ∙ ap (last_store paper x store) (sym one_more);
    }

-- The call of a turn, as the list of calls has it.
pub call_at : (calls : List ℕ) (i : ℕ) → get_or (map call_of calls) i (call_of 0) ≡ call_of (get_or calls i 0)
call_at calls i = get_or-map call_of calls i 0

-- A slot whose call and answer are numbers is the slot: the code's values have the nearest queues, which a slot answers
-- alike.
pub called : {x : State} {store : List ℕ} (call : Call) {read : Call} {m : Arrays} {counts : ByQueue}
    {store' : List ℕ} (r : Called)
    → AdvanceSays x store read (advanced_in r) m counts store' → read ≡ near_call call
    → r.word ≡ answer_word (reply_in r.reply)
    → CalledSays x store call r m counts store'
called {x} {store} call {read} {m} {counts} {store'} r s e ew = record {
  slot_is = record { answer-is = answer; ready = s.ready };
  word_is = ew ∙ ap (λ (b : Answer). answer_word b.reply) answer;
}
  where
    answer : answer_in (advanced_in r) m store' ≡ slot paper x store call
    answer = s.answer-is ∙ ap (slot paper x store) e ∙ near_slot x store call

-- The first slot of a run, as long as no other has come: before it all is as it was given, behind it is the slot.
pub record FirstTo (i : ℕ) (regs : Regs) (m : Arrays) (store : List ℕ) (first-call : Call) (r : Advanced) (m' : Arrays)
    (counts : ByQueue) (store' : List ℕ) : Type 0 where
  pub none_yet : i ≡ 0 → (r.regs ≡ regs) × (m' ≡ m) × (store' ≡ store)
  pub first : i ≡ 1 → OneSlotSays regs m store first-call r m' counts store'

pub no_first : {regs : Regs} {m : Arrays} {store : List ℕ} {call : Call} {r : Advanced} {counts : ByQueue}
    → r.regs ≡ regs → FirstTo 0 regs m store call r m counts store
no_first same = record { none_yet = λ e. (same, refl, refl); first = λ e. absurd (omega (arith, e)) }

module _ (calls : List Call) (d : Call) {i : ℕ} {regs : Regs} {m : Arrays} {store : List ℕ} {r : Advanced} {m' : Arrays}
    {counts : ByQueue} {store' : List ℕ} (f : FirstTo i regs m store (get_or calls 0 d) r m' counts store') where
  pub first_turn : {call : Call} → get_or calls i d ≡ call → {r' : Called} {m'' : Arrays} {counts' : ByQueue}
      {store'' : List ℕ} → CalledSays (state_in r.regs m') store' call r' m'' counts' store''
      → AsGiven r.regs m' (advanced_in r') m''
      → FirstTo (i + 1) regs m store (get_or calls 0 d) (advanced_in r') m'' counts' store''
  first_turn {call} is_call {r'} {m''} {counts'} {store''} says given = record {
    none_yet = λ e. absurd (omega (arith, e));
    first = λ e. at_zero (omega (arith, e));
  }
    where
      Slot : Regs → Arrays → List ℕ → Call → Type 0
      Slot n k t c = OneSlotSays n k t c (advanced_in r') m'' counts' store''

      at_zero : i ≡ 0 → Slot regs m store (get_or calls 0 d)
      at_zero z =
          subst (λ (n : Regs). Slot n m store (get_or calls 0 d)) (f.none_yet z).0
          (subst (λ (k : Arrays). Slot r.regs k store (get_or calls 0 d)) (f.none_yet z).1
          (subst (λ (t : List ℕ). Slot r.regs m' t (get_or calls 0 d)) (f.none_yet z).2
          (subst (λ (c : Call). Slot r.regs m' store' c) (sym is_call ∙ ap (λ (n : ℕ). get_or calls n d) z)
          (record { slot_is = says.slot_is; as_given = given }))))

  pub first_is_all : i ≡ length calls → OneCallSays regs m store calls r m' counts store'
  first_is_all all call e =
      subst (λ (c : Call). OneSlotSays regs m store c r m' counts store') (ap (λ (l : List Call). get_or l 0 d) e)
      (f.first (all ∙ ap length e))

-- Registers that lie in an array are ready as they are by value.
pub lent-ready : {lent regs : Regs} → lent ≡ regs → {m : Arrays} {counts : ByQueue} {store : List ℕ}
    → Ready regs m counts store → Ready lent m counts store
lent-ready put {m} {counts} {store} ready = subst (λ (n : Regs). Ready n m counts store) (sym put) ready

-- A run of one call leaves its registers in their array.
pub call_put : {regs : Regs} {m : Arrays} {store : List ℕ} {calls : List Call} {last lent : Regs} → lent ≡ last
    → (r : Result Outcome Refusal) {m' : Arrays} {counts : ByQueue} {store' : List ℕ}
    → OneCallSays regs m store calls (advanced_to last r) m' counts store'
    → OneCallSays regs m store calls (advanced_to lent r) m' counts store'
call_put {regs} {m} {store} {calls} put r {m'} {counts} {store'} one =
    subst (λ (n : Regs). OneCallSays regs m store calls (advanced_to n r) m' counts store') (sym put) one

-- A caller that holds the registers by value lends an array of them, and reads them there behind the run. A run of one
-- word is then the slot of the call that the word stands for.
pub ran_call : {lent regs lent' regs' : Regs} → lent ≡ regs → regs' ≡ lent' → {m : Arrays} {store : List ℕ} (word : ℕ)
    {call : Call} (r : Result Outcome Refusal) {m' : Arrays} {counts : ByQueue} {store' : List ℕ} → call_of word ≡ call
    → OneCallSays lent m store (call_of word ∷ []) (advanced_to lent' r) m' counts store'
    → AdvanceSays (state_in regs m) store call (advanced_to regs' r) m' counts store'
ran_call {lent} {regs} {lent'} put read {m} {store} word {call} r {m'} {counts} {store'} is_call one =
    subst (λ (n : Regs). AdvanceSays (state_in regs m) store call (advanced_to n r) m' counts store') (sym read)
    (subst (λ (n : Regs). AdvanceSays (state_in n m) store call (advanced_to lent' r) m' counts store') put
    (subst (λ (c : Call). AdvanceSays (state_in lent m) store c (advanced_to lent' r) m' counts store') is_call
    (one (call_of word) refl).slot_is))

-- A slot keeps the store's length.
pub store_kept : {regs : Regs} {m : Arrays} {counts : ByQueue} {store : List ℕ} {call : Call} {r : Called} {m' : Arrays}
    {counts' : ByQueue} {store' : List ℕ} → Ready regs m counts store
    → CalledSays (state_in regs m) store call r m' counts' store' → length store' ≡ length store
store_kept {regs} {m} {counts} {store} {call} v s =
    ap (λ (a : Answer). length a.store) s.slot_is.answer-is
    ∙ (slot_kept paper (state_in regs m) store call (omega arith) (keeps-facts paper (state_in regs m) v.kept)
    ).same_length
