-- What a script prints, put together from its parts: the slots' lines and then the last one, or a refusal of the start
-- and then the last line; and which of these a script that was judged good prints, by the number with which it starts.
use mathlib.Core.Path.{◌≡◌, refl, ap, sym, ◌∙◌, subst}
use mathlib.Core.Bool.{Bool, true}
use mathlib.Core.List.{List, [], ◌∷◌, ◌++◌}
use Rattle.std.specs.Prelude.{Ok, Err}
use Prim.Native.Nat.{ℕ, zero, suc, ◌+◌, ◌*◌, ◌≤◌, ◌<◌}
use native.Mathlib.Omega.{arith}
use lib.Dec.{ltb}
use lib.ListN.{length, length-append}
use borrow.Author.Tests.{eq-eqb, lt-ltb, le-ltb}
use Rattle.model.specs.Basics.{choose, when, first_refusal}
use Rattle.model.specs.Sizes.{Sizes, sizes, paper_limits, accepts, paper, store_bytes}
use Rattle.model.specs.State.{State, fresh, making_number, keeps}
use Rattle.model.specs.Slot.{Call}
use Rattle.model.specs.Lists.{run, last_store, accepted}
use Rattle.model.proofs.basics.Limits.{Within, within_limits, row_within, store_within}
use Rattle.model.proofs.one_slot.Rules.{made_accepted, keeps-fresh, keeps-holds}
use Rattle.layout.specs.Counts.{ByQueue}
use Rattle.layout.specs.Views.{Arrays}
use Rattle.layout.specs.Calls.{number_of}
use Rattle.layout.specs.declared.Refusal.{Refusal}
use Rattle.layout.proofs.Refusals.{refusal_is_some}
use Rattle.buffer.specs.declared.State as code
use Rattle.buffer.specs.Says.{state_of, MakeSays}
use Rattle.script_commands.specs.Commands.{Command}
use Rattle.script_commands.specs.Scripts.{Script}
use Rattle.script_lines.specs.Lines.{Line, refusal, ending, fault, line_text, text}
use Rattle.script_lines.specs.Says.{PutSays}
use Rattle.script_lines.proofs.Placed.{put_then_put, put_keeps_length}
use Rattle.script_lines.proofs.Pieces.{one_line}
use Rattle.script_text.specs.Run.{slots_of_all, sizes_of, slot_lines, list_lines, start_number, started_lines, started_store}
use Rattle.script_text.specs.Run.{judged_lines, judged_store}
use Rattle.script_text.proofs.Append.{text-append}
use Rattle.script_slots.specs.declared.Progress.{Progress}
use Rattle.script_slots.specs.Says.{count_limit, RunsOn, Room}
use Rattle.script_runner.specs.Says.{ListFits, PrintsSays}

-- The text of two lines.
two_lines : (first second : Line) → text (first ∷ second ∷ []) ≡ line_text first ++ line_text second
two_lines first second = ap (λ (bytes : List ℕ). line_text first ++ bytes) (one_line second)

-- Two lines, one put behind the other.
module _ (first second : Line) (output : List ℕ) (fits : length (text (first ∷ second ∷ [])) ≤ length output) where
  long : length (line_text first ++ line_text second) ≤ length output
  long = subst (λ (bytes : List ℕ). length bytes ≤ length output) (two_lines first second) fits

  pub first_fits : 0 + length (line_text first) ≤ length output
  first_fits = omega (arith, long, length-append (line_text first) (line_text second))

  module _ {r : ℕ} {output' : List ℕ} (put : PutSays (line_text first) 0 output r output') where
    pub second_fits : r + length (line_text second) ≤ length output'
    second_fits =
        omega (
          arith,
          put.place_is,
          put_keeps_length put first_fits,
          long,
          length-append (line_text first) (line_text second),
        )

    pub puts_two : {r' : ℕ} {output'' : List ℕ} → PutSays (line_text second) r output' r' output''
        → PutSays (text (first ∷ second ∷ [])) 0 output r' output''
    puts_two {r'} {output''} next =
        subst (λ (bytes : List ℕ). PutSays bytes 0 output r' output'') (sym (two_lines first second))
        (put_then_put put next (omega (arith, long)))

-- A list of slots and its last line.
module _ (x : State) (store : List ℕ) (calls : List Call) (output : List ℕ) (fits : ListFits x store calls output) where
  abbrev lines_of : List ℕ
  lines_of = text (slot_lines 0 (run paper x store calls))

  abbrev end_of : Line
  end_of = ending (length (accepted (run paper x store calls)))

  list_text : text (list_lines (run paper x store calls)) ≡ lines_of ++ line_text end_of
  list_text =
      text-append (slot_lines 0 (run paper x store calls)) (end_of ∷ [])
      ∙ ap (λ (bytes : List ℕ). lines_of ++ bytes) (one_line end_of)

  list_length : length (text (list_lines (run paper x store calls))) ≡ length lines_of + length (line_text end_of)
  list_length = ap length list_text ∙ length-append lines_of (line_text end_of)

  pub list_room : Room x store calls 0 0 output
  list_room = record {
    lines_fit = omega (arith, list_length, fits.lines_fit);
    slots_fit = omega (arith, fits.slots_fit);
  }

  module _ {p : Progress} {m : Arrays} {counts : ByQueue} {store' output' : List ℕ}
      (ran : RunsOn x store calls 0 0 output p m counts store' output') where
    end_is : ending p.slots ≡ end_of
    end_is =
        let counted : p.slots ≡ length (accepted (run paper x store calls)) = omega (arith, ran.slots_is) in
        ap ending counted

    pub ending_fits : p.place + length (line_text (ending p.slots)) ≤ length output'
    ending_fits =
        omega (
          arith,
          ap (λ (line : Line). length (line_text line)) end_is,
          ran.lines_are.place_is,
          put_keeps_length ran.lines_are list_room.lines_fit,
          list_length,
          fits.lines_fit,
        )

    pub list_prints : {r : ℕ} {output'' : List ℕ}
        → PutSays (line_text (ending p.slots)) p.place output' r output''
        → PrintsSays (list_lines (run paper x store calls)) (last_store paper x store calls) output r store' output''
    list_prints {r} {output''} put = record {
      lines_are =
          subst (λ (bytes : List ℕ). PutSays bytes 0 output r output'') (sym list_text)
          (put_then_put ran.lines_are
          (subst (λ (line : Line). PutSays (line_text line) p.place output' r output'') end_is put)
          (omega (arith, ap length list_text, fits.lines_fit)));
      store_is = ran.store_is;
    }

-- The sizes are refused with 1, or the store with 2, or neither is.
starts-refused : (s : Sizes) (store : List ℕ) → (making_number paper s ≡ 0 → ⊥)
    → start_number s store ≡ making_number paper s
starts-refused s store f = go (making_number paper s) f
  where
    go : (n : ℕ) → (n ≡ 0 → ⊥)
        → first_refusal (n ∷ when (ltb (length store) (store_bytes s)) 2 ∷ []) ≡ n
    go zero f = absurd (f refl)
    go (suc n) f = refl

starts-short : (s : Sizes) (store : List ℕ) → making_number paper s ≡ 0 → length store < store_bytes s
    → start_number s store ≡ 2
starts-short s store e h =
    ap (λ (n : ℕ). first_refusal (n ∷ when (ltb (length store) (store_bytes s)) 2 ∷ [])) e
    ∙ ap (λ (t : Bool). first_refusal (when t 2 ∷ [])) (lt-ltb (length store) (store_bytes s) h)

starts-well : (s : Sizes) (store : List ℕ) → making_number paper s ≡ 0 → store_bytes s ≤ length store
    → start_number s store ≡ 0
starts-well s store e h =
    ap (λ (n : ℕ). first_refusal (n ∷ when (ltb (length store) (store_bytes s)) 2 ∷ [])) e
    ∙ ap (λ (t : Bool). first_refusal (when t 2 ∷ [])) (le-ltb (length store) (store_bytes s) h)

-- A script that was judged good, by the number with which it starts.
module _ (script : Script) (good : script.number ≡ 0) (store : List ℕ) (n : ℕ)
    (starts : start_number (sizes_of script.commands) store ≡ n) where
  good_lines : judged_lines script store ≡ started_lines n script.commands store
  good_lines =
      ap (λ (t : Bool). choose t
      (started_lines (start_number (sizes_of script.commands) store) script.commands store)
      (fault script.number script.offset ∷ [])) (eq-eqb script.number 0 good)
      ∙ ap (λ (k : ℕ). started_lines k script.commands store) starts

  good_store : judged_store script store ≡ started_store n script.commands store
  good_store =
      ap (λ (t : Bool). choose t
      (started_store (start_number (sizes_of script.commands) store) script.commands store)
      store) (eq-eqb script.number 0 good)
      ∙ ap (λ (k : ℕ). started_store k script.commands store) starts

  -- "prints R 0 n and E 0"
  module _ (refused : n ≡ 0 → ⊥) where
    refused-lines : judged_lines script store ≡ refusal 0 n ∷ ending 0 ∷ []
    refused-lines = good_lines ∙ go n refused
      where
        go : (k : ℕ) → (k ≡ 0 → ⊥) → started_lines k script.commands store ≡ refusal 0 k ∷ ending 0 ∷ []
        go zero f = absurd (f refl)
        go (suc k) f = refl

    refused-store : judged_store script store ≡ store
    refused-store = good_store ∙ go n refused
      where
        go : (k : ℕ) → (k ≡ 0 → ⊥) → started_store k script.commands store ≡ store
        go zero f = absurd (f refl)
        go (suc k) f = refl

    module _ (output : List ℕ) where
      pub start_fits : length (text (judged_lines script store)) ≤ length output
          → length (text (refusal 0 n ∷ ending 0 ∷ [])) ≤ length output
      start_fits fits = subst (λ (l : List Line). length (text l) ≤ length output) refused-lines fits

      pub start_refused : {r : ℕ} {output' : List ℕ} → PutSays (text (refusal 0 n ∷ ending 0 ∷ [])) 0 output r output'
          → PrintsSays (judged_lines script store) (judged_store script store) output r store output'
      start_refused {r} {output'} put = record {
        lines_are = subst (λ (l : List Line). PutSays (text l) 0 output r output') (sym refused-lines) put;
        store_is = sym refused-store;
      }

-- The making of a state for the sizes of a script, refused; and a store that is too short for them.
module _ (q b k : ℕ) (cs : List Command) (sizes-are : sizes q b k ≡ sizes_of cs) (store : List ℕ) where
  pub sizes-refused : {reason : Refusal} → MakeSays q b k (Err reason)
      → start_number (sizes_of cs) store ≡ number_of reason
  sizes-refused {reason} says =
      ap (λ (s : Sizes). start_number s store) (sym sizes-are)
      ∙ starts-refused (sizes q b k) store (λ e. refusal_is_some reason (says.number_is ∙ e))
      ∙ sym says.number_is

  pub store_refused : {made : code.State} → MakeSays q b k (Ok made) → length store < q * k * b
      → start_number (sizes_of cs) store ≡ 2
  store_refused says h =
      ap (λ (s : Sizes). start_number s store) (sym sizes-are)
      ∙ starts-short (sizes q b k) store (sym says.number_is) h

-- A state that was made, for a script that was judged good.
module _ (q b k : ℕ) (made : code.State) (says : MakeSays q b k (Ok made)) where
  not-refused : making_number paper (sizes q b k) ≡ 0
  not-refused = sym says.number_is

  accepted-sizes : accepts paper_limits (sizes q b k) ≡ true
  accepted-sizes = made_accepted paper (sizes q b k) not-refused

  limits : Within paper_limits (sizes q b k)
  limits = within_limits paper_limits (sizes q b k) accepted-sizes

  pub row_small : q * k ≤ 64 * 255
  row_small = row_within paper_limits (sizes q b k) limits

  pub need_small : q * k * b ≤ 64 * 255 * 128
  need_small = store_within paper_limits (sizes q b k) limits

  is_fresh : state_of made ≡ fresh paper (sizes q b k)
  is_fresh = says.made_is.fresh-is

  pub made_kept : keeps paper (state_of made) ≡ true
  made_kept =
      ap (keeps paper) is_fresh
      ∙ keeps-holds paper (fresh paper (sizes q b k)) (keeps-fresh paper (sizes q b k) accepted-sizes)

  module _ (store : List ℕ) (enough : q * k * b ≤ length store) where
    pub store_enough : store_bytes (state_of made).sizes ≤ length store
    store_enough =
        subst (λ (s : Sizes). store_bytes s ≤ length store) (sym (ap (λ (x : State). x.sizes) is_fresh)) enough

    module _ (script : Script) (good : script.number ≡ 0) (sizes-are : sizes q b k ≡ sizes_of script.commands)
        (calls : List Call) (calls_are : calls ≡ slots_of_all script.commands) where
      started : start_number (sizes_of script.commands) store ≡ 0
      started =
          ap (λ (s : Sizes). start_number s store) (sym sizes-are)
          ∙ starts-well (sizes q b k) store not-refused enough

      -- The state and the calls that are run are the definition's.
      state_runs : state_of made ≡ fresh paper (sizes_of script.commands)
      state_runs = is_fresh ∙ ap (fresh paper) sizes-are

      run-lines : judged_lines script store ≡ list_lines (run paper (state_of made) store calls)
      run-lines =
          good_lines script good store 0 started
          ∙ ap (λ (x : State). list_lines (run paper x store (slots_of_all script.commands))) (sym state_runs)
          ∙ ap (λ (cs : List Call). list_lines (run paper (state_of made) store cs)) (sym calls_are)

      run_store : judged_store script store ≡ last_store paper (state_of made) store calls
      run_store =
          good_store script good store 0 started
          ∙ ap (λ (x : State). last_store paper x store (slots_of_all script.commands)) (sym state_runs)
          ∙ ap (last_store paper (state_of made) store) (sym calls_are)

      module _ (output : List ℕ) where
        pub list_fits : length (text (judged_lines script store)) ≤ length output
            → length (slots_of_all script.commands) < count_limit
            → ListFits (state_of made) store calls output
        list_fits fits few = record {
          lines_fit = subst (λ (l : List Line). length (text l) ≤ length output) run-lines fits;
          slots_fit = subst (λ (cs : List Call). length cs < count_limit) (sym calls_are) few;
        }

        pub started_runs : {r : ℕ} {store' output' : List ℕ}
            → PrintsSays (list_lines (run paper (state_of made) store calls))
            (last_store paper (state_of made) store calls) output r store' output'
            → PrintsSays (judged_lines script store) (judged_store script store) output r store' output'
        started_runs {r} {store'} {output'} prints = record {
          lines_are =
              subst (λ (l : List Line). PutSays (text l) 0 output r output') (sym run-lines) prints.lines_are;
          store_is = prints.store_is ∙ sym run_store;
        }
