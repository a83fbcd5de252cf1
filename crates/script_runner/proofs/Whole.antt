-- Any bytes as a script: too long, faulty, or good; and with an output that may be too short, or not.
use Rattle.std.specs.Prelude.{Ok, Err}
use mathlib.Core.Path.{◌≡◌, ap, sym, ◌∙◌, subst}
use mathlib.Core.Bool.{Bool, true, false}
use mathlib.Core.List.{List, [], ◌∷◌, ◌++◌}
use mathlib.Core.Option.{some, none}
use Prim.Native.Nat.{ℕ, ◌+◌, ◌≤◌, ◌<◌}
use native.Mathlib.Nat.{zero-add}
use native.Mathlib.Omega.{arith}
use lib.ListN.{length, drop}
use borrow.Author.Tests.{ne_eqb, lt-ltb, le-ltb}
use Rattle.std.specs.Prelude.{Ok, Err}
use Rattle.model.specs.Basics.{choose}
use Rattle.script_commands.specs.Scripts.{Script, judge}
use Rattle.scripts.specs.declared.Fault.{Fault}
use Rattle.scripts.specs.Says.{number_of, ScriptJudged}
use Rattle.scripts.proofs.Back.{number_not_zero}
use Rattle.script_lines.specs.Lines.{Line, fault, line_text, text}
use Rattle.script_lines.specs.Says.{PutSays}
use Rattle.script_lines.proofs.Pieces.{one_line}
use Rattle.script_text.specs.Run.{most_bytes, sizes_of, start_number, started_lines, started_store, judged_lines}
use Rattle.script_text.specs.Run.{judged_store, script_lines, script_store, output_bound}
use Rattle.script_text.proofs.Lengths.{fault_length}
use Rattle.script_text.proofs.ScriptCharges.{Bytes, slots_below}
use Rattle.script_text.proofs.Bound.{text-fits}
use Rattle.script_text.proofs.Program.{long_lines}
use Rattle.script_runner.specs.declared.OutputTooShort as runner
use Rattle.script_runner.specs.Says.{GoodFits, PrintsSays, short, ScriptSays}

-- Too long, or not.
long_store : (script store : List ℕ) → most_bytes < length script → script_store script store ≡ store
unfolding script_store
long_store script store h =
    ap (λ (t : Bool). choose t store (judged_store (judge script) store)) (lt-ltb most_bytes (length script) h)

judged_lines_lem : (script store : List ℕ) → length script ≤ most_bytes
    → script_lines script store ≡ judged_lines (judge script) store
unfolding script_lines
judged_lines_lem script store h =
    ap (λ (t : Bool). choose t (fault 15 most_bytes ∷ []) (judged_lines (judge script) store))
    (le-ltb most_bytes (length script) h)

judged_store_lem : (script store : List ℕ) → length script ≤ most_bytes
    → script_store script store ≡ judged_store (judge script) store
unfolding script_store
judged_store_lem script store h =
    ap (λ (t : Bool). choose t store (judged_store (judge script) store)) (le-ltb most_bytes (length script) h)

-- Faulty.
faulty-lines : (s : Script) (store : List ℕ) → (s.number ≡ 0 → ⊥)
    → judged_lines s store ≡ fault s.number s.offset ∷ []
faulty-lines s store f =
    ap (λ (t : Bool). choose t (started_lines (start_number (sizes_of s.commands) store) s.commands store)
    (fault s.number s.offset ∷ [])) (ne_eqb s.number 0 f)

faulty-store : (s : Script) (store : List ℕ) → (s.number ≡ 0 → ⊥) → judged_store s store ≡ store
faulty-store s store f =
    ap (λ (t : Bool). choose t (started_store (start_number (sizes_of s.commands) store) s.commands store) store)
    (ne_eqb s.number 0 f)

-- A script that prints one line and leaves the store.
module _ (script store output : List ℕ) (line : Line) (lines : script_lines script store ≡ line ∷ [])
    (same : script_store script store ≡ store) where
  text-is : text (script_lines script store) ≡ line_text line
  text-is = ap text lines ∙ one_line line

  one_fits : Bytes script → output_bound (length script) ≤ length output → 0 + length (line_text line) ≤ length output
  one_fits bytes h = omega (arith, text-fits script store bytes, h, ap length text-is)

  prints_one : {r : ℕ} {output' : List ℕ} → PutSays (line_text line) 0 output r output'
      → PrintsSays (script_lines script store) (script_store script store) output r store output'
  prints_one {r} {output'} put = record {
    lines_are = subst (λ (bytes : List ℕ). PutSays bytes 0 output r output') (sym text-is) put;
    store_is = sym same;
  }

-- The line of a script that is too long fits any output that is long enough.
pub long_fits : (n : ℕ) (output : List ℕ) → output_bound n ≤ length output
    → 0 + length (line_text (fault 15 most_bytes)) ≤ length output
long_fits n output h = omega (arith, h, fault_length 15 most_bytes (omega arith) (omega arith))

module _ (script store output : List ℕ) where
  -- "input over 65,536 bytes prints only S 15 65536"
  module _ (long : most_bytes < length script) where
    pub long_prints : {r : ℕ} {output' : List ℕ} → PutSays (line_text (fault 15 most_bytes)) 0 output r output'
        → PrintsSays (script_lines script store) (script_store script store) output r store output'
    long_prints put =
        prints_one script store output (fault 15 most_bytes) (long_lines script store long)
        (long_store script store long) put

  module _ (within : length script ≤ most_bytes) where
    -- "A script refusal prints only S n offset"
    module _ (j : Fault) (says : ScriptJudged script (Err j)) where
      not_good : (judge script).number ≡ 0 → ⊥
      not_good e = number_not_zero j.refusal (says.number_is ∙ e)

      fault_is : fault (judge script).number (judge script).offset ≡ fault (number_of j.refusal) j.offset
      fault_is =
          ap (λ (n : ℕ). fault n (judge script).offset) (sym says.number_is)
          ∙ ap (fault (number_of j.refusal)) (sym says.offset_is)

      lines_are : script_lines script store ≡ fault (number_of j.refusal) j.offset ∷ []
      lines_are =
          judged_lines_lem script store within
          ∙ faulty-lines (judge script) store not_good
          ∙ ap (λ (line : Line). line ∷ []) fault_is

      store_stays : script_store script store ≡ store
      store_stays = judged_store_lem script store within ∙ faulty-store (judge script) store not_good

      pub fault_fits : Bytes script → output_bound (length script) ≤ length output
          → 0 + length (line_text (fault (number_of j.refusal) j.offset)) ≤ length output
      fault_fits = one_fits script store output (fault (number_of j.refusal) j.offset) lines_are store_stays

      pub fault_prints : {r : ℕ} {output' : List ℕ}
          → PutSays (line_text (fault (number_of j.refusal) j.offset)) 0 output r output'
          → PrintsSays (script_lines script store) (script_store script store) output r store output'
      fault_prints put =
          prints_one script store output (fault (number_of j.refusal) j.offset) lines_are store_stays put

    -- A script that was judged good.
    pub good_fits : ScriptJudged script (Ok tt) → Bytes script → output_bound (length script) ≤ length output
        → GoodFits script store output
    good_fits says bytes h = record {
      good = sym says.number_is;
      lines_fit = omega (
        arith,
        text-fits script store bytes,
        h,
        ap (λ (l : List Line). length (text l)) (judged_lines_lem script store within),
      );
      slots_fit = omega (arith, slots_below script bytes within);
    }

    pub good_prints : {r : ℕ} {store' output' : List ℕ}
        → PrintsSays (judged_lines (judge script) store) (judged_store (judge script) store) output r store' output'
        → PrintsSays (script_lines script store) (script_store script store) output r store' output'
    good_prints {r} {store'} {output'} prints = record {
      lines_are =
          subst (λ (l : List Line). PutSays (text l) 0 output r output') (sym (judged_lines_lem script store within))
          prints.lines_are;
      store_is = prints.store_is ∙ sym (judged_store_lem script store within);
    }

  -- An output that may be too short is left as it is, and so is the store.
  pub too_short : length output < output_bound (length script) → {e : runner.OutputTooShort} → ScriptSays script store output (Err e) store output
  too_short h =
      let t : short script output ≡ true = lt-ltb (length output) (output_bound (length script)) h in
      record {
        answer-is = sym (ap (λ (b : Bool). choose b none (some (length (text (script_lines script store))))) t);
        output_is = sym (ap (λ (b : Bool). choose b output (printed_output)) t);
        store_is = sym (ap (λ (b : Bool). choose b store (script_store script store)) t);
      }
    where
      printed_output : List ℕ
      printed_output = text (script_lines script store) ++ drop (length (text (script_lines script store))) output

  pub long_enough : output_bound (length script) ≤ length output → {r : ℕ} {store' output' : List ℕ}
      → PrintsSays (script_lines script store) (script_store script store) output r store' output'
      → ScriptSays script store output (Ok r) store' output'
  long_enough h {r} {store'} {output'} prints =
      let t : short script output ≡ false = le-ltb (length output) (output_bound (length script)) h in
      let all : r ≡ length (text (script_lines script store)) = omega (arith, prints.lines_are.place_is) in
      record {
        answer-is =
            ap some all
            ∙ sym (ap (λ (b : Bool). choose b none (some (length (text (script_lines script store))))) t);
        output_is =
            prints.lines_are.output_is
            ∙ ap (λ (n : ℕ). text (script_lines script store) ++ drop n output)
            (zero-add (length (text (script_lines script store))))
            ∙ sym (ap (λ (b : Bool). choose b output
            (text (script_lines script store) ++ drop (length (text (script_lines script store))) output)) t);
        store_is =
            prints.store_is ∙ sym (ap (λ (b : Bool). choose b store (script_store script store)) t);
      }
