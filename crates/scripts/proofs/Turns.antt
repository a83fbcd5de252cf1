-- One turn of the judge: before it, the whole script has the number and the offset of the script from its place on. A
-- refusal there is the script's, a command moves the place on by its length, and after the end comes nothing or 15.
use Rattle.std.specs.Prelude.{⊤, Result, Ok, Err}
use mathlib.Core.Path.{◌≡◌, refl, sym, ap, ◌∙◌}
use mathlib.Core.Bool.{Bool, true, false}
use mathlib.Core.List.{List, [], ◌∷◌}
use Prim.Native.Nat.{ℕ, ◌+◌, ◌-◌, ◌≤◌, ◌<◌}
use native.Mathlib.Omega.{arith}
use lib.ListN.{length, drop, length-drop}
use lib.Seq.{drop-drop}
use Rattle.script_commands.specs.Commands.{Command, is_end}
use Rattle.script_commands.specs.Scripts.{refused, taken, read_command, Script, after_end, with_command, judge_from, judge}
use Rattle.script_commands.proofs.Judging.{moves-on, judged_refused, judged_end, judged_on, judged_from_start}
use Rattle.scripts.specs.declared.Fault.{Fault}
use Rattle.scripts.specs.declared.Refusal.{Refusal}
use Rattle.scripts.specs.declared.Refusal.TheVariants.{WrongEnd}
use Rattle.scripts.specs.Says.{number_of, fault_number_in, fault_offset_in, ScriptJudged}

-- A place up to which a script has been judged, and whether its command is to be the first.
pub record JudgedTo (script : List ℕ) (at : ℕ) (first : Bool) : Type 0 where
  pub within : at ≤ length script
  pub number_is : (judge script).number ≡ (judge_from first at (drop at script)).number
  pub offset_is : (judge script).offset ≡ (judge_from first at (drop at script)).offset

pub judge-starts : (script : List ℕ) → JudgedTo script 0 true
judge-starts script = record {
  within = omega arith;
  number_is = ap (λ (s : Script). s.number) (judged_from_start script);
  offset_is = ap (λ (s : Script). s.offset) (judged_from_start script);
}

-- After the end: nothing, or 15 at the place.
nothing-follows : (at : ℕ) (bytes : List ℕ) → length bytes ≡ 0
    → after_end at bytes ≡ record { commands = []; number = 0; offset = 0 }
nothing-follows at [] e = refl
nothing-follows at (x ∷ bytes) e = absurd (omega arith)

bytes-follow : (at : ℕ) (bytes : List ℕ) → 0 < length bytes
    → after_end at bytes ≡ record { commands = []; number = 15; offset = at }
bytes-follow at [] h = absurd (omega arith)
bytes-follow at (x ∷ bytes) h = refl

module _ {script : List ℕ} {at : ℕ} {first : Bool} (w : JudgedTo script at first) where
  -- What the script from the place on is judged, the whole script is.
  judged_so : (r : Result ⊤ Fault) {commands : List Command}
      → judge_from first at (drop at script)
      ≡ record { commands = commands; number = fault_number_in r; offset = fault_offset_in r }
      → ScriptJudged script r
  judged_so r e = record {
    number_is = sym (w.number_is ∙ ap (λ (s : Script). s.number) e);
    offset_is = sym (w.offset_is ∙ ap (λ (s : Script). s.offset) e);
  }

  pub judge-refuses : {e : Refusal} → refused (number_of e) ≡ read_command first (drop at script)
      → ScriptJudged script (Err (record { refusal = e; offset = at }))
  judge-refuses {e} says = judged_so _ (judged_refused first at (drop at script) (number_of e) (sym says))

  module _ {c : Command} {n : ℕ} (e : taken c n ≡ read_command first (drop at script)) where
    pub judge-goes_on : is_end c.kind ≡ false → JudgedTo script (at + n) false
    judge-goes_on t =
        let judged = judged_on first at (drop at script) c n (sym e) t in
        record {
          within = (moves-on first script at c n (sym e)).1;
          number_is = w.number_is ∙ ap (λ (s : Script). s.number) judged ∙ rw (drop-drop n at script);
          offset_is = w.offset_is ∙ ap (λ (s : Script). s.offset) judged ∙ rw (drop-drop n at script);
        }

    left_after : length (drop n (drop at script)) ≡ length script - (at + n)
    left_after = omega (arith, length-drop n (drop at script), length-drop at script)

    module _ (t : is_end c.kind ≡ true) where
      ended : judge_from first at (drop at script) ≡ with_command c (after_end (at + n) (drop n (drop at script)))
      ended = judged_end first at (drop at script) c n (sym e) t

      pub judge-ends : length script ≤ at + n → ScriptJudged script (Ok tt)
      judge-ends done =
          judged_so _
          (ended ∙ ap (with_command c) (nothing-follows (at + n) (drop n (drop at script)) (omega (arith, left_after))))

      pub judge-follows : at + n < length script → ScriptJudged script (Err (record { refusal = WrongEnd; offset = at + n }))
      judge-follows more =
          judged_so _
          (ended ∙ ap (with_command c) (bytes-follow (at + n) (drop n (drop at script)) (omega (arith, left_after))))
