-- What is left of a script that was judged good. The reader takes a command there, since a refusal would be the
-- script's fault; and what follows the command is good again: the script from there on, or nothing behind the end.
use mathlib.Core.Path.{◌≡◌, refl, ap, sym, ◌∙◌}
use mathlib.Core.Bool.{Bool, true, false, not, not-not}
use mathlib.Core.List.{List, [], ◌∷◌, ◌++◌}
use Prim.Native.Nat.{ℕ, ◌+◌, ◌≤◌, ◌<◌}
use native.Mathlib.Omega.{arith}
use lib.Dec.{ltb}
use lib.ListN.{length, drop, length-drop, drop_of_length-le}
use lib.Seq.{drop-drop}
use borrow.Author.Tests.{ltb-true, ltb-false, lt-ltb, le-ltb}
use Rattle.model.specs.Basics.{choose}
use Rattle.model.proofs.basics.Tests.{by_test}
use Rattle.model.specs.Sizes as of
use Rattle.script_commands.specs.Commands.{sizes, Command, command, is_sizes, is_end}
use Rattle.script_commands.specs.Scripts.{Reading, refused, taken, read_command, Script, after_end}
use Rattle.script_commands.specs.Scripts.{with_command, judge_from, judge}
use Rattle.script_commands.proofs.Judging.{refused-not_taken, taken-same_command, ReadAs, no_byte, no_kind}
use Rattle.script_commands.proofs.Judging.{out_of_place_lem}
use Rattle.script_commands.proofs.Judging.{cut_short, takes, read_as, moves-on, judged_refused, judged_end, judged_on}
use Rattle.script_commands.proofs.Judging.{judged_from_start}
use Rattle.script_text.specs.Run.{slots_of, slots_of_all, sizes_of}
use Rattle.script_runner.specs.declared.FirstSizes.{FirstSizes}
use Rattle.script_runner.specs.Says.{script_from, calls_from, SizesSays}

-- A refusal has a number.
refused-same : (n k : ℕ) → refused n ≡ refused k → n ≡ k
refused-same n k e = cc

refusal-some : {first : Bool} {bytes : List ℕ} {r : Reading} → ReadAs first bytes r → (n : ℕ) → r ≡ refused n → 1 ≤ n
refusal-some no_byte n e = omega (arith, refused-same 15 n e)
refusal-some (no_kind code bytes) n e = omega (arith, refused-same 12 n e)
refusal-some (out_of_place_lem code bytes) n e = omega (arith, refused-same 14 n e)
refusal-some (cut_short code bytes) n e = omega (arith, refused-same 13 n e)
refusal-some (takes code bytes k t long) n e = absurd (refused-not_taken n _ _ (sym e))

-- The first command that is taken is sizes.
taken-sizes : {bytes : List ℕ} {r : Reading} → ReadAs true bytes r → (c : Command) (n : ℕ) → r ≡ taken c n
    → is_sizes c.kind ≡ true
taken-sizes no_byte c n e = absurd (refused-not_taken 15 c n e)
taken-sizes (no_kind code bytes) c n e = absurd (refused-not_taken 12 c n e)
taken-sizes (out_of_place_lem code bytes) c n e = absurd (refused-not_taken 14 c n e)
taken-sizes (cut_short code bytes) c n e = absurd (refused-not_taken 13 c n e)
taken-sizes (takes code bytes k t long) c n e =
    ap (λ (d : Command). is_sizes d.kind) (sym (taken-same_command _ c _ n e))
    ∙ sym (not-not (is_sizes k)) ∙ ap not t

pub first_is_sizes : (bytes : List ℕ) (c : Command) (n : ℕ) → read_command true bytes ≡ taken c n
    → is_sizes c.kind ≡ true
first_is_sizes bytes c n e = taken-sizes (read_as true bytes) c n e

-- Before the end of a script, and at it.
from_within : (script : List ℕ) (at : ℕ) → at < length script
    → script_from script at ≡ judge_from false at (drop at script)
from_within script at h =
    ap (λ (t : Bool). choose t (judge_from false at (drop at script)) (after_end at [])) (lt-ltb at (length script) h)

from_end : (script : List ℕ) (at : ℕ) → length script ≤ at → script_from script at ≡ after_end at []
from_end script at h =
    ap (λ (t : Bool). choose t (judge_from false at (drop at script)) (after_end at [])) (le-ltb at (length script) h)

pub no_calls_left : (script : List ℕ) (at : ℕ) → length script ≤ at → calls_from script at ≡ []
no_calls_left script at h = ap (λ (s : Script). slots_of_all s.commands) (from_end script at h)

-- Where nothing faulty follows the end, nothing does.
nothing-follows : (offset : ℕ) (bytes : List ℕ) → (after_end offset bytes).number ≡ 0 → bytes ≡ []
nothing-follows offset [] e = refl
nothing-follows offset (x ∷ bytes) e = absurd (omega (arith, e))

-- A script that reads well from a place on.
module _ (first : Bool) (script : List ℕ) (at : ℕ) (good : (judge_from first at (drop at script)).number ≡ 0) where
  pub not-refused : (n : ℕ) → refused n ≡ read_command first (drop at script) → ⊥
  not-refused n e =
      omega (
        arith,
        refusal-some (read_as first (drop at script)) n (sym e),
        sym (ap (λ (s : Script). s.number) (judged_refused first at (drop at script) n (sym e))) ∙ good,
      )

  module _ (c : Command) (n : ℕ) (e : taken c n ≡ read_command first (drop at script)) where
    abbrev rest : List ℕ
    rest = drop n (drop at script)

    rest_is : rest ≡ drop (at + n) script
    rest_is = drop-drop n at script

    -- The end was read, and nothing follows it.
    after_the_end : is_end c.kind ≡ true
        → judge_from first at (drop at script) ≡ with_command c (script_from script (at + n))
    after_the_end t =
        let ended = judged_end first at (drop at script) c n (sym e) t in
        let none_left = nothing-follows (at + n) rest (sym (ap (λ (s : Script). s.number) ended) ∙ good) in
        let past : length script ≤ at + n = omega (
          arith,
          ap length (sym rest_is ∙ none_left),
          length-drop (at + n) script,
        ) in
        ended
        ∙ ap (λ (bytes : List ℕ). with_command c (after_end (at + n) bytes)) none_left
        ∙ ap (with_command c) (sym (from_end script (at + n) past))

    -- The script goes on, and a command is due.
    goes_on : is_end c.kind ≡ false
        → judge_from first at (drop at script) ≡ with_command c (script_from script (at + n))
    goes_on t =
        let on =
        judged_on first at (drop at script) c n (sym e) t
        ∙ ap (λ (bytes : List ℕ). with_command c (judge_from false (at + n) bytes)) rest_is in
        let good-on = sym (ap (λ (s : Script). s.number) on) ∙ good in
        by_test (ltb (at + n) (length script))
        (λ u. on ∙ ap (with_command c) (sym (from_within script (at + n) (ltb-true (at + n) (length script) u))))
        (λ u.
        let none_left : drop (at + n) script ≡ [] =
        drop_of_length-le script (ltb-false (at + n) (length script) u) in
        absurd (omega (
          arith,
          sym (ap (λ (s : Script). s.number) (judged_refused false (at + n) [] 15 refl))
              ∙ ap (λ (bytes : List ℕ). (judge_from false (at + n) bytes).number) (sym none_left)
              ∙ good-on,
        )))

    after : judge_from first at (drop at script) ≡ with_command c (script_from script (at + n))
    after = by_test (is_end c.kind) after_the_end goes_on

    pub commands_are : (judge_from first at (drop at script)).commands ≡ c ∷ (script_from script (at + n)).commands
    commands_are = ap (λ (s : Script). s.commands) after

    pub rest_good : (script_from script (at + n)).number ≡ 0
    rest_good = sym (ap (λ (s : Script). s.number) after) ∙ good

-- The next command of a script that reads well: it has a byte or more, all within the script; what is behind it reads
-- well, and the slots that are left are its own and those behind it.
pub record Next (script : List ℕ) (at : ℕ) (c : Command) (n : ℕ) : Type 0 where
  pub some_bytes : 1 ≤ n
  pub within : at + n ≤ length script
  pub good_behind : (script_from script (at + n)).number ≡ 0
  pub calls_are : calls_from script at ≡ slots_of c ++ calls_from script (at + n)

-- A place behind the first command, before the end of the script.
module _ (script : List ℕ) (at : ℕ) (more : at < length script) (good : (script_from script at).number ≡ 0) where
  good_here : (judge_from false at (drop at script)).number ≡ 0
  good_here = sym (ap (λ (s : Script). s.number) (from_within script at more)) ∙ good

  pub none_refused : (n : ℕ) → refused n ≡ read_command false (drop at script) → ⊥
  none_refused = not-refused false script at good_here

  pub next_command : (c : Command) (n : ℕ) → taken c n ≡ read_command false (drop at script) → Next script at c n
  next_command c n e = record {
    some_bytes = (moves-on false script at c n (sym e)).0;
    within = (moves-on false script at c n (sym e)).1;
    good_behind = rest_good false script at good_here c n e;
    calls_are =
        ap (λ (s : Script). slots_of_all s.commands) (from_within script at more)
        ∙ ap slots_of_all (commands_are false script at good_here c n e);
  }

-- The first command of a script that was judged good.
module _ (script : List ℕ) (good : (judge script).number ≡ 0) where
  good_start : (judge_from true 0 (drop 0 script)).number ≡ 0
  good_start = sym (ap (λ (s : Script). s.number) (judged_from_start script)) ∙ good

  pub first_not_refused : (n : ℕ) → refused n ≡ read_command true script → ⊥
  first_not_refused = not-refused true script 0 good_start

  pub first_sizes : (q b k n : ℕ) (r : FirstSizes) → taken (command sizes (q ∷ b ∷ k ∷ [])) n ≡ read_command true script
      → r.queues ≡ q → r.block ≡ b → r.depth ≡ k → r.length ≡ n → SizesSays script r
  first_sizes q b k n r e eq eb ek en = record {
    sizes-are =
        ap (λ (i : ℕ). of.sizes i r.block r.depth) eq
        ∙ ap (λ (i : ℕ). of.sizes q i r.depth) eb
        ∙ ap (λ (i : ℕ). of.sizes q b i) ek
        ∙ sym (ap sizes_of all);
    calls_are = ap (calls_from script) place ∙ sym (ap slots_of_all all);
    rest_good =
        ap (λ (i : ℕ). (script_from script i).number) place ∙ rest_good true script 0 good_start c n e;
  }
    where
      c : Command
      c = command sizes (q ∷ b ∷ k ∷ [])

      place : r.length ≡ 0 + n
      place = omega (arith, en)

      all : (judge script).commands ≡ c ∷ (script_from script (0 + n)).commands
      all =
          ap (λ (s : Script). s.commands) (judged_from_start script)
          ∙ commands_are true script 0 good_start c n e
