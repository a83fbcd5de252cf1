-- The table of commands: a code stands for the kind in whose row it is and for no other, so that no two codes are
-- alike.
use mathlib.Core.Path.{◌≡◌, refl, sym, ◌∙◌, subst}
use mathlib.Core.List.{List, [], ◌∷◌, map}
use mathlib.Core.Option.{some, none}
use Prim.Native.Nat.{ℕ}
use lib.Dec.{eqb}
use borrow.Author.Tests.{eqb-true}
use Rattle.model.proofs.basics.Tests.{by_test, none_not_some, some_inj}
use Rattle.script_commands.specs.Commands.{Kind, sizes, idle, arrive, ask, both, idles, end}
use Rattle.script_commands.specs.Commands.{row, kinds, kind_among, kind_of}

-- "10: Q, b, K. 00: idle slot. 01: arrival queue, byte. 02: request queue. 03: arrival queue, byte, request queue.
-- 04: a 16-bit count .. of idle slots. 05: end." The codes are hex; other bytes are none.
pub paper-codes :
    map kind_of (16 ∷ 0 ∷ 1 ∷ 2 ∷ 3 ∷ 4 ∷ 5 ∷ [])
    ≡ some sizes ∷ some idle ∷ some arrive ∷ some ask ∷ some both ∷ some idles ∷ some end ∷ []
paper-codes = refl

pub other_codes : map kind_of (6 ∷ 10 ∷ 15 ∷ 17 ∷ 255 ∷ []) ≡ none ∷ none ∷ none ∷ none ∷ none ∷ []
other_codes = refl

-- Each kind has a code of its own.
pub kind_of_code : (k : Kind) → kind_of (row k).code ≡ some k
kind_of_code sizes = refl
kind_of_code idle = refl
kind_of_code arrive = refl
kind_of_code ask = refl
kind_of_code both = refl
kind_of_code idles = refl
kind_of_code end = refl

-- And no kind is found by another code than its own.
code_among : (ks : List Kind) (code : ℕ) (k : Kind) → kind_among ks code ≡ some k → (row k).code ≡ code
code_among [] code k e = absurd (none_not_some k e)
code_among (j ∷ ks) code k e =
    by_test (eqb (row j).code code)
    (λ t. subst (λ (i : Kind). (row i).code ≡ code) (some_inj j k (sym (rw t) ∙ e)) (eqb-true (row j).code code t))
    (λ t. code_among ks code k (sym (rw t) ∙ e))

pub code_of_kind : (code : ℕ) (k : Kind) → kind_of code ≡ some k → (row k).code ≡ code
code_of_kind code k e = code_among kinds code k e
