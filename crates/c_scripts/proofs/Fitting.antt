-- Numbers fit a command exactly where cutting its operands to their widths changes none of them: a number below its
-- width's bound is its own remainder, and what is behind the operands is told as 0. So the command of numbers that fit
-- has the operands that were given, and tells the same numbers. `fits_by_cutting` and `told_back` say it.
use mathlib.Core.Path.{◌≡◌, refl, ap, sym, ◌∙◌}
use mathlib.Core.Bool.{Bool, true, false, ◌&&◌}
use mathlib.Core.List.{List, [], ◌∷◌}
use mathlib.Core.Option.{some}
use Prim.Native.Nat.{ℕ, ◌%◌, ◌<◌, ◌≤◌}
use native.Mathlib.Nat.{mod-lt, mod-eq_of_lt}
use native.Mathlib.Omega.{arith}
use lib.Dec.{eqb, ltb}
use lib.ListN.{length, take, get_or}
use borrow.Author.Tests.{eqb-true, eqb-false, eq-eqb, ne_eqb, ltb-true, ltb-false}
use Rattle.model.proofs.basics.Tests.{by_test, and_left, and_right, true_not_false}
use Rattle.script_commands.specs.Commands.{Operand, size, queue, value, count, width, bound}
use Rattle.script_commands.specs.Commands.{Kind, sizes, idle, arrive, ask, both, idles, end, row, kind_of}
use Rattle.script_commands.specs.Commands.{Command, command, Fitting}
use Rattle.script_commands.proofs.Table.{code_of_kind}
use Rattle.c_scripts.specs.declared.Numbers.{Numbers}
use Rattle.c_scripts.specs.Says.{numbers_of, given, fitting, command_for, cut}

-- Two commands as numbers have the same operands.
abbrev pub same_operands : Numbers → Numbers → Bool
same_operands a b = eqb a.one b.one && (eqb a.two b.two && eqb a.three b.three)

pub alike : (n : Numbers) → (eqb n.code n.code && same_operands n n) ≡ true
alike n =
    rw (eq-eqb n.code n.code refl, eq-eqb n.one n.one refl, eq-eqb n.two n.two refl, eq-eqb n.three n.three refl) refl

-- One number.
bound-above : (o : Operand) → 0 < bound (width o)
bound-above size = omega arith
bound-above queue = omega arith
bound-above value = omega arith
bound-above count = omega arith

within_by_cutting : (o : Operand) (v : ℕ) → ltb v (bound (width o)) ≡ eqb (v % bound (width o)) v
within_by_cutting o v = by_test (ltb v (bound (width o)))
    (λ t. t ∙ sym (eq-eqb (v % bound (width o)) v (mod-eq_of_lt (ltb-true v (bound (width o)) t))))
    (λ t. t ∙ sym (ne_eqb (v % bound (width o)) v (λ e.
    absurd (omega (arith, e, ltb-false v (bound (width o)) t, mod-lt v (bound-above o))))))

zero_told : (v : ℕ) → eqb v 0 ≡ eqb 0 v
zero_told v = by_test (eqb v 0)
    (λ t. t ∙ sym (eq-eqb 0 v (sym (eqb-true v 0 t))))
    (λ t. t ∙ sym (ne_eqb 0 v (λ e. eqb-false v 0 t (sym e))))

-- Tests that are alike one by one are alike together.
both-alike : {s s' t t' : Bool} → s ≡ s' → t ≡ t' → (s && t) ≡ (s' && t')
both-alike e f = rw (e, f)

last_alike : {t t' : Bool} → t ≡ t' → (t && true) ≡ t'
last_alike {t} e = and_true t ∙ e
  where
    and_true : (u : Bool) → (u && true) ≡ u
    and_true true = refl
    and_true false = refl

all_equal : (x y z a b c : ℕ) → (eqb x a && (eqb y b && eqb z c)) ≡ true → (x ≡ a) × (y ≡ b) × (z ≡ c)
all_equal x y z a b c e =
    let rest = and_right (eqb x a) (eqb y b && eqb z c) e in (
      eqb-true x a (and_left (eqb x a) (eqb y b && eqb z c) e),
      eqb-true y b (and_left (eqb y b) (eqb z c) rest),
      eqb-true z c (and_right (eqb y b) (eqb z c) rest),
    )

-- No command has more than three operands.
at_most_three : (k : Kind) → length (row k).operands ≤ 3
at_most_three sizes = omega arith
at_most_three idle = omega arith
at_most_three arrive = omega arith
at_most_three ask = omega arith
at_most_three both = omega arith
at_most_three idles = omega arith
at_most_three end = omega arith

-- Three numbers.
module _ (a b c : ℕ) where
  abbrev three : List ℕ
  three = a ∷ b ∷ c ∷ []

  abbrev told : List ℕ → Bool
  told xs = eqb (get_or xs 0 0) a && (eqb (get_or xs 1 0) b && eqb (get_or xs 2 0) c)

  by_cutting : (os : List Operand) → length os ≤ 3 → fitting os three ≡ told (cut os three)
  by_cutting [] h = both-alike (zero_told a) (both-alike (zero_told b) (last_alike (zero_told c)))
  by_cutting (o ∷ []) h =
      both-alike (within_by_cutting o a) (both-alike (zero_told b) (last_alike (zero_told c)))
  by_cutting (o ∷ p ∷ []) h =
      both-alike (within_by_cutting o a) (both-alike (within_by_cutting p b) (last_alike (zero_told c)))
  by_cutting (o ∷ p ∷ q ∷ []) h =
      both-alike (within_by_cutting o a) (both-alike (within_by_cutting p b) (last_alike (within_by_cutting q c)))
  by_cutting (o ∷ p ∷ q ∷ r ∷ os) h = absurd (omega (arith, h))

pub fits_by_cutting : (k : Kind) (n : Numbers)
    → same_operands (numbers_of (command k (cut (row k).operands (given n)))) n ≡ fitting (row k).operands (given n)
fits_by_cutting k n = sym (by_cutting n.one n.two n.three (row k).operands (at_most_three k))

-- Numbers that fit are the operands, and each is within its width.
cut-nothing : (os : List Operand) (vs : List ℕ) → fitting os vs ≡ true → cut os vs ≡ take (length os) vs
cut-nothing [] vs fit = refl
cut-nothing (o ∷ os) [] fit = absurd (true_not_false false fit refl)
cut-nothing (o ∷ os) (v ∷ vs) fit =
    rw (
      mod-eq_of_lt (ltb-true v (bound (width o)) (and_left _ _ fit)),
      cut-nothing os vs (and_right (ltb v (bound (width o))) (fitting os vs) fit),
    )

pub operands_fit : (os : List Operand) (vs : List ℕ) → fitting os vs ≡ true → Fitting os (take (length os) vs)
operands_fit [] vs fit = tt
operands_fit (o ∷ os) [] fit = absurd (true_not_false false fit refl)
operands_fit (o ∷ os) (v ∷ vs) fit = (
  ltb-true v (bound (width o)) (and_left (ltb v (bound (width o))) (fitting os vs) fit),
  operands_fit os vs (and_right (ltb v (bound (width o))) (fitting os vs) fit),
)

module _ (k : Kind) (n : Numbers) (fit : fitting (row k).operands (given n) ≡ true) where
  pub cut-is : command k (cut (row k).operands (given n)) ≡ command_for k n
  cut-is = ap (command k) (cut-nothing (row k).operands (given n) fit)

  -- The command tells the numbers that were given.
  pub told_back : kind_of n.code ≡ some k → numbers_of (command_for k n) ≡ n
  told_back known =
      let equal = all_equal (operand 0) (operand 1) (operand 2) n.one n.two n.three same in
      rw (code_of_kind n.code k known, equal.0, equal.1, equal.2)
    where
      operand : ℕ → ℕ
      operand i = get_or (command_for k n).operands i 0

      same : same_operands (numbers_of (command_for k n)) n ≡ true
      same = ap (λ (c : Command). same_operands (numbers_of c) n) (sym cut-is) ∙ fits_by_cutting k n ∙ fit
