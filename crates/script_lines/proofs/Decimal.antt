-- The fewest digits that hold a number, as `io::decimal` puts them, are the number in decimal; and how many there are.
use mathlib.Core.Path.{◌≡◌, ap, sym, ◌∙◌}
use mathlib.Core.List.{[], ◌∷◌, ◌++◌}
use Prim.Native.Nat.{ℕ, zero, suc, ◌-◌, ◌*◌, ◌/◌, ◌%◌, ◌^◌, ◌≤◌, ◌<◌}
use native.Mathlib.Omega.{arith}
use native.Mathlib.Nat.{pow-suc, one-le-pow}
use lib.Dec.{ltb}
use lib.ListN.{length, length-append}
use borrow.Author.Tests.{ltb-true, ltb-false, lt-ltb, le-ltb}
use Rattle.io.specs.Digits.{hex_digit_ascii, last_digits, IsDigitCount}
use Rattle.model.proofs.basics.Tests.{by_test}
use Rattle.script_lines.specs.Lines.{digit, decimal_within, decimal}

-- More steps than the number itself all give the same digits.
enough_steps : (i j n : ℕ) → n < i → n < j → decimal_within i n ≡ decimal_within j n
enough_steps zero j n h g = absurd (omega arith)
enough_steps (suc i) zero n h g = absurd (omega arith)
enough_steps (suc i) (suc j) n h g =
    by_test (ltb n 10)
    (λ t. rw t)
    (λ t. let l : 10 ≤ n = ltb-false n 10 t in rw (t, enough_steps i j (n / 10) (omega arith) (omega arith)))

-- A decimal by its last digit.
pub decimal-one : (n : ℕ) → n < 10 → decimal n ≡ digit n ∷ []
unfolding decimal
decimal-one n h = rw (lt-ltb n 10 h)

pub decimal-more : (n : ℕ) → 10 ≤ n → decimal n ≡ decimal (n / 10) ++ digit (n % 10) ∷ []
unfolding decimal
decimal-more n h = rw (le-ltb n 10 h, enough_steps n (suc (n / 10)) (n / 10) (omega arith) (omega arith))

-- A glyph of `io` below ten is a digit.
glyph_digit : (d : ℕ) → d < 10 → hex_digit_ascii d ≡ digit d
glyph_digit d h = rw (lt-ltb d 10 h)

last_digit : (n : ℕ) → hex_digit_ascii (n % 10) ≡ digit (n % 10)
last_digit n = glyph_digit (n % 10) (omega arith)

-- The digits of `io` are the fewest, so that none of them is a zero in front.
pub digits_are_decimal : (k n : ℕ) → IsDigitCount 10 1 n k → last_digits 10 k n ≡ decimal n
digits_are_decimal zero n f = absurd (omega (arith, f.0))
digits_are_decimal (suc zero) n f =
    let l : n < 10 = f.1 in
    let e : n % 10 ≡ n = omega arith in
    ap (λ (d : ℕ). d ∷ []) (last_digit n ∙ ap digit e) ∙ sym (decimal-one n l)
digits_are_decimal (suc (suc k)) n f =
    let most : n < 10 ^ suc k * 10 = rw (pow-suc 10 (suc k)) at f.1 in
    let e : suc (suc k) - 1 ≡ suc k = omega arith in
    let least : 10 ^ suc k ≤ n = rw e at (f.2 (omega arith)) in
    let g : suc k - 1 ≡ k = omega arith in
    let tenth : 10 ^ k * 10 ≤ n = rw (pow-suc 10 k) at least in
    let some : 1 ≤ 10 ^ k = one-le-pow k 10 (omega arith) in
    let rest = digits_are_decimal (suc k) (n / 10) (omega arith, omega arith, λ h. rw g (omega arith)) in
    rw (rest, last_digit n) (sym (decimal-more n (omega arith)))

-- A number below 10 to the kth has at most k digits.
pub decimal-length : (k n : ℕ) → 1 ≤ k → n < 10 ^ k → length (decimal n) ≤ k
decimal-length zero n h g = absurd (omega arith)
decimal-length (suc zero) n h g = rw (decimal-one n g) (omega arith)
decimal-length (suc (suc k)) n h g =
    let most : n < 10 ^ suc k * 10 = rw (pow-suc 10 (suc k)) at g in
    let rest = decimal-length (suc k) (n / 10) (omega arith) (omega arith) in
    by_test (ltb n 10)
    (λ t. rw (decimal-one n (ltb-true n 10 t)) (omega arith))
    (λ t. rw (decimal-more n (ltb-false n 10 t), length-append) (omega arith))
