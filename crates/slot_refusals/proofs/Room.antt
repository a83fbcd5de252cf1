-- 10: whether the head can take a block, by its fill and the leaving cell.
use mathlib.Core.Path.{◌≡◌, refl, ap, sym, ◌∙◌}
use mathlib.Core.Bool.{true, true≢false}
use Rattle.std.specs.Prelude.{Option, Some, None, is_some}
use Prim.Native.Nat.{ℕ, ◌+◌, ◌-◌, ◌*◌, ◌≤◌, ◌<◌}
use native.Mathlib.Nat.{mul-le-mul}
use native.Mathlib.Omega.{arith}
use lib.Dec.{ltb}
use borrow.Author.Tests.{ltb-true, ltb-false, lt-ltb, le-ltb}
use Rattle.model.specs.Sizes.{Sizes, head_size}
use Rattle.model.specs.State.{Cell, empty, held, owed, owes}
use Rattle.model.proofs.basics.Tests.{by_test, eqb_same}
use Rattle.layout.specs.Entries.{cell_of}
use Rattle.layout.specs.Calls.{chosen_in}
use Rattle.layout.proofs.Cells.{cell_owed, cell_owes_nothing}
use Rattle.slot_refusals.specs.Says.{takes_byte, full_now}

-- 10. A head of accepted sizes takes a block where it is empty.
head_takes_block : (q b : ℕ) → 1 ≤ q → b ≤ 2 * (q * (b - 1)) + 1
head_takes_block q b low =
    omega (arith, mul-le-mul {n₁ = 1} {m₁ = b - 1} {n₂ = q} {m₂ = b - 1} low (omega arith))

nothing-taken : (c : Cell) → ((q : ℕ) → owes q c ≡ 0) → takes_byte c ≡ 0
nothing-taken empty f = refl
nothing-taken (held q v) f = refl
nothing-taken (owed q) f = absurd (omega (arith, rw (eqb_same q) at (f q)))

-- Of a block that is read.
module _ (s : Sizes) (fill cell : ℕ) where
  to_take : (read : Option ℕ) → is_some read ≡ true
      → ltb (head_size s) (fill - takes_byte (cell_of cell) + s.b) ≡ full_now s fill (cell_of cell) (chosen_in read)
  to_take (Some q) e = refl
  to_take None e = absurd (true≢false (sym e))

  module _ (read : Option ℕ) (some : is_some read ≡ true) where
    pub full-with_owed : 1 ≤ s.Q → 131072 ≤ cell
        → ltb (2 * (s.Q * (s.b - 1)) + 1 + 1) (fill + s.b) ≡ full_now s fill (cell_of cell) (chosen_in read)
    full-with_owed low h =
        by_test (ltb (head_size s) (fill - 1 + s.b))
        (λ t. rw t (lt-ltb (head_size s + 1) (fill + s.b)
        (omega (arith, ltb-true (head_size s) (fill - 1 + s.b) t, head_takes_block s.Q s.b low))))
        (λ t. rw t (le-ltb (head_size s + 1) (fill + s.b)
        (omega (arith, ltb-false (head_size s) (fill - 1 + s.b) t))))
        ∙ ap (λ (c : Cell). ltb (head_size s) (fill - takes_byte c + s.b)) (sym (cell_owed cell h))
        ∙ to_take read some

    pub full-without : cell < 131072
        → ltb (2 * (s.Q * (s.b - 1)) + 1) (fill + s.b) ≡ full_now s fill (cell_of cell) (chosen_in read)
    full-without h =
        ap (λ (n : ℕ). ltb (head_size s) (n + s.b)) (let e : fill ≡ fill - 0 = omega arith in e)
        ∙ ap (λ (n : ℕ). ltb (head_size s) (fill - n + s.b))
        (sym (nothing-taken (cell_of cell) (λ p. cell_owes_nothing cell p h)))
        ∙ to_take read some
