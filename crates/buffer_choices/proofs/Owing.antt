-- The test of step 3: a queue's margin and its stored bytes are above zero exactly where its head bytes and its stored
-- bytes exceed its Owed cells; and a block that is larger than the lookahead may count for less.
use mathlib.Core.Path.{◌≡◌, ap, sym, ◌∙◌}
use mathlib.Core.List.{List}
use Prim.Native.Nat.{ℕ, suc, ◌+◌, ◌-◌, ◌*◌, ◌≤◌, ◌<◌, ◌^◌, min}
use native.Mathlib.Nat.{mul-le-mul, min-eq_left, min-eq_right, mul-zero}
use native.Mathlib.Omega.{arith}
use lib.Dec.{ltb, leb}
use lib.IntN.{ℤ, pos, ◌+ℤ◌, ◌-ℤ◌}
use lib.Signed.{mag, lt_z}
use lib.ListN.{length}
use borrow.Author.Tests.{ltb-true, ltb-false, lt-ltb, le-ltb, leb-true, leb-false}
use Rattle.model.specs.Sizes.{lookahead}
use Rattle.model.specs.State.{count_of, owed_of, head_bytes, owed_cells}
use Rattle.model.specs.Slot.{is_owed}
use Rattle.model.proofs.basics.Tests.{by_test, by_zero}
use Rattle.layout.specs.Lengths.{head_places, cell_places}
use Rattle.layout.specs.Entries.{bytes_in, cells_in}
use Rattle.layout.proofs.Entries.{bytes-length}
use Rattle.caches.proofs.Tallies.{count_le}
use Rattle.layout.proofs.Cells.{cells_length}
use Rattle.lookahead.proofs.Turns.{owed_at_most}
use Rattle.layout.specs.declared.Regs.{Regs}
use Rattle.layout.specs.Views.{Arrays, sizes_in, state_in}
use Rattle.layout.specs.Figures.{blocks_in}
use Rattle.buffer_margin.proofs.Counting.{bytes-within, cells_within}
use Rattle.buffer.proofs.Signs.{difference_up, difference_down}
use Rattle.buffer_choices.proofs.Stored.{blocks-are}

-- Two tests that hold together.
same_test : (a b c d : ℕ) → (a < b → c < d) → (b ≤ a → d ≤ c) → ltb a b ≡ ltb c d
same_test a b c d f g =
    by_test (ltb a b)
    (λ t. t ∙ sym (lt-ltb c d (f (ltb-true a b t))))
    (λ t. t ∙ sym (le-ltb c d (g (ltb-false a b t))))

above_zero : (h o s : ℕ) → lt_z (pos 0) ((pos h -ℤ pos o) +ℤ pos s) ≡ ltb o (h + s)
above_zero h o s =
    by_test (ltb h o)
    (λ t. let less : h < o = ltb-true h o t in
    ap (λ (z : ℤ). lt_z (pos 0) (z +ℤ pos s)) (difference_down h o less)
    ∙ by_test (ltb s (suc (o - suc h)))
    (λ u. rw u (sym (le-ltb o (h + s) (omega (arith, less, ltb-true s (suc (o - suc h)) u)))))
    (λ u. rw u (same_test 0 (s - suc (o - suc h)) o (h + s) (λ a. omega (arith, less, a)) (λ a.
    omega (arith, less, ltb-false s (suc (o - suc h)) u, a)))))
    (λ t. let low : o ≤ h = ltb-false h o t in
    ap (λ (z : ℤ). lt_z (pos 0) (z +ℤ pos s)) (difference_up h o low)
    ∙ same_test 0 (h - o + s) o (h + s) (λ a. omega (arith, low, a)) (λ a. omega (arith, low, a)))

-- A block counts for 2,018 bytes at most: with one block that is more than there are cells.
block_enough : (b n o h : ℕ) → o ≤ cell_places → ltb o (h + min b 2018 * n) ≡ ltb o (h + b * n)
block_enough b n o h low =
    by_test (leb b 2018)
    (λ t. ap (λ (k : ℕ). ltb o (h + k * n)) (min-eq_left (leb-true b 2018 t)))
    (λ t. let large : 2018 ≤ b = omega (arith, leb-false b 2018 t) in
    ap (λ (k : ℕ). ltb o (h + k * n)) (min-eq_right large)
    ∙ by_zero n
    (λ z. ap (λ (k : ℕ). ltb o (h + k)) (ap (λ (k : ℕ). 2018 * k) z ∙ sym (ap (λ (k : ℕ). b * k) z ∙ mul-zero b)))
    (λ u. lt-ltb o (h + 2018 * n) (omega (arith, low, u))
    ∙ sym (lt-ltb o (h + b * n) (omega (arith, low, mul-le-mul large u)))))

-- Of the entries and cells of an array there are no more than it has, so that margin and stored bytes fit their type.
module _ (q n : ℕ) (xs : List ℕ) where
  pub heads_low : length xs ≡ head_places → count_of q (bytes_in n xs) ≤ head_places
  heads_low long =
      omega (
        arith,
        ap (count_of q) (bytes-within n head_places xs long),
        count_le q (bytes_in (min n head_places) xs),
        bytes-length (min n head_places) xs (omega (arith, long)),
      )

  pub owed_low : length xs ≡ cell_places → owed_of q (cells_in n xs) ≤ cell_places
  owed_low long =
      omega (
        arith,
        ap (owed_of q) (cells_within n cell_places xs long),
        owed_at_most q (cells_in (min n cell_places) xs),
        cells_length (min n cell_places) xs (omega (arith, long)),
      )

pub sum_fits : (h o s : ℕ) → h ≤ head_places → o ≤ cell_places → s ≤ 514590 → mag ((pos h -ℤ pos o) +ℤ pos s) < 2 ^ 31
sum_fits h o s f g k =
    by_test (ltb h o)
    (λ t. rw (difference_down h o (ltb-true h o t))
    (by_test (ltb s (suc (o - suc h))) (λ u. rw u (omega arith)) (λ u. rw u (omega arith))))
    (λ t. rw (difference_up h o (ltb-false h o t)) (omega arith))

-- The test of the code is the paper's.
pub owes-now : (regs : Regs) (m : Arrays) (q : ℕ) → length m.cells ≡ cell_places → {s : ℕ}
    → s ≡ min regs.block 2018 * blocks_in regs.queues m.stored q
    → lt_z (pos 0) ((pos (head_bytes (state_in regs m) q) -ℤ pos (owed_cells (state_in regs m) q)) +ℤ pos s)
    ≡ is_owed (state_in regs m) q
owes-now regs m q long {s} e =
    above_zero h o s
    ∙ ap (λ (k : ℕ). ltb o (h + k)) e
    ∙ block_enough regs.block (blocks_in regs.queues m.stored q) o h
    (owed_low q (lookahead (sizes_in regs)) m.cells long)
    ∙ ap (λ (n : ℕ). ltb o (h + regs.block * n)) (blocks-are regs.queues m.stored q m.firsts)
  where
    h : ℕ
    h = head_bytes (state_in regs m) q

    o : ℕ
    o = owed_cells (state_in regs m) q
